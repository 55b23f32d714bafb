use Rattle.std.specs.Prelude.{◌∷◌}
use Rattle.prelude.specs.Names.{arith, []}
use Rattle.report.specs.Text.{refused_word}
use Rattle.report.proofs.Puts.{rest-room, fields_short, line-put}
use Rattle.report.proofs.refused.Goals as goal

pub put_fields-requires : goal.put_fields-requires
put_fields-requires c =
    let short = fields_short 19 (c.from.result ∷ c.place.result ∷ []) (omega arith, (omega arith, tt)) in
    rest-room c.put_bytes-at.new.out c.put_bytes-at.result _ (omega (arith, c.put_bytes-at.auto.out))

pub returns : goal.returns
returns c =
    let ns = c.from.result ∷ c.place.result ∷ [] in
    let short = fields_short 19 ns (omega arith, (omega arith, tt)) in
    let w = c.put_bytes-at.ensures in
    let f = c.put_fields.ensures in
    let l = line-put refused_word ns c.args.out.now w.value f.value (omega (arith, f.value)) w.out_after f.out_after in
    rw (← c.number.ensures, ← c.place.ensures, ← c.from.ensures) (record { value = (l.0, omega (arith, f.value)); out_after = l.1 })
