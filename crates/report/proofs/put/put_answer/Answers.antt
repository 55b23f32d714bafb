use Rattle.std.specs.Prelude.{◌∷◌}
use Rattle.prelude.specs.Names.{arith, []}
use Rattle.report.proofs.Puts.{rest-room, fields_short, line-put}
use Rattle.report.proofs.put.put_answer.Goals as goal

pub put_fields-requires : goal.put_fields-requires
put_fields-requires c =
    let short = fields_short 9 (c.args.steps ∷ []) (omega (arith, c.ranges.steps), tt) in
    rw c.from.ensures (rest-room c.put_bytes-at.new.out c.put_bytes-at.result _ (omega (arith, c.put_bytes-at.auto.out)))

pub returns : goal.returns
returns c =
    let a = c.args in
    let short = fields_short 9 (a.steps ∷ []) (omega (arith, c.ranges.steps), tt) in
    let w = c.put_bytes-at.ensures in
    let f = rw c.from.ensures at c.put_fields.ensures in
    let l = line-put a.word.now (a.steps ∷ []) a.out.now w.value f.value (omega (arith, f.value)) w.out_after f.out_after in
    record { value = (l.0, omega (arith, f.value)); out_after = l.1 }
