use Rattle.std.specs.Prelude.{◌∷◌}
use Rattle.prelude.specs.Names.{arith, []}
use Rattle.report.specs.Decimal.{decimal}
use Rattle.report.specs.Text.{item_line}
use Rattle.report.proofs.Decimals.{decimal_short}
use Rattle.report.proofs.Puts.{rest-room, item_short, line-put}
use Rattle.report.proofs.put.put_item.Goals as goal

pub put_decimal-at-requires : goal.put_decimal-at-requires
put_decimal-at-requires c = omega (arith, decimal_short 0 c.args.u (omega arith))

pub put_fields-requires : goal.put_fields-requires
put_fields-requires c =
    let p = c.args.p in
    let short = item_short p.x p.y p.t c.args.mark (omega arith) (omega arith) (omega arith) (omega (arith, c.ranges.mark)) in
    let number = decimal_short 0 c.args.u (omega arith) in
    rw (c.from.ensures, c.from-2.ensures, c.from-3.ensures, c.from-4.ensures)
    (rest-room c.put_decimal-at.new.out c.put_decimal-at.result _ (omega (arith, c.put_decimal-at.auto.out)))

pub returns : goal.returns
unfolding item_line
returns c =
    let a = c.args in
    let p = a.p in
    let short = item_short p.x p.y p.t a.mark (omega arith) (omega arith) (omega arith) (omega (arith, c.ranges.mark)) in
    let number = decimal_short 0 a.u (omega arith) in
    let w = c.put_decimal-at.ensures in
    let f = rw (c.from.ensures, c.from-2.ensures, c.from-3.ensures, c.from-4.ensures) at c.put_fields.ensures in
    let l = line-put (decimal a.u) (p.x ∷ p.y ∷ p.t ∷ a.mark ∷ []) a.out.now w.value f.value (omega (arith, f.value)) w.out_after f.out_after in
    record { value = (l.0, omega (arith, f.value)); out_after = l.1 }
