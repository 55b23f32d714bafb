use Rattle.std.specs.Prelude.{◌≡◌}
use Rattle.prelude.specs.Names.{arith, inl, inr}
use Rattle.model.proofs.Domains.{remove_overlap-up, remove_overlap_down}
use Rattle.model.proofs.Slots.{lt_or_gt}
use Rattle.domains.proofs.access.remove_overlap.Goals as goal

pub returns : goal.returns
returns c =
    let p = c.args.place in
    let k = c.args.k.now in
    elim (lt_or_gt p.u p.v p.proper.distinct) [
      | inl l ↦ let low : c.min.result ≡ p.u = omega (arith, c.min.ensures) in
          let high : c.max.result ≡ p.v = omega (arith, c.max.ensures) in
          cc (remove_overlap-up k p.axis l)
      | inr l ↦ let low : c.min.result ≡ p.v = omega (arith, c.min.ensures) in
          let high : c.max.result ≡ p.u = omega (arith, c.max.ensures) in
          cc (remove_overlap_down k p.axis l)
    ]
