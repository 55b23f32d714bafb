use Rattle.std.specs.Prelude.{◌≡◌, ◌<◌}
use Rattle.prelude.specs.Names.{arith}
use Rattle.model.proofs.Domains.{remove_before-up, remove_before_down}
use Rattle.domains.proofs.access.remove_before.Goals as goal
use Rattle.domains.proofs.access.remove_before.Goals.{then-u-v, else-u-v}

pub returns : goal.returns
returns c =
    let p = c.args.place in
    let k = c.args.k.now in
    elim c.if-u-v.branch [
      | then-u-v w ↦ let l = w.if-u-v.true in
          let low : c.min.result ≡ p.u = omega (arith, l, c.min.ensures) in
          let high : c.max.result ≡ p.v = omega (arith, l, c.max.ensures) in
          cc (remove_before-up k p.axis l)
      | else-u-v w ↦ let l : p.v < p.u = omega (arith, p.proper.distinct, w.if-u-v.false) in
          let low : c.min.result ≡ p.v = omega (arith, l, c.min.ensures) in
          let high : c.max.result ≡ p.u = omega (arith, l, c.max.ensures) in
          cc (remove_before_down k p.axis l)
    ]
