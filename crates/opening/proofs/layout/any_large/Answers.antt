-- The places of axis and item, as numbers below 30.
use Rattle.std.specs.Prelude.{◌≡◌, ◌+◌, ◌*◌, ◌/◌, ◌%◌}
use Rattle.prelude.specs.Names.{arith}
use Rattle.opening.proofs.layout.any_large.Goals as goal

pub returns-then-t-i : goal.returns-then-t-i
returns-then-t-i c =
    let i = c.loop-i.i in
    let e : 60 + i ≡ 60 + i / 10 * 10 + i % 10 = omega arith in
    (i / 10, i % 10, omega arith, omega arith, rw e at c.if-t-i.true)

pub returns : goal.returns
returns c = λ a u ha hu.
    let e : (a * 10 + u) / 10 ≡ a = omega arith in
    let f : 60 + (a * 10 + u) ≡ 60 + a * 10 + u = omega arith in
    rw (e, f) at (c.loop-i.invariant (a * 10 + u) (omega arith))
