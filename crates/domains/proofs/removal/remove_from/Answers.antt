use Rattle.std.specs.Prelude.{◌≡◌}
use Rattle.prelude.specs.Names.{arith}
use Rattle.model.specs.Relations.{without}
use Rattle.domains.proofs.removal.remove_from.Goals as goal

pub returns-in-0 : goal.returns-in-0
returns-in-0 c = unfold without in rw c.in-0.is c.remove_overlap.ensures

pub returns-in-1 : goal.returns-in-1
returns-in-1 c = unfold without in rw c.in-1.is c.remove_before.ensures

pub returns-in_default : goal.returns-in_default
returns-in_default c = unfold without in
    let e : c.args.x ≡ 2 = omega arith in
    let (axis, u, v) = c.turned.ensures in
    rw (e, ← axis, ← u, ← v) c.remove_before-in_default.ensures
