-- From u over v, then from v over u.
use Rattle.prelude.specs.Names.{arith}
use Rattle.rules.proofs.Triangles.{paths_worked}
use Rattle.rules.proofs.paths.follow.Goals as goal

pub returns : goal.returns
returns c =
    paths_worked c.args.store.now.good.least c.in_ok-follow_from.ensures (omega arith, omega arith, omega arith)
    _ _ _ c.follow_from-2.result c.follow_from-2.ensures
