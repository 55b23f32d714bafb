-- A look shows where the next branch starts, and the branch is taken; or that the path does not follow.
use Rattle.std.specs.Prelude.{◌≡◌}
use Rattle.prelude.specs.Names.{arith}
use Rattle.tree_paths.specs.Checkpoints.{path_of}
use Rattle.model.specs.Run.{look}
use Rattle.tree_search.proofs.Frontiers.{on_path, path_due, at_fork, no_fork, followed}
use Rattle.tree_search.proofs.Outcomes.{forking_fails}
use Rattle.tree_search.proofs.frontier.Frontier.follow.Goals as goal

pub loop-branch-init : goal.loop-branch-init
loop-branch-init c = λ p given h. (h.here, h.held)

pub look-requires : goal.look-requires
look-requires c =
    let (p, given, h) = c.requires in
    let (here, held) = c.loop-branch.invariant p given h in
    (p, path_of c.loop-branch._branch given, c.loop-branch.snapshots, on_path h c.loop-branch._branch here held)

pub returns-in_default : goal.returns-in_default
returns-in_default c = λ p given h.
    let (here, held) = c.loop-branch.invariant p given h in
    let i = c.loop-branch._branch in
    forking_fails (look p) given i c.args.length c.loop-branch-test.true
    (no_fork p (path_of i given) _ _ _ c.look.result (c.look.ensures p (path_of i given) _ (on_path h i here held)).looked c.in_default.not-Fork)

pub go_on-requires : goal.go_on-requires
go_on-requires c =
    let (p, given, h) = c.requires in
    let (here, held) = c.loop-branch.invariant p given h in
    let path = path_of c.loop-branch._branch given in
    let on = on_path h c.loop-branch._branch here held in
    (p, path, at_fork on (c.in-Fork.ensures p path _ on) (path_due h c.loop-branch._branch here held c.loop-branch.self.depth))

pub loop-branch-preserved : goal.loop-branch-preserved
loop-branch-preserved c = λ p given h.
    let (here, held) = c.loop-branch.invariant p given h in
    let i = c.loop-branch._branch in
    let on = on_path h i here held in
    let shows = c.in-Fork.ensures p (path_of i given) _ on in
    let fork = at_fork on shows (path_due h i here held c.loop-branch.self.depth) in
    followed h i here held c.loop-branch-test.true shows (c.go_on.ensures p (path_of i given) fork)

pub returns : goal.returns
returns c = λ p given h. let e : c.loop-branch._branch ≡ c.args.length = omega arith in rw e at (c.loop-branch.invariant p given h)
