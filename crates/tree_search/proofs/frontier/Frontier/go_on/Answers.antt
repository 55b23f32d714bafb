-- A branching point has a level and a branch to spare; what it shows is kept, and the branch taken.
use Rattle.prelude.specs.Names.{arith, sym}
use Rattle.tree_paths.proofs.SearchState.{place_coded}
use Rattle.tree_search.proofs.Frontiers.{fork_room, fork_rises, fork_branchable, went_on}
use Rattle.tree_search.proofs.frontier.Frontier.go_on.Goals as goal

pub bounds-self-self : goal.bounds-self-self
bounds-self-self c = (fork_room c.requires.2).0

pub offset_bounds-snapshots-self : goal.offset_bounds-snapshots-self
offset_bounds-snapshots-self c = omega (arith, (fork_room c.requires.2).1)

pub bounds-snapshots-self : goal.bounds-snapshots-self
bounds-snapshots-self c = (fork_room c.requires.2).1

pub overflow_add-self : goal.overflow_add-self
overflow_add-self c = omega (arith, (fork_room c.requires.2).1)

pub overflow_add-self-2 : goal.overflow_add-self-2
overflow_add-self-2 c = omega (arith, (fork_room c.requires.2).0)

pub pair_number-self-requires : goal.pair_number-self-requires
pair_number-self-requires c = fork_rises c.requires.2

pub apply_branch-requires-clause-laid : goal.apply_branch-requires-clause-laid
apply_branch-requires-clause-laid c = c.args.self.now.store.good.laid

pub apply_branch-requires-clause-branchable : goal.apply_branch-requires-clause-branchable
apply_branch-requires-clause-branchable c = fork_branchable c.requires.2

pub returns : goal.returns
returns c = λ p path h.
    let e = c.save.ensures in
    let coded = place_coded c.args.place (sym e.code) in
    rw c.from.ensures (went_on h c.save.new.self e.domains e.rows e.totals coded _ c.apply_branch.ensures c.pair_number-self.ensures)
