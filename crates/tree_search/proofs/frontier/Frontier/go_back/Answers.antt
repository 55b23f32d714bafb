-- Where a branch is left, there is a snapshot to go back to; it is loaded, and the second branch taken.
use Rattle.prelude.specs.Names.{arith}
use Rattle.tree_paths.proofs.SearchState.{place_coded}
use Rattle.tree_search.proofs.Frontiers.{branches_held, none_left, last_level, last_laid, last_tabled, last_coded, last_rises, last_branchable, went_back}
use Rattle.tree_search.proofs.frontier.Frontier.go_back.Goals as goal

pub back-self-requires : goal.back-self-requires
back-self-requires c = branches_held c.requires.2

pub returns-then-self-eq0 : goal.returns-then-self-eq0
returns-then-self-eq0 c = λ p path h. none_left h c.back-self.ensures c.if-self-eq0.true

pub overflow_sub-self : goal.overflow_sub-self
overflow_sub-self c = (last_level c.requires.2 c.back-self.ensures c.if-self-eq0.false).0

pub offset_bounds-snapshots-self : goal.offset_bounds-snapshots-self
offset_bounds-snapshots-self c = omega (arith, (last_level c.requires.2 c.back-self.ensures c.if-self-eq0.false).1)

pub bounds-snapshots-self : goal.bounds-snapshots-self
bounds-snapshots-self c = (last_level c.requires.2 c.back-self.ensures c.if-self-eq0.false).1

pub load-requires-clause-laid : goal.load-requires-clause-laid
load-requires-clause-laid c = last_laid c.requires.2 c.back-self.ensures c.if-self-eq0.false _

pub load-requires-clause-tabled : goal.load-requires-clause-tabled
load-requires-clause-tabled c = last_tabled c.requires.2 c.back-self.ensures c.if-self-eq0.false _

pub place_of-place-requires : goal.place_of-place-requires
place_of-place-requires c = last_coded c.requires.2 c.back-self.ensures c.if-self-eq0.false _

pub pair_number-self-requires : goal.pair_number-self-requires
pair_number-self-requires c =
    let p = c.place_of-place in
    last_rises c.requires.2 c.back-self.ensures c.if-self-eq0.false _ p.result (place_coded p.result p.ensures)

pub apply_branch-requires-clause-laid : goal.apply_branch-requires-clause-laid
apply_branch-requires-clause-laid c = c.load.new.store.good.laid

pub apply_branch-requires-clause-branchable : goal.apply_branch-requires-clause-branchable
apply_branch-requires-clause-branchable c =
    let p = c.place_of-place in
    rw c.load.ensures.domains (last_branchable c.requires.2 c.back-self.ensures c.if-self-eq0.false _ p.result (place_coded p.result p.ensures))

pub returns : goal.returns
returns c = λ p path h.
    let at = c.place_of-place in
    went_back h c.back-self.ensures c.if-self-eq0.false _ at.result (place_coded at.result at.ensures) c.load.new.store _ c.load.new.totals
    c.load.ensures.domains c.load.ensures.totals c.apply_branch.ensures c.pair_number-self.ensures
