-- No look is behind it.
use Rattle.prelude.specs.Names.{[], refl, ◌∙◌, arith}
use Rattle.model.specs.Run.{look}
use Rattle.tree_paths.specs.Checkpoints.{path_of, branches_of}
use Rattle.tree_search.specs.Results.{not_following, infeasible_after, spent_after}
use Rattle.tree_search.proofs.Outcomes.{forking_fails, result_unfollowed}
use Rattle.tree_search.proofs.Stepping.{past_start, result_infeasible, result_spent}
use Rattle.model.specs.Search as S
use Rattle.tree_search.proofs.dead_end.Goals as goal

pub returns-then-length-ne0 : goal.returns-then-length-ne0
unfolding not_following
returns-then-length-ne0 c = λ p given e.
    let n = c.args.length in
    c.of.ensures ∙ result_unfollowed p c.args.budget (S.open_at (path_of n given)) (forking_fails (look p) given 0 n (omega (arith, c.if-length-ne0.true)) (rw e))

pub returns-then-budget-eq0 : goal.returns-then-budget-eq0
unfolding spent_after branches_of
returns-then-budget-eq0 c = λ p given e.
    rw (c.if-length-ne0.false, c.if-budget-eq0.true) (c.of-then-budget-eq0.ensures ∙ result_spent (past_start {p = p} {start = []} tt refl) refl refl)

pub returns : goal.returns
unfolding infeasible_after
returns c = λ p given e.
    rw c.if-length-ne0.false (c.of-2.ensures ∙ result_infeasible (past_start {p = p} {start = []} tt refl) (omega (arith, c.if-budget-eq0.false)) e refl)
