-- The test fails at a branch that is neither 0 nor 1, and holds where there is none.
use Rattle.prelude.specs.Names.{arith, sym, lt-ltb, ltb-true, not-eq-not}
use Rattle.model.proofs.Below.{all-at, all_of}
use Rattle.tree_paths.specs.Checkpoints.{all_branches}
use Rattle.tree_paths.proofs.path.all_branches.Goals as goal

pub returns-then-branches-i-gt1 : goal.returns-then-branches-i-gt1
unfolding all_branches
returns-then-branches-i-gt1 c =
    sym (not-eq-not.0 (λ e. omega (arith, ltb-true _ _ (all-at c.args.n _ e c.loop-i.i (omega arith)), c.if-branches-i-gt1.true)))

pub returns : goal.returns
unfolding all_branches
returns c = sym (all_of c.args.n _ (λ j h. lt-ltb _ _ (c.loop-i.invariant j (omega arith))))
