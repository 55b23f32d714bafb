-- One step from the path comes to it again, or the path does not follow.
use Rattle.std.specs.Prelude.{◌≡◌}
use Rattle.prelude.specs.Names.{inl, inr, ◌∙◌, ℕ, arith}
use Rattle.instance.specs.Meaning.{problem_of}
use Rattle.tree_paths.specs.Checkpoints.{path_of}
use Rattle.tree_search.specs.Results.{not_following, packed_after}
use Rattle.tree_search.proofs.Outcomes.{again_packed, again_not}
use Rattle.tree_search.proofs.repeat.Goals as goal

pub returns-in-Packed : goal.returns-in-Packed
unfolding packed_after
returns-in-Packed c = λ budget.
    rw c.in-Packed.is (again_packed (problem_of c.args.valid.instance) (path_of c.args.path.length c.args.path.branches) c.run-again.ensures budget c.in-Packed.is)

pub returns-in-Infeasible : goal.returns-in-Infeasible
unfolding not_following
returns-in-Infeasible c = λ budget.
    c.of.ensures ∙ again_not (problem_of c.args.valid.instance) (path_of c.args.path.length c.args.path.branches) c.run-again.ensures budget
    (λ n. elim c.in-Infeasible.is [
      | inl m ↦ let z : ◌≡◌ {A = ℕ} 0 1 = cc in omega arith
      | inr m ↦ elim m [
        | inl m ↦ let z : ◌≡◌ {A = ℕ} 0 1 = cc in omega arith
        | inr m ↦ let z : ◌≡◌ {A = ℕ} 0 1 = cc in omega arith
      ]
    ])
