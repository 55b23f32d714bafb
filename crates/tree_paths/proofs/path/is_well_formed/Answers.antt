-- The three tests are the definition's.
use Rattle.std.specs.Prelude.{◌≡◌}
use Rattle.prelude.specs.Names.{arith, true, false, true≢false, sym, ◌∙◌, le-leb, lt-leb}
use Rattle.tree_paths.specs.Checkpoints.{well_formed}
use Rattle.tree_paths.proofs.path.is_well_formed.Goals as goal
use Rattle.tree_paths.proofs.path.is_well_formed.Goals.{then-checkpoint-le-MAX_BRANCHES, else-checkpoint-le-MAX_BRANCHES}

pub returns-then-length_allowed : goal.returns-then-length_allowed
unfolding well_formed
returns-then-length_allowed c = elim c.if-checkpoint-le-MAX_BRANCHES.branch [
  | then-checkpoint-le-MAX_BRANCHES w ↦ simp (
    le-leb c.args.checkpoint.length 270 (omega arith),
    ← w.length_allowed.ensures,
    sym w.value-is ∙ c.if-length_allowed.true,
  ) c.all_branches.ensures
  | else-checkpoint-le-MAX_BRANCHES w ↦ let e : true ≡ false = sym c.if-length_allowed.true ∙ (w.value-is ∙ lt-leb _ 270 (omega arith)) in absurd (true≢false e)
]

pub returns-else-length_allowed : goal.returns-else-length_allowed
unfolding well_formed
returns-else-length_allowed c = elim c.if-checkpoint-le-MAX_BRANCHES.branch [
  | then-checkpoint-le-MAX_BRANCHES w ↦ rw c.if-length_allowed.false (simp (
    le-leb c.args.checkpoint.length 270 (omega arith),
    ← w.length_allowed.ensures,
    sym w.value-is ∙ c.if-length_allowed.false,
  ))
  | else-checkpoint-le-MAX_BRANCHES w ↦ rw c.if-length_allowed.false (simp (lt-leb c.args.checkpoint.length 270 (omega arith)))
]
