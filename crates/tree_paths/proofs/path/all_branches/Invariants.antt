-- Invariant: each of the first i is 0 or 1.
use Rattle.std.specs.Prelude.{◌<◌}
use Rattle.prelude.specs.Names.{ℕ, get_or}
use Rattle.tree_paths.proofs.path.all_branches.Given as goal

abbrev pub invariant-loop-i : goal.invariant-loop-i
invariant-loop-i l = (j : ℕ) → j < l.i → get_or l.branches j 0 < 2
