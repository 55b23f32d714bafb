-- Invariant: the array holds the path of the first i branches.
use Rattle.tree_paths.specs.Checkpoints.{path_of, PathIn}
use Rattle.tree_paths.proofs.path.path_branches.Given as goal

abbrev pub invariant-loop-i : goal.invariant-loop-i
invariant-loop-i l = PathIn (path_of l.i l.path.branches) l.branches l.i
