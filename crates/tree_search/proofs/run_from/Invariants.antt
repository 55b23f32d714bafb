-- Invariant: the path given is gone along, and so many steps have led on to the path whose domains the frontier has.
use Rattle.prelude.specs.Names.{List, ℕ}
use Rattle.model.specs.Branching.{Branch}
use Rattle.model.specs.Problem.{Problem}
use Rattle.instance.specs.Meaning.{problem_of}
use Rattle.nodes.specs.declared.snapshots.Snapshot.{Snapshot}
use Rattle.tree_paths.specs.Checkpoints.{path_of}
use Rattle.tree_search.specs.Frontiers.{AtPath}
use Rattle.tree_search.specs.declared.frontier.Frontier.{Frontier}
use Rattle.tree_search.proofs.Stepping.{PastPath}
use Rattle.tree_search.proofs.run_from.Given as goal

pub record CallState (p : Problem) (n budget : ℕ) (start : List Branch) (steps : ℕ) (f : Frontier) (s : List Snapshot) : Type 0 where
  pub path : List Branch
  pub at : AtPath p n f s path
  pub past : PastPath p budget start steps path f.branches

abbrev pub invariant-loop-steps : goal.invariant-loop-steps
invariant-loop-steps l = CallState (problem_of l.fn.valid.instance) l.n l.budget (path_of l.fn.path.length l.fn.path.branches) l.steps l.frontier l.snapshots
