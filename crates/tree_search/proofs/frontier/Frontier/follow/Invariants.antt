-- Invariant: so many of the branches given are gone along.
use Rattle.std.specs.Prelude.{◌≡◌}
use Rattle.prelude.specs.Names.{List, ℕ}
use Rattle.model.specs.Problem.{Problem}
use Rattle.tree_paths.specs.Checkpoints.{path_of, branches_of}
use Rattle.tree_search.specs.Frontiers.{Open, AtRoot}
use Rattle.tree_search.proofs.frontier.Frontier.follow.Given as goal

abbrev pub invariant-loop-branch : goal.invariant-loop-branch
invariant-loop-branch l =
    (p : Problem) (given : List ℕ) → AtRoot p l.n l.length given l.fn.self l.fn.snapshots
    → Open p l.self l.snapshots (path_of l._branch given) × (l.self.branches ≡ branches_of (path_of l.length given))
