-- Invariant: whatever path the array held, it holds that path without some of its trailing second branches, and the step back from both is the same.
use Rattle.std.specs.Prelude.{◌≡◌, ◌≤◌}
use Rattle.prelude.specs.Names.{List, length}
use Rattle.model.specs.Branching.{Branch}
use Rattle.model.specs.Search as S
use Rattle.tree_paths.specs.Checkpoints.{PathIn}
use Rattle.tree_paths.proofs.path.back.Given as goal

abbrev pub invariant-loop-last : goal.invariant-loop-last
invariant-loop-last l =
    (l.last ≤ l.length)
    × (length l.branches ≡ 270)
    × ((start : List Branch) → PathIn start l.fn.branches l.length
    → (path : List Branch) × PathIn path l.branches l.last × (S.backtrack start ≡ S.backtrack path))
