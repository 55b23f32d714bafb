-- Where a search is between two looks: a path of branching points, and the snapshots to go back to.
use Rattle.std.specs.Prelude.{◌∷◌, ◌++◌, ◌≡◌}
use Rattle.prelude.specs.Names.{List, [], ℕ, get_or, length}
use Rattle.model.specs.Branching.{Branch, choice, path_domains}
use Rattle.model.specs.FirstBranches.{saved, Passed}
use Rattle.model.specs.Problem.{Problem}
use Rattle.model.specs.Run.{look}
use Rattle.nodes.specs.Nodes.{slot_coded, Seen}
use Rattle.nodes.specs.declared.snapshots.Snapshot.{Snapshot}
use Rattle.model.specs.Search as S

-- snapshot i is of the path's domains; the measures m are behind the totals
pub record Kept (p : Problem) (s : List Snapshot) (m : List ℕ) (i : ℕ) (path : List Branch) : Type 0 where
  pub snapshot : Snapshot
  pub there : get_or s i snapshot ≡ snapshot
  pub long : length snapshot.totals ≡ 60
  pub seen : Seen p snapshot.domains snapshot.rows (snapshot.totals ++ m) path
  pub place : choice (path_domains p path) ≡ slot_coded snapshot.code

-- all that are kept, the last one first
abbrev pub Stacked : Problem → List Snapshot → List ℕ → List (List Branch) → Type 0
Stacked p s m [] = Unit {0}
Stacked p s m (path ∷ l) = Kept p s m (length l) path × Stacked p s m l

-- a path of branching points, with a snapshot of each at which it takes the first branch
pub record Standing (p : Problem) (m : List ℕ) (s : List Snapshot) (kept depth from : ℕ) (path : List Branch) : Type 0 where
  pub forks : S.Forking (look p) path
  pub passed : Passed (path_domains p path) from
  pub deep : depth ≡ length path
  pub many : kept ≡ length (saved path)
  pub room : length s ≡ 90
  pub stacked : Stacked p s m (saved path)
