-- The search (document 01, "The search") over what a path of branches shows. A path is kept with its last branch first.
use Rattle.std.specs.Prelude.{◌≡◌, ◌⊎◌, ◌&&◌, ◌∷◌, ◌+◌, ◌<◌}
use Rattle.prelude.specs.Names.{Bool, true, false, List, [], ℕ, zero, suc}
use Rattle.model.specs.Machine.{Status, running, failed, succeeded, Machine}
use Rattle.model.specs.Branching.{Branch, first, second}

-- what a path shows: its domains are inconsistent ("contradictory"); each pair has a fixed "before"; or neither, "a branching point"
pub data Outlook : Type 0 where
  conflict complete fork : Outlook

-- "A note is open, none or placed, with a row of turns"; "a none note's row is empty"
pub data Checkpoint : Type 0 where
  open_at : List Branch → Checkpoint
  infeasible : Checkpoint
  packed_at : List Branch → Checkpoint

-- "drop the trailing second turns; if none is left, the note is none with an empty row; else the last first turn becomes second"
abbrev pub backtrack : List Branch → Checkpoint
backtrack [] = infeasible
backtrack (second ∷ path) = backtrack path
backtrack (first ∷ path) = open_at (second ∷ path)

-- "One step on an open note", by what its path shows
abbrev pub act : Outlook → List Branch → Checkpoint
act conflict path = backtrack path
act complete path = packed_at path
act fork path = open_at (first ∷ path)

abbrev pub step : (List Branch → Outlook) → List Branch → Checkpoint
step look path = act (look path) path

-- "The opening note is open with an empty row"
abbrev pub opening : Checkpoint
opening = open_at []

-- whether a checkpoint is open, none or placed, and its row
abbrev pub status : Checkpoint → Status
status (open_at path) = running
status infeasible = failed
status (packed_at path) = succeeded

abbrev pub checkpoint_path : Checkpoint → List Branch
checkpoint_path (open_at path) = path
checkpoint_path infeasible = []
checkpoint_path (packed_at path) = path

-- the search as a machine: its step, by cases and not by a λ, so that a rewriting finds `look` in it
abbrev pub next : (List Branch → Outlook) → Checkpoint → Checkpoint
next look (open_at path) = step look path
next look infeasible = infeasible
next look (packed_at path) = packed_at path

abbrev pub searching : (List Branch → Outlook) → Machine Checkpoint
searching look = record { opening = opening; step = next look; status = status }

-- "each shorter beginning of its row is a branching point"
abbrev pub Forking : (List Branch → Outlook) → List Branch → Type 0
Forking look [] = Unit {0}
Forking look (b ∷ path) = (look path ≡ fork) × Forking look path

-- "A note follows its sheet when each shorter beginning of its row is a branching point and a placed note's row is placed"
abbrev pub Follows : (List Branch → Outlook) → Checkpoint → Type 0
Follows look (open_at path) = Forking look path
Follows look infeasible = Unit {0}
Follows look (packed_at path) = Forking look path × (look path ≡ complete)

-- The same as tests. proofs/Run shows that they agree.
abbrev pub is_fork : Outlook → Bool
is_fork conflict = false
is_fork complete = false
is_fork fork = true

abbrev pub is_complete : Outlook → Bool
is_complete conflict = false
is_complete complete = true
is_complete fork = false

abbrev pub forking : (List Branch → Outlook) → List Branch → Bool
forking look [] = true
forking look (b ∷ path) = is_fork (look path) && forking look path

abbrev pub follows : (List Branch → Outlook) → Checkpoint → Bool
follows look (open_at path) = forking look path
follows look infeasible = true
follows look (packed_at path) = forking look path && is_complete (look path)

-- how many paths of at most w branches there are
abbrev pub path_count : ℕ → ℕ
path_count zero = 1
path_count (suc w) = suc (path_count w + path_count w)

-- All that the search needs of paths: X are the feasible packings, and `Admits path x` says that the path still admits x
pub record Laws (look : List Branch → Outlook) (X : Type 0) (Admits : List Branch → X → Type 0) (weight : List Branch → ℕ) : Type 0 where
  pub root_admits : (x : X) → Admits [] x
  pub conflict_admits_none : (path : List Branch) → Forking look path → look path ≡ conflict → (x : X) → Admits path x → ⊥
  pub fork_splits :
      (path : List Branch) → Forking look path → look path ≡ fork → (x : X) → Admits path x → Admits (first ∷ path) x ⊎ Admits (second ∷ path) x
  pub weight_falls : (path : List Branch) → Forking look path → look path ≡ fork → (b : Branch) → weight (b ∷ path) < weight path
