-- Checkpoints as values (document 01, "The search"; a note is a checkpoint, a turn a branch, a row of turns a path).
-- The model keeps a path with its last branch first; a value has the first branch first.
use Rattle.std.specs.Prelude.{◌&&◌, ◌∷◌, ◌≡◌, ◌≤◌}
use Rattle.prelude.specs.Names.{Bool, true, List, [], ℕ, zero, suc, leb, ltb, eqb, length, get_or, set, replicate}
use Rattle.model.specs.Below.{all_below}
use Rattle.model.specs.Branching.{Branch, first, second}
use Rattle.model.specs.Run.{ChoiceCheckpoint, ChoiceFollows, choice_follows}
use Rattle.model.specs.Series.{stage}
use Rattle.model.specs.Turning.{Turnable}
use Rattle.instance.specs.declared.Checkpoint.{Checkpoint}
use Rattle.instance.specs.declared.Status.{Status}
use Rattle.instance.specs.declared.Status.TheVariants.{Open, Infeasible, Packed}
use Rattle.sheet.specs.Sheet.{max_branches}
use Rattle.model.specs.Search as S

-- "270 turns (0 first, 1 second, ..)"
abbrev pub branch_of : ℕ → Branch
branch_of zero = first
branch_of (suc b) = second

abbrev pub branch_number : Branch → ℕ
branch_number first = 0
branch_number second = 1

-- the path of the first n branches
abbrev pub path_of : ℕ → List ℕ → List Branch
path_of zero bs = []
path_of (suc n) bs = branch_of (get_or bs n 0) ∷ path_of n bs

abbrev pub value_path : Checkpoint → List Branch
value_path c = path_of c.length c.branches

abbrev pub with_status : Status → List Branch → S.Checkpoint
with_status Open path = S.open_at path
with_status Infeasible path = S.infeasible
with_status Packed path = S.packed_at path

-- "A note is open, none or placed, with a row of turns"; entries past the length are no part of it
unfoldable pub state_of : Checkpoint → S.Checkpoint
state_of c = with_status c.status (value_path c)

-- "The note holds the choice"
unfoldable pub checkpoint_of : Checkpoint → ChoiceCheckpoint
checkpoint_of c = stage c.choice (state_of c)

-- "a none note's row is empty"
abbrev pub length_allowed : Status → ℕ → Bool
length_allowed Open n = true
length_allowed Infeasible n = eqb n 0
length_allowed Packed n = true

-- "each first or second"
unfoldable pub all_branches : ℕ → List ℕ → Bool
all_branches n bs = all_below n (λ i. ltb (get_or bs i 0) 2)

-- "270 turns are limits"
unfoldable pub well_formed : Checkpoint → Bool
well_formed c = leb c.length max_branches && (length_allowed c.status c.length && all_branches c.length c.branches)

-- 10 is for any other value than one "that follows its sheet"
unfoldable pub following : Turnable → Checkpoint → Bool
following t c = well_formed c && choice_follows t (checkpoint_of c)

-- the same as a statement. The proofs of `search`, Claim, show that they agree
pub record Following (t : Turnable) (c : Checkpoint) : Type 0 where
  pub is_well_formed : well_formed c ≡ true
  pub follows : ChoiceFollows t (checkpoint_of c)

-- the first n are branches of a path
pub record Bits (n : ℕ) (bs : List ℕ) : Type 0 where
  pub within : n ≤ max_branches
  pub bits : all_branches n bs ≡ true

-- each branch at its place, "0 past the length"
unfoldable pub branches_of : List Branch → List ℕ
branches_of [] = replicate max_branches 0
branches_of (b ∷ path) = set (branches_of path) (length path) (branch_number b)

-- the value that holds a checkpoint of a choice
unfoldable pub value_at : ℕ → S.Checkpoint → Checkpoint
value_at n (S.open_at path) = record { status = Open; length = length path; branches = branches_of path; choice = n }
value_at n S.infeasible = record { status = Infeasible; length = 0; branches = branches_of []; choice = n }
value_at n (S.packed_at path) = record { status = Packed; length = length path; branches = branches_of path; choice = n }

abbrev pub value_of : ChoiceCheckpoint → Checkpoint
value_of s = value_at s.number s.state

-- the branches of a path in an array, and how many they are
pub record PathIn (path : List Branch) (bs : List ℕ) (n : ℕ) : Type 0 where
  pub many : n ≡ length path
  pub entries : bs ≡ branches_of path

-- what the step back comes to: branches in the array, or none left
pub data Backed : S.Checkpoint → List ℕ → ℕ → Type 0 where
  some_left : {path : List Branch} {bs : List ℕ} {n : ℕ} → PathIn path bs n → Backed (S.open_at path) bs n
  none_left : {bs : List ℕ} → Backed S.infeasible bs 0
