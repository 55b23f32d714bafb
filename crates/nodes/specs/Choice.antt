-- The branching place.
use Rattle.std.specs.Prelude.{◌&&◌, ◌||◌, ◌⊎◌, ◌≡◌, ◌+◌, ◌*◌, ◌^◌, ◌<◌, Option, Some, None}
use Rattle.prelude.specs.Names.{Bool, true, false, not, List, ℕ, get_or}
use Rattle.model.specs.Problem.{Problem}
use Rattle.model.specs.Domains.{Domains, overlap_bit, before_bit, after_bit, may_overlap}
use Rattle.model.specs.Branching.{packed, undecided, choice, Branch, first, second, branch_at}
use Rattle.model.specs.Order.{Rising}
use Rattle.domains.specs.Bits.{bit_at}
use Rattle.domains.specs.Queue.{no_changes}
use Rattle.domains.specs.Narrowed.{Grown}
use Rattle.domains.specs.declared.Place.{Place}
use Rattle.domains.specs.declared.store.Store.{Store}

-- "'before' known, one way or the other", of a domain
abbrev pub separates : ℕ → Bool
separates m = not (overlap_bit m) && (not (after_bit m) || not (before_bit m))

-- "more than one word left", of a domain
abbrev pub several : ℕ → Bool
several m = overlap_bit m && (before_bit m || after_bit m) || before_bit m && after_bit m

-- of the pair with this number, on some axis
abbrev pub separated_at : Domains → ℕ → Bool
separated_at k number = separates (get_or k (3 * number) 0) || (separates (get_or k (3 * number + 1) 0) || separates (get_or k (3 * number + 2) 0))

-- None exactly where every pair of n items has a known "before"; else the place that document 01 names
abbrev pub Chosen : Domains → ℕ → Option Place → Type 0
Chosen k n None = (p : Problem) → p.items ≡ n → packed p k ≡ true
Chosen k n (Some c) =
    (choice k ≡ record { axis = c.axis; u = c.u; v = c.v }) × Rising n c.axis c.u c.v × ((p : Problem) → p.items ≡ n → packed p k ≡ false)

-- a branch as a Boolean: whether it is the second
abbrev pub branch_by : Bool → Branch
branch_by true = second
branch_by false = first

-- domains that have more than one relation left at a place
pub record Branchable (k : Domains) (c : Place) : Type 0 where
  pub place : Rising 10 c.axis c.u c.v
  pub several_left : undecided k c.axis c.u c.v ≡ true

-- j is what the branch leaves of k; the queue has what it removed and nothing else
pub record Branched (k : Domains) (q : List ℕ) (c : Place) (b : Bool) (j : Domains) (rows r : List ℕ) : Type 0 where
  pub left : j ≡ branch_at (may_overlap k c.axis c.u c.v) (branch_by b) k c.axis c.u c.v
  pub grown : Grown k (no_changes q) j rows r

-- the same of a store, from entry to exit
abbrev pub Branches : Store → Place → Bool → Store → Type 0
Branches old c b new = Branched old.domains old.queue c b new.domains new.rows new.queue

-- the relations of a pair that a branch removes, by whether overlap is removed already: "before" one way, or the other way; overlap, or all else
abbrev pub Removed : Bool → Bool → ℕ → Type 0
Removed true true x = x ≡ 1
Removed true false x = x ≡ 2
Removed false true x = (x ≡ 2) ⊎ (x ≡ 1)
Removed false false x = x ≡ 0

-- a set as in a row, of the relations of P with v and of nothing else
pub record SetOf (s v : ℕ) (P : ℕ → Type 0) : Type 0 where
  pub small : s < 2 ^ 30
  pub has : (x : ℕ) → P x → (x < 3) × (bit_at s (x * 10 + v) ≡ true)
  pub only : (x y : ℕ) → y < 10 → bit_at s (x * 10 + y) ≡ true → P x × (y ≡ v)
