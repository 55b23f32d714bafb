-- What every function that removes relations promises: only what was asked for is gone, and this is done. One record for all of them.
use Rattle.std.specs.Prelude.{◌⊎◌, ◌≢◌, ◌≡◌, ◌+◌, ◌*◌, ◌^◌, ◌≤◌, ◌<◌}
use Rattle.std.specs.Prelude.{Result, Ok, Err}
use Rattle.prelude.specs.Names.{true, false, List, ℕ, get_or}
use Rattle.model.specs.Domains.{Domains}
use Rattle.model.specs.Order.{Proper, ◌⊑◌}
use Rattle.model.specs.Relations.{gone, Filled}
use Rattle.model.specs.Facts.{Fact, Holds}
use Rattle.domains.specs.Bits.{bit_at}
use Rattle.domains.specs.Queue.{queue_end, Queued, Good}
use Rattle.domains.specs.declared.store.Store.{Store}
use Rattle.domains.specs.declared.store.Conflict.{Conflict}

-- from k to j relations are only removed, and each pair of which one is removed goes on the queue
pub record Grown (k : Domains) (q : List ℕ) (j : Domains) (rows r : List ℕ) : Type 0 where
  pub good : Good j rows r
  pub less : j ⊑ k
  pub up : queue_end q ≤ queue_end r
  pub old : (i : ℕ) → 1 ≤ i → i < queue_end q → get_or r i 0 ≡ get_or q i 0
  pub new : (c : Fact) → Proper 10 c.axis c.u c.v → Holds j c → Holds k c ⊎ Queued r (queue_end q) (queue_end r) c.axis c.u c.v

-- narrowed: no domains of G below k have lost anything, and D is done
pub record Narrowed (G D : Domains → Type 0) (k : Domains) (q : List ℕ) (j : Domains) (rows r : List ℕ) : Type 0 where
  pub grown : Grown k q j rows r
  pub low : (f : Domains) → G f → f ⊑ k → f ⊑ j
  pub done : D j

-- there are no domains of G below k
abbrev pub Refuted : (Domains → Type 0) → Domains → Type 0
Refuted G k = (f : Domains) → G f → f ⊑ k → ⊥

-- a function answers Ok where it has narrowed, and Err where there is nothing to be had
abbrev pub NarrowedIf : (Domains → Type 0) → (Domains → Type 0) → Domains → List ℕ → Domains → List ℕ → List ℕ → Result (Unit {0}) Conflict → Type 0
NarrowedIf G D k q j rows r (Ok _) = Narrowed G D k q j rows r
NarrowedIf G D k q j rows r (Err _) = Refuted G k

-- D is done, and every pair has a relation left
pub record FilledWith (D : Domains → Type 0) (f : Domains) : Type 0 where
  pub all : D f
  pub filled : Filled f

-- D is done, and nothing else; or that would leave nothing of a pair
abbrev pub RemovedOnly : (Domains → Type 0) → Domains → List ℕ → Domains → List ℕ → List ℕ → Type 0
RemovedOnly D = Narrowed D D

abbrev pub RemovedIf : (Domains → Type 0) → Domains → List ℕ → Domains → List ℕ → List ℕ → Result (Unit {0}) Conflict → Type 0
RemovedIf D = NarrowedIf (FilledWith D) D

-- For contracts: the above of a store, from entry to exit
abbrev pub NarrowsIf : (Domains → Type 0) → (Domains → Type 0) → Store → Store → Result (Unit {0}) Conflict → Type 0
NarrowsIf G D old new = NarrowedIf G D old.domains old.queue new.domains new.rows new.queue

abbrev pub Removes : (Domains → Type 0) → Store → Store → Type 0
Removes D old new = RemovedOnly D old.domains old.queue new.domains new.rows new.queue

abbrev pub RemovesIf : (Domains → Type 0) → Store → Store → Result (Unit {0}) Conflict → Type 0
RemovesIf D = NarrowsIf (FilledWith D) D

-- a relation is removed
abbrev pub One : ℕ → ℕ → ℕ → ℕ → Domains → Type 0
One x a u v f = gone f x a u v ≡ true

-- it is left, and so is another of the pair
pub record Spare (k : Domains) (x a u v : ℕ) : Type 0 where
  pub left : gone k x a u v ≡ false
  pub other : (y : ℕ) × (y < 3) × (y ≢ x) × (gone k y a u v ≡ false)

-- a relation of u is removed with each item of a set
abbrev pub Each : ℕ → ℕ → ℕ → ℕ → Domains → Type 0
Each x a u items f = (v : ℕ) → v < 10 → bit_at items v ≡ true → gone f x a u v ≡ true

-- items with which it can be: others than u
pub record Spares (k : Domains) (x a u items : ℕ) : Type 0 where
  pub small : items < 2 ^ 10
  pub spare : (v : ℕ) → v < 10 → bit_at items v ≡ true → (v ≢ u) × Spare k x a u v

-- all that stands in a set, as in the row of u, is removed
abbrev pub All : ℕ → ℕ → ℕ → Domains → Type 0
All a u s f = (x v : ℕ) → x < 3 → v < 10 → bit_at s (x * 10 + v) ≡ true → gone f x a u v ≡ true

-- .. and every pair has a relation left
abbrev pub Asked : ℕ → ℕ → ℕ → Domains → Type 0
Asked a u s = FilledWith (All a u s)

-- a set as in the row of u, with nothing of u itself
pub record Askable (a u s : ℕ) : Type 0 where
  pub axis : a < 3
  pub item : u < 10
  pub small : s < 2 ^ 30
  pub other : (x : ℕ) → x < 3 → bit_at s (x * 10 + u) ≡ false

-- all of it is left
abbrev pub Left : Domains → ℕ → ℕ → ℕ → Type 0
Left k a u s = (x v : ℕ) → x < 3 → v < 10 → bit_at s (x * 10 + v) ≡ true → gone k x a u v ≡ false
