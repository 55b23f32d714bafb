-- Rule 5 where a link is new: totals extended along it and on from there, and what they find too long removed.
use Rattle.std.specs.Prelude.{◌⊎◌, ◌≤◌}
use Rattle.std.specs.Prelude.{Result, Ok, Err}
use Rattle.prelude.specs.Names.{List, ℕ}
use Rattle.model.specs.Problem.{Problem}
use Rattle.model.specs.Domains.{Domains}
use Rattle.model.specs.Order.{◌⊑◌}
use Rattle.model.specs.Toward.{Under, ClosedBut, NoPair}
use Rattle.domains.specs.Queue.{SamePair, queue_end, Queued}
use Rattle.domains.specs.Narrowed.{Narrowed, Refuted}
use Rattle.domains.specs.declared.store.Store.{Store}
use Rattle.domains.specs.declared.store.Conflict.{Conflict}
use Rattle.chains.specs.Totals.{table, Tabled, Measured, Fitting}

-- of the problem p the totals go on along every link but those of the pair u, v on a and of pairs on the queue from a place on; every cut is made
pub record Charted (p : Problem) (k : Domains) (q t : List ℕ) (from a u v : ℕ) : Type 0 where
  pub measured : Measured p t
  pub first : 1 ≤ from
  pub within : from ≤ queue_end q
  pub closed : ClosedBut (λ x b s z. Queued q from (queue_end q) b s z ⊎ SamePair a u v b s z) NoPair p k (table t)

-- .. and now along that of the pair too
pub record Extended (p : Problem) (k : Domains) (q t : List ℕ) (from : ℕ) (j : Domains) (rows r s : List ℕ) : Type 0 where
  pub narrowed : Narrowed (Fitting p t) (λ i. ClosedBut (λ x. Queued r from (queue_end r)) NoPair p i (table s)) k q j rows r
  pub measured : Measured p s
  pub tabled : Tabled s
  pub under : (f : Domains) → Fitting p t f → f ⊑ k → Under p (table s) f

-- .. which the function answers by Ok; by Err that there is nothing to be had
abbrev pub ExtendedIf : Problem → Domains → List ℕ → List ℕ → ℕ → Domains → List ℕ → List ℕ → List ℕ → Result (Unit {0}) Conflict → Type 0
ExtendedIf p k q t from j rows r s (Ok _) = Extended p k q t from j rows r s
ExtendedIf p k q t from j rows r s (Err _) = Refuted (Fitting p t) k

-- of every problem of which the totals were charted but for the pair
abbrev pub ExtendedAlong : ℕ → ℕ → ℕ → Domains → List ℕ → List ℕ → Domains → List ℕ → List ℕ → List ℕ → Result (Unit {0}) Conflict → Type 0
ExtendedAlong a u v k q t j rows r s b = (p : Problem) (from : ℕ) → Charted p k q t from a u v → ExtendedIf p k q t from j rows r s b

-- For contracts: the above of a store and of totals, from entry to exit
abbrev pub ExtendsAlong : ℕ → ℕ → ℕ → Store → Store → List ℕ → List ℕ → Result (Unit {0}) Conflict → Type 0
ExtendsAlong a u v old new t s = ExtendedAlong a u v old.domains old.queue t new.domains new.rows new.queue s
