-- What propagation in code comes to: domains with their rows, queue and totals, before it and after.
use Rattle.std.specs.Prelude.{◌∷◌, ◌⊎◌, ◌≡◌, ◌<◌, Result, Ok, Err}
use Rattle.prelude.specs.Names.{true, false, List, [], ℕ}
use Rattle.model.specs.Problem.{Problem}
use Rattle.model.specs.Domains.{Domains}
use Rattle.model.specs.Rules.{greatest_ending}
use Rattle.model.specs.Branching.{inconsistent}
use Rattle.model.specs.Facts.{Fact, Holds}
use Rattle.model.specs.Clauses.{Rule, AllHold, Obeyed}
use Rattle.model.specs.Toward.{Under, ClosedBut, NoPair, Closed}
use Rattle.domains.specs.Rows.{Laid}
use Rattle.domains.specs.Queue.{queue_end, Queued, Good}
use Rattle.domains.specs.declared.store.Store.{Store}
use Rattle.domains.specs.declared.store.Conflict.{Conflict}
use Rattle.chains.specs.Totals.{table, Tabled, Measured}
use Rattle.model.specs.Propagate as M

-- one of the facts is of a pair on the queue
abbrev pub SomeQueued : List ℕ → ℕ → ℕ → List Fact → Type 0
SomeQueued q from to [] = ⊥
SomeQueued q from to (c ∷ cs) = Queued q from to c.axis c.u c.v ⊎ SomeQueued q from to cs

-- a rule that still asks for something has a premise on the queue
abbrev pub Pending : Domains → List ℕ → ℕ → Type 0
Pending k q from = (ps : List Fact) (c : Fact) → Rule 10 ps c → AllHold k ps → Holds k c ⊎ SomeQueued q from (queue_end q) ps

-- domains of a problem with all that is still to be done on the queue, from its start on
pub record Ready (p : Problem) (k : Domains) (rows q t : List ℕ) : Type 0 where
  pub good : Good k rows q
  pub tabled : Tabled t
  pub measured : Measured p t
  pub pending : Pending k q 1
  pub under : Under p (table t) k
  pub closed : ClosedBut (λ x. Queued q 1 (queue_end q)) NoPair p k (table t)

-- domains at rest, consistent, with totals that are those of their greatest chains: what a snapshot keeps
pub record Rested (p : Problem) (k : Domains) (rows t : List ℕ) : Type 0 where
  pub laid : Laid k rows
  pub tabled : Tabled t
  pub measured : Measured p t
  pub obeyed : Obeyed 10 k
  pub under : Under p (table t) k
  pub closed : Closed p k (table t)
  pub exact : (a u : ℕ) → a < 3 → u < p.items → table t 2 a u ≡ greatest_ending p k a u

-- propagation ends in j, consistent; or what it ends in is inconsistent
pub record Propagated (p : Problem) (k j : Domains) (rows t : List ℕ) : Type 0 where
  pub is : j ≡ M.propagate p k
  pub consistent : inconsistent p j ≡ false
  pub rested : Rested p j rows t

abbrev pub Answered : Problem → Domains → Domains → List ℕ → List ℕ → Result (Unit {0}) Conflict → Type 0
Answered p k j rows t (Ok _) = Propagated p k j rows t
Answered p k j rows t (Err _) = inconsistent p (M.propagate p k) ≡ true

-- what a function answers of every problem for which store and totals were ready at its entry
abbrev pub Propagates : Store → Store → List ℕ → List ℕ → Result (Unit {0}) Conflict → Type 0
Propagates old new t s result = (p : Problem) → Ready p old.domains old.rows old.queue t → Answered p old.domains new.domains new.rows s result
