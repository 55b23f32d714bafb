-- Working off one pair of the queue.
use Rattle.std.specs.Prelude.{◌≡◌, Result, Ok, Err}
use Rattle.prelude.specs.Names.{Bool, true, cond, List, ℕ}
use Rattle.model.specs.Problem.{Problem}
use Rattle.model.specs.Domains.{Domains}
use Rattle.model.specs.Relations.{gone}
use Rattle.model.specs.Facts.{overlaps, Holds}
use Rattle.model.specs.Clauses.{of}
use Rattle.domains.specs.Narrowed.{Refuted}
use Rattle.domains.specs.declared.store.Store.{Store}
use Rattle.domains.specs.declared.store.Conflict.{Conflict}
use Rattle.chains.specs.Totals.{Fitting}
use Rattle.chains.specs.NewLinks.{Charted, Extended}
use Rattle.rules.specs.Worked.{Handled, Diagonal, Overlapping}
use Rattle.rules.specs.Mentions.{Mentioning}

-- the pair s, t on c is u, v on a, or, where v is the earlier, v, u
pub record InOrder (first : Bool) (a u v c s t : ℕ) : Type 0 where
  pub axis : c ≡ a
  pub earlier : s ≡ cond first u v
  pub later : t ≡ cond first v u

-- what rules 1 and 4 ask for by the pair, where it is known not to overlap or to overlap, is done
pub record Overlapped (a u v : ℕ) (k j : Domains) : Type 0 where
  pub across : gone k 0 a u v ≡ true → Handled (Diagonal a u v) k j
  pub along : Holds k (of overlaps a u v) → Handled (Overlapping a u v) k j

-- all rules with a premise of the pair: the totals go on along its link, and what the clauses ask for is done
abbrev pub WorkedIf : Problem → Domains → List ℕ → List ℕ → ℕ → ℕ → ℕ → ℕ → Domains → List ℕ → List ℕ → List ℕ → Result (Unit {0}) Conflict → Type 0
WorkedIf p k q t from a u v j rows r s (Ok _) = Extended p k q t from j rows r s × Handled (Mentioning a u v) k j
WorkedIf p k q t from a u v j rows r s (Err _) = Refuted (Fitting p t) k

-- of every problem of which the totals were charted but for the pair; the same of a store and of totals, from a function's entry to its exit
abbrev pub WorkedOff : ℕ → ℕ → ℕ → Domains → List ℕ → List ℕ → Domains → List ℕ → List ℕ → List ℕ → Result (Unit {0}) Conflict → Type 0
WorkedOff a u v k q t j rows r s b = (p : Problem) (from : ℕ) → Charted p k q t from a u v → WorkedIf p k q t from a u v j rows r s b

abbrev pub WorksOff : ℕ → ℕ → ℕ → Store → Store → List ℕ → List ℕ → Result (Unit {0}) Conflict → Type 0
WorksOff a u v old new t s = WorkedOff a u v old.domains old.queue t new.domains new.rows new.queue s
