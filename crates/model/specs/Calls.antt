-- One call of a search with a budget (document 01, "The search"). Of the search itself only that it is a machine: states, steps and when
-- they are finished.
use Rattle.prelude.specs.Names.{ℕ}
use Rattle.model.specs.Machine.{Status, running, failed, succeeded, Machine, steps, taken}

-- "It answers placed with the plan, none, or spent"
pub data Answer (P : Type 0) : Type 0 where
  budget_spent : Answer P
  no_packing : Answer P
  packing : P → Answer P

-- what a state answers; its plan counts where it is placed
abbrev pub answer_by : {P : Type 0} → Status → P → Answer P
answer_by running q = budget_spent
answer_by failed q = no_packing
answer_by succeeded q = packing q

-- "each with the note and the steps taken"
pub record Result (S P : Type 0) : Type 0 where
  pub answer : Answer P
  pub steps : ℕ
  pub checkpoint : S

module _ {S P : Type 0} (M : Machine S) (plan : S → P) where
  abbrev pub answer_at : S → Answer P
  answer_at κ = answer_by (M.status κ) (plan κ)

  -- one call on a checkpoint that follows its instance
  abbrev pub call : ℕ → S → Result S P
  call budget κ = record { answer = answer_at (steps M budget κ); steps = taken M budget κ; checkpoint = steps M budget κ }
