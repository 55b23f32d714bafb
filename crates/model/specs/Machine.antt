-- A machine that takes steps from an opening state until it is finished: what calls with a budget, and the claim about them, are stated over.
use Rattle.std.specs.Prelude.{◌<◌}
use Rattle.prelude.specs.Names.{ℕ, zero, suc}

-- "A note is open, none or placed": open is running, none failed, placed succeeded
pub data Status : Type 0 where
  running failed succeeded : Status

pub record Machine (S : Type 0) : Type 0 where
  pub opening : S
  -- "One step on an open note"; of a finished state it is never taken
  pub step : S → S
  pub status : S → Status

-- open, and "finished": none or placed
abbrev pub Running : Status → Type 0
Running running = Unit {0}
Running failed = ⊥
Running succeeded = ⊥

abbrev pub Ended : Status → Type 0
Ended running = ⊥
Ended failed = Unit {0}
Ended succeeded = Unit {0}

module _ {S : Type 0} (M : Machine S) where
  abbrev pub Open : S → Type 0
  Open κ = Running (M.status κ)

  abbrev pub Finished : S → Type 0
  Finished κ = Ended (M.status κ)

  -- the state after i steps, or fewer where it is finished
  abbrev pub steps : ℕ → S → S
  steps zero κ = κ
  steps (suc i) κ = elim (M.status κ) [ running ↦ steps i (M.step κ) | failed ↦ κ | succeeded ↦ κ ]

  -- "A call takes steps while its note is open and its allowance lasts": how many of its budget
  abbrev pub taken : ℕ → S → ℕ
  taken zero κ = 0
  taken (suc i) κ = elim (M.status κ) [ running ↦ suc (taken i (M.step κ)) | failed ↦ 0 | succeeded ↦ 0 ]

  -- "takes steps from the opening note until the note is finished. The number of these steps": c steps on it is finished, and before that
  -- it is open
  pub record Count (κ : S) (c : ℕ) : Type 0 where
    pub finished : Finished (steps c κ)
    pub before : (i : ℕ) → i < c → Open (steps i κ)

  -- what holds of the opening state and stays so with each step
  pub record Invariant (I : S → Type 0) : Type 0 where
    pub opens : I M.opening
    pub keeps : (κ : S) → Open κ → I κ → I (M.step κ)
