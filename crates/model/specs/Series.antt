-- Numbered machines, one after the other from 0: where one would fail the next is opened instead, until the last. So are choices searched (document 02, #106).
use Rattle.std.specs.Prelude.{◌≡◌, ◌≤◌}
use Rattle.prelude.specs.Names.{ℕ, suc, cond, ltb}
use Rattle.model.specs.Machine.{Status, running, failed, succeeded, Machine}

-- the number of the machine that runs, and its state
pub record Stage (S : Type 0) : Type 0 where
  pub number : ℕ
  pub state : S

abbrev pub stage : {S : Type 0} → ℕ → S → Stage S
stage n κ = record { number = n; state = κ }

module _ {S : Type 0} (F : ℕ → Machine S) (last : ℕ) where
  -- where machine n has come to κ: "the step that would say "none" opens the next choice with an empty row instead, until the last"
  abbrev pub stage_by : Status → ℕ → S → Stage S
  stage_by running n κ = stage n κ
  stage_by failed n κ = cond (ltb n last) (stage (suc n) (F (suc n)).opening) (stage n κ)
  stage_by succeeded n κ = stage n κ

  abbrev pub stage_after : ℕ → S → Stage S
  stage_after n κ = stage_by ((F n).status κ) n κ

  abbrev pub series : Machine (Stage S)
  series = record {
    opening = stage 0 (F 0).opening;
    step = λ s. stage_after s.number ((F s.number).step s.state);
    status = λ s. (F s.number).status s.state;
  }

  -- the number is none "beyond the last", and it is the last where the machine has failed; the state follows in its own machine
  pub record StageFollows (Inner : ℕ → S → Type 0) (s : Stage S) : Type 0 where
    pub within : s.number ≤ last
    pub follows : Inner s.number s.state
    pub failed_last : (F s.number).status s.state ≡ failed → s.number ≡ last
