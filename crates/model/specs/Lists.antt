-- The claim about a whole list of search calls (document 01, "The search": "a single claim about a whole list of search calls and not one
-- for each call"). It is over any machine M and over any service of its calls, in values or on bytes.
use Rattle.std.specs.Prelude.{◌∷◌, ◌++◌, ◌↔◌, ◌≡◌, ◌+◌, ◌≤◌, ◌<◌}
use Rattle.prelude.specs.Names.{Bool, true, false, cond, List, [], ℕ, min, ltb}
use Rattle.model.specs.Machine.{Status, running, failed, succeeded, Machine, steps, taken}

-- How calls are served: S are the machine's states, C the calls, X is what holds the note, P what holds a plan
pub record Service (S C X P : Type 0) : Type 0 where
  -- what the first call gets
  pub opening : X
  -- the call's allowance
  pub budget : C → ℕ
  -- whether the call meets no condition of the table
  pub admitted : C → Bool
  -- what a call on a note returns: "0 spent, 1 placed, 2 none, or a refusal", 100 plus its number
  pub code : C → X → ℕ
  -- the note that it returns or leaves
  pub next : C → X → X
  -- the steps that it returns
  pub steps : C → X → ℕ
  -- the plan that it returns, or what the plan bytes hold then
  pub plan : C → X → P
  -- how a state is held, and the plan of a placed one
  pub hold : S → X
  pub plan_of : S → P
  -- what stands for the plan where the call does not answer placed
  pub no_plan : C → P

-- "0 spent, 1 placed, 2 none"
abbrev pub status_number : Status → ℕ
status_number running = 0
status_number succeeded = 1
status_number failed = 2

-- what counts of a call that returns this number: nothing where it is refused
abbrev pub if_answered : ℕ → ℕ → ℕ
if_answered code m = cond (ltb code 100) m 0

module _ {S C X P : Type 0} (w : Service S C X P) where
  -- "each later one the note that the last returned or left"
  abbrev pub held_from : X → List C → X
  held_from x [] = x
  held_from x (c ∷ cs) = held_from (w.next c x) cs

  -- "The first gets the opening note"
  abbrev pub held : List C → X
  held cs = held_from w.opening cs

  -- added up over the calls that are not refused
  abbrev pub added : (C → X → ℕ) → X → List C → ℕ
  added f x [] = 0
  added f x (c ∷ cs) = if_answered (w.code c x) (f c x) + added f (w.next c x) cs

  -- "The sum at any point adds the allowances of the calls so far that were not refused"
  abbrev pub budget_sum : List C → ℕ
  budget_sum cs = added (λ c x. w.budget c) w.opening cs

  -- "the steps returned by the calls not refused"
  abbrev pub step_sum : List C → ℕ
  step_sum cs = added w.steps w.opening cs

  -- what the call c returns after the calls `earlier`, and its plan
  abbrev pub returned_code : List C → C → ℕ
  returned_code earlier c = w.code c (held earlier)

  abbrev pub returned_plan : List C → C → P
  returned_plan earlier c = w.plan c (held earlier)

  -- the plan that goes with a state
  abbrev pub plan_by : C → S → Status → P
  plan_by c κ running = w.no_plan c
  plan_by c κ succeeded = w.plan_of κ
  plan_by c κ failed = w.no_plan c

module _ {S C X P : Type 0} (M : Machine S) (w : Service S C X P) where
  -- What holds of a call c after the calls `earlier`, where the run takes `count` steps
  pub record Right (count : ℕ) (earlier : List C) (c : C) : Type 0 where
    -- "A call that meets no condition of the table is not refused", and any other is
    pub not_refused : (returned_code w earlier c < 100) ↔ (w.admitted c ≡ true)
    -- "Refused calls .. leave the note as it was"
    pub unchanged : 100 ≤ returned_code w earlier c → w.next c (held w earlier) ≡ held w earlier
    -- "each call not refused answered spent exactly when the sum up to and with it is below the count,"
    pub spent : returned_code w earlier c < 100 → (returned_code w earlier c ≡ 0) ↔ (budget_sum w earlier + w.budget c < count)
    -- "and otherwise the run's answer;"
    pub answer : returned_code w earlier c < 100 → count ≤ budget_sum w earlier + w.budget c
        → returned_code w earlier c ≡ status_number (M.status (steps M count M.opening))
    -- "placed came with the run's whole plan, on the screen as plan bytes"
    pub plan : returned_code w earlier c < 100 → count ≤ budget_sum w earlier + w.budget c
        → let end = steps M count M.opening in returned_plan w earlier c ≡ plan_by w c end (M.status end)
    -- "Where a search doesn't answer placed, all ten are 0"; "and the plan bytes only when placed"
    pub no_plan : returned_code w earlier c < 100 → (returned_code w earlier c ≡ 1 → ⊥) → returned_plan w earlier c ≡ w.no_plan c

  -- "After every list on a sheet that isn't refused:"
  pub record Claim (count : ℕ) (calls : List C) : Type 0 where
    -- "the note, state and row, is the one that the run has after as many steps as the lesser of sum and count"
    pub checkpoint : held w calls ≡ w.hold (steps M (min (budget_sum w calls) count) M.opening)
    -- "the steps returned by the calls not refused add up to that lesser number"
    pub total : step_sum w calls ≡ min (budget_sum w calls) count
    -- "each call not refused answered .."
    pub each : (earlier : List C) (c : C) (later : List C) → calls ≡ earlier ++ (c ∷ later) → Right count earlier c

  -- a call on a state κ that comes to μ
  pub record Reaches (c : C) (κ μ : S) : Type 0 where
    pub code : w.code c (w.hold κ) ≡ status_number (M.status μ)
    pub next : w.next c (w.hold κ) ≡ w.hold μ
    pub steps : w.steps c (w.hold κ) ≡ taken M (w.budget c) κ
    pub plan : w.plan c (w.hold κ) ≡ plan_by w c μ (M.status μ)

  -- What is asked of one call: it is refused and leaves the note, or it takes the machine's steps
  pub data Served (c : C) (κ : S) : Type 0 where
    call_refused : w.admitted c ≡ false → 100 ≤ w.code c (w.hold κ) → w.next c (w.hold κ) ≡ w.hold κ → Served c κ
    call_served : w.admitted c ≡ true → Reaches c κ (steps M (w.budget c) κ) → Served c κ

  -- and of all calls, on the states that follow the instance
  pub record Serves (Follows : S → Type 0) : Type 0 where
    pub opens : w.opening ≡ w.hold M.opening
    pub calls : (c : C) (κ : S) → Follows κ → Served c κ

-- "on a refused sheet every call is refused, and the note stays the opening one"
pub record AllRefused {S C X P : Type 0} (w : Service S C X P) (code : ℕ) (calls : List C) : Type 0 where
  pub each : (earlier : List C) (c : C) (later : List C) → calls ≡ earlier ++ (c ∷ later) → returned_code w earlier c ≡ code
  pub checkpoint : held w calls ≡ w.opening
