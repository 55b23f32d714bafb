-- The earliest finish (document 02, #103): "for lengths 1, 2 and so on up to the sheet's shifts, search with the other measures unchanged, under
-- one total allowance".
use Rattle.std.specs.Prelude.{◌↔◌, ◌≡◌, ◌+◌, ◌-◌, ◌≤◌, ◌<◌}
use Rattle.prelude.specs.Names.{cond, ℕ, zero, suc, min, ltb}
use Rattle.model.specs.Problem.{Problem, time}
use Rattle.model.specs.Turning.{Turnable, Plan, Fits}
use Rattle.model.specs.Machine.{running, failed, succeeded}
use Rattle.model.specs.Search.{status}
use Rattle.model.specs.Calls.{Answer, budget_spent, no_packing, packing}
use Rattle.model.specs.Run.{choice_opening, plan_at, search, run_end, step_count}

-- "with the other measures unchanged": the problem with l shifts, which is the measure on t
abbrev pub with_shifts : Problem → ℕ → Problem
with_shifts p l = record {
  items = p.items;
  size = p.size;
  capacity = λ a. cond (ltb a time) (p.capacity a) l;
  walkway = p.walkway;
  precedences = p.precedences;
}

-- the same of a problem whose items may be turned: at each length all choices are searched
abbrev pub shortened : Turnable → ℕ → Turnable
shortened t l = record { given = with_shifts t.given l; may_turn = t.may_turn }

-- the lengths go up to the sheet's shifts
abbrev pub shifts_of : Turnable → ℕ
shifts_of t = t.given.capacity time

-- "The answer is the first length with a placement, with its plan; or none; or spent, with the greatest length already shown impossible
-- (0 if there is none)". None comes with length 0
pub record Finish : Type 0 where
  pub answer : Answer Plan
  pub length : ℕ
  pub steps : ℕ

-- "The steps are the sum over the lengths tried": m more before the others
abbrev pub steps_before : ℕ → Finish → Finish
steps_before m f = record { answer = f.answer; length = f.length; steps = m + f.steps }

-- the lengths up to `shown` are shown impossible; the `more` after it are tried one by one, each from the opening note under what is left of the allowance
abbrev pub finish_from : Turnable → ℕ → ℕ → ℕ → Finish
finish_from t zero shown budget = record { answer = no_packing; length = 0; steps = 0 }
finish_from t (suc more) shown budget =
    let r = search (shortened t (suc shown)) budget choice_opening in
    elim r.answer [
      | budget_spent ↦ record { answer = budget_spent; length = shown; steps = r.steps }
      | no_packing ↦ steps_before r.steps (finish_from t more (suc shown) (budget - r.steps))
      | packing q ↦ record { answer = packing q; length = suc shown; steps = r.steps }
    ]

-- "for lengths 1, 2 and so on up to the sheet's shifts"
unfoldable pub earliest_finish : Turnable → ℕ → Finish
earliest_finish t budget = finish_from t (shifts_of t) 0 budget

-- What it has to be, over the runs of the shortened problems

-- their step counts added up, for the lengths from 1 to n
abbrev pub steps_up_to : Turnable → ℕ → ℕ
steps_up_to t zero = 0
steps_up_to t (suc n) = steps_up_to t n + step_count (shortened t (suc n))

-- the first length after `shown` whose run ends packed, or the last of the `more`
abbrev pub last_tried_from : Turnable → ℕ → ℕ → ℕ
last_tried_from t zero shown = shown
last_tried_from t (suc more) shown =
    elim (status (run_end (shortened t (suc shown))).state) [ running ↦ suc shown | failed ↦ last_tried_from t more (suc shown) | succeeded ↦ suc shown ]

-- "the steps another answer needs": those of the lengths up to the first with a placement, or of all
unfoldable pub finish_count : Turnable → ℕ
finish_count t = steps_up_to t (last_tried_from t (shifts_of t) 0)

-- no length from 1 on and below n has a placement; none up to n
abbrev pub NoneBelow : Turnable → ℕ → Type 0
NoneBelow t n = (l : ℕ) → 1 ≤ l → l < n → (q : Plan) → Fits (shortened t l) q → ⊥

abbrev pub NoneUpTo : Turnable → ℕ → Type 0
NoneUpTo t n = NoneBelow t (suc n)

-- n is the greatest length that m steps show impossible
pub record Shown (t : Turnable) (m n : ℕ) : Type 0 where
  pub impossible : NoneUpTo t n
  pub reached : steps_up_to t n ≤ m
  pub greatest : m < steps_up_to t (suc n)

-- n is the first length with a placement, and q its plan, the one of the run on the shortened problem
pub record First (t : Turnable) (n : ℕ) (q : Plan) : Type 0 where
  pub least : 1 ≤ n
  pub most : n ≤ shifts_of t
  pub fits : Fits (shortened t n) q
  pub shorter : NoneBelow t n
  pub plan : q ≡ plan_at (shortened t n) (run_end (shortened t n))

-- what f says is so
pub record Earliest (t : Turnable) (budget : ℕ) (f : Finish) : Type 0 where
  -- "spent comes exactly when the allowance is below the steps another answer needs, and takes all of it"
  pub spent : (f.answer ≡ budget_spent) ↔ (budget < finish_count t)
  pub takes : f.steps ≡ min budget (finish_count t)
  -- "with the greatest length already shown impossible (0 if there is none)"
  pub shown : f.answer ≡ budget_spent → Shown t budget f.length
  -- "A given length has a plan and no shorter one has any"; "The steps are the sum over the lengths tried"
  pub placed : (q : Plan) → f.answer ≡ packing q → First t f.length q × (f.steps ≡ steps_up_to t f.length)
  -- "None means that no length up to the sheet's shifts has one"
  pub none : f.answer ≡ no_packing → NoneUpTo t (shifts_of t) × (f.length ≡ 0) × (f.steps ≡ steps_up_to t (shifts_of t))
  -- and it comes exactly then, where the allowance lasts
  pub none_exactly : finish_count t ≤ budget → (f.answer ≡ no_packing) ↔ NoneUpTo t (shifts_of t)
