-- Halls tried by computation: a problem, the calls made, and what they have to answer.
use Rattle.std.specs.Prelude.{◌&&◌, ◌∷◌, ◌+◌}
use Rattle.prelude.specs.Names.{Bool, true, false, cond, List, [], ℕ, eqb, get_or, length}
use Rattle.model.specs.Below.{all_below}
use Rattle.model.specs.Problem.{Problem, Precedence, feasible}
use Rattle.model.specs.Turning.{Turnable, turned, Plan}
use Rattle.model.specs.Calls.{Answer, budget_spent, no_packing, packing}
use Rattle.model.specs.Run.{ChoiceCheckpoint, choice_opening, search, step_count}
use Rattle.model.specs.Computing.{search_computing}

-- measures or starts on x, y, t
abbrev pub Triple : Type 0
Triple = List ℕ

-- a call with its budget, and what it has to answer after how many steps; a packing is given by the starts of each item, and a fourth
-- number, 1, where it is turned
pub record TrialCall : Type 0 where
  pub budget : ℕ
  pub answer : Answer (List Triple)
  pub steps : ℕ

-- a container, items, which of them may be turned, walkway and precedences, and the calls made one after the other
pub record Trial : Type 0 where
  pub container : Triple
  pub items : List Triple
  pub turnable : List Bool
  pub walkway : ℕ
  pub precedences : List Precedence
  pub calls : List TrialCall

abbrev pub problem : Trial → Problem
problem c = record {
  items = length c.items;
  size = λ a u. get_or (get_or c.items u []) a 0;
  capacity = λ a. get_or c.container a 0;
  walkway = c.walkway;
  precedences = c.precedences;
}

abbrev pub turnable : Trial → Turnable
turnable c = record { given = problem c; may_turn = λ u. get_or c.turnable u false }

-- the plan has these starts and marks
abbrev pub same_plan : ℕ → Plan → List Triple → Bool
same_plan n q s =
    eqb (length s) n
    && (all_below 3 (λ a. all_below n (λ u. eqb (q.positions a u) (get_or (get_or s u []) a 0)))
    && all_below n (λ u. eqb (cond (q.marks u) 1 0) (get_or (get_or s u []) 3 0)))

-- the answers agree, and a packing is feasible
abbrev pub answers : Turnable → Answer Plan → Answer (List Triple) → Bool
answers t budget_spent budget_spent = true
answers t budget_spent no_packing = false
answers t budget_spent (packing s) = false
answers t no_packing budget_spent = false
answers t no_packing no_packing = true
answers t no_packing (packing s) = false
answers t (packing q) budget_spent = false
answers t (packing q) no_packing = false
answers t (packing q) (packing s) = same_plan t.given.items q s && feasible (turned t.given q.marks) q.positions

-- each call, on the checkpoint that the last one left, answers as it has to
abbrev pub right_calls : Turnable → ChoiceCheckpoint → List TrialCall → Bool
right_calls t κ [] = true
right_calls t κ (c ∷ cs) =
    let r = search t c.budget κ in
    let rest = right_calls t r.checkpoint cs in
    (answers t r.answer c.answer && eqb r.steps c.steps) && rest

abbrev pub all_steps : List TrialCall → ℕ
all_steps [] = 0
all_steps (c ∷ cs) = c.steps + all_steps cs

-- the calls answer as they have to, and their steps add up to the step count
abbrev pub right_problem : Turnable → List TrialCall → Bool
right_problem t cs = right_calls t choice_opening cs && eqb (step_count t) (all_steps cs)

-- the same of a case. This opens all that the search computes by
unfoldable pub trial_right : Trial → Bool
unfolding search_computing
trial_right c = right_problem (turnable c) c.calls

abbrev pub xyt : ℕ → ℕ → ℕ → Triple
xyt x y t = x ∷ y ∷ t ∷ []

abbrev pub with_budget : ℕ → Answer (List Triple) → ℕ → TrialCall
with_budget b a m = record { budget = b; answer = a; steps = m }

abbrev pub trial_with : ℕ → Triple → List Triple → List Precedence → List TrialCall → Trial
trial_with walkway container items precedences calls =
    record { container = container; items = items; turnable = []; walkway = walkway; precedences = precedences; calls = calls }

-- without a walkway, with items that may be turned
abbrev pub trial_turning : Triple → List Triple → List Bool → List TrialCall → Trial
trial_turning container items turnable calls =
    record { container = container; items = items; turnable = turnable; walkway = 0; precedences = []; calls = calls }

-- without a walkway
abbrev pub trial : Triple → List Triple → List Precedence → List TrialCall → Trial
trial = trial_with 0

abbrev pub unit : Triple
unit = xyt 1 1 1
