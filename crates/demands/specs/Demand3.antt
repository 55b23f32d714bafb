-- The mission's third demand, as one theorem: the search, for every list of calls, in values and on bytes.
use Rattle.std.specs.Prelude.{◌↔◌, ◌≡◌, ◌+◌, ◌≤◌, ◌<◌}
use Rattle.prelude.specs.Names.{true, false, List, ℕ, suc, length}
use Rattle.model.specs.Lists.{Service, status_number, budget_sum, returned_code, returned_plan, Claim, AllRefused}
use Rattle.model.specs.Machine.{Count, steps}
use Rattle.model.specs.Problem.{Positions, Feasible}
use Rattle.model.specs.Series.{stage}
use Rattle.model.specs.Turning.{Turnable, choice_problem, last_choice, Plan, Fits}
use Rattle.model.specs.Run.{ChoiceCheckpoint, choice_opening, machine, run_end, step_count, choice_steps}
use Rattle.refusal.specs.Numbers.{number_of}
use Rattle.refusal.specs.declared.Refusal.{Refusal}
use Rattle.formats.specs.Reading.{Bytes}
use Rattle.sheet.specs.Faults.{FirstFault}
use Rattle.instance.specs.Reads.{Reads, Full}
use Rattle.instance.specs.Valid.{valid}
use Rattle.instance.specs.declared.Checkpoint.{Checkpoint}
use Rattle.instance.specs.declared.Instance.{Instance}
use Rattle.turning.specs.Turned.{turnable_of}
use Rattle.packing.specs.Check.{check_answer, check_number}
use Rattle.search.specs.Calls.{values}
use Rattle.search.specs.Results.{answer_number, search_result}
use Rattle.buffers.specs.Bytes.{steps_in}
use Rattle.c_api.specs.Calls.{check_code, search_code, steps_after, plan_after}
use Rattle.c_api.specs.Lists.{Lent, Call, on_bytes}
use Rattle.buffers.specs.Lengths.{note_length}
use Rattle.model.specs.Search as S

-- what the one run answers: "0 spent, 1 placed, 2 none"
abbrev pub run_number : Turnable → ℕ
run_number t = status_number (S.status (steps (machine t) (step_count t) choice_opening).state)

-- What holds of the calls C on a sheet that isn't refused and means t, a problem whose items may be turned; `check` is demand 2's, 1 for yes
pub record SearchDemand {C X P : Type 0} (t : Turnable) (w : Service ChoiceCheckpoint C X P) (check : P → ℕ) : Type 0 where
  -- "Every sheet that isn't refused has a finite step count, that of document 01's search in one run."
  pub count : Count (machine t) choice_opening (step_count t)
  pub one_count : (n : ℕ) → Count (machine t) choice_opening n → n ≡ step_count t
  -- (02, #106) "Each choice is searched whole": the count is the sum over the choices up to the one that the run ends in, and none before it has a placement
  pub count_sums : step_count t ≡ choice_steps t (suc (run_end t).number)
  pub earlier_choices : (c : ℕ) → c < (run_end t).number → (q : Positions) → Feasible (choice_problem t c) q → ⊥
  -- "For ANY list of search calls that starts at a new note and hands each call the last note, with any allowances and refused calls
  -- among them: the steps add up to the lesser of the count and the sum of allowances; a call answers spent exactly when the sum so far
  -- is below the count, and otherwise as the one run does, with the same plan." (`Claim`, model Lists, has it sentence by sentence; "the choice goes with"
  -- state and row, and the marks with the plan)
  pub every_list : (calls : List C) → Claim (machine t) w (step_count t) calls
  -- "It answers none exactly when no placement exists", "under any choice". The run does, and otherwise it answers placed
  pub run_none : (run_number t ≡ 2) ↔ ((q : Plan) → Fits t q → ⊥)
  pub run_placed : (run_number t ≡ 2 → ⊥) → run_number t ≡ 1
  -- "a none note the last one"
  pub none_last : run_number t ≡ 2 → run_end t ≡ stage (last_choice t) S.infeasible
  -- so does each call of a list: where it says none, no placement exists and no plan gets the check's yes;
  pub none_means : (earlier : List C) (c : C) → returned_code w earlier c ≡ 2 → (q : Plan) → Fits t q → ⊥
  pub none_unchecked : (earlier : List C) (c : C) → returned_code w earlier c ≡ 2 → (q : P) → check q ≡ 1 → ⊥
  -- where no placement exists, each call that is not refused and not spent says none;
  pub nothing_fits : ((q : Plan) → Fits t q → ⊥) → (earlier : List C) (c : C) → returned_code w earlier c < 100
      → step_count t ≤ budget_sum w earlier + w.budget c → returned_code w earlier c ≡ 2
  -- and where it says placed, the check says yes to the very plan that it returned or left
  pub placed_checks : (earlier : List C) (c : C) → returned_code w earlier c ≡ 1 → check (returned_plan w earlier c) ≡ 1

pub record Demand3 : Type 0 where
  -- in values: a sheet value that gets no 9. `Full`: its arrays have ten and ninety entries, as every value of the type has
  pub in_values : (i : Instance) → valid i ≡ true → Full i → SearchDemand (turnable_of i) (values i) (λ q. check_number (check_answer i q))
  -- in bytes: a sheet that reads. `Bytes`: its elements are below 256, as in every slice of u8
  pub in_bytes : (sheet : List ℕ) → Bytes sheet → (r : Reads sheet)
      → SearchDemand (turnable_of r.instance) (on_bytes sheet r.instance) (check_code sheet)
  -- a call that is lent bytes of another length as its note is refused too, so it may stand in the list
  pub another_length : (sheet note : List ℕ) (c : Lent) → (length note ≡ note_length → ⊥)
      → 100 ≤ search_code sheet note c.allowance c.steps c.plan
  -- Whatever note is handed in, of a list or not: where a call answers placed, the check says yes to its plan
  pub placed_fits : (i : Instance) → Full i → (c : Checkpoint) (budget : ℕ)
      → answer_number (search_result i c budget).answer ≡ 1 → check_number (check_answer i (search_result i c budget).packing) ≡ 1
  pub placed_bytes_fit : (sheet note steps plan : List ℕ) (allowance : ℕ) → Bytes sheet → Bytes note
      → search_code sheet note allowance steps plan ≡ 1 → check_code sheet (plan_after sheet note allowance steps plan) ≡ 1
  -- (01) "spent has taken exactly the allowance"
  pub spent_exactly : (i : Instance) (c : Checkpoint) (budget : ℕ)
      → answer_number (search_result i c budget).answer ≡ 0 → (search_result i c budget).steps ≡ budget
  pub spent_bytes_exactly : (sheet note steps plan : List ℕ) (allowance : ℕ) → Bytes sheet → Bytes note
      → search_code sheet note allowance steps plan ≡ 0 → steps_in (steps_after sheet note allowance steps plan) ≡ allowance
  -- (01) "on a refused sheet every call is refused, and the note stays the opening one"
  pub refused_values : (i : Instance) → valid i ≡ false → (calls : List ℕ) → AllRefused (values i) 109 calls
  pub refused_bytes : (sheet : List ℕ) (e : Refusal) → FirstFault sheet e → (i : Instance) (calls : List (Call sheet))
      → AllRefused (on_bytes sheet i) (100 + number_of e) calls
