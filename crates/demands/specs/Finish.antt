-- Document 02's #103, the earliest finish, as one theorem, in values and on bytes. With #106 each length is searched in all choices, and plans have marks.
use Rattle.std.specs.Prelude.{◌≡◌}
use Rattle.prelude.specs.Names.{true, List, ℕ}
use Rattle.model.specs.Calls.{Answer}
use Rattle.model.specs.Earliest.{earliest_finish, Earliest}
use Rattle.model.specs.Turning.{Turnable, Plan}
use Rattle.formats.specs.Reading.{Bytes}
use Rattle.sheet.specs.Places.{word_at}
use Rattle.instance.specs.Reads.{Reads, Full}
use Rattle.instance.specs.Valid.{valid}
use Rattle.instance.specs.declared.Instance.{Instance}
use Rattle.turning.specs.Turned.{turnable_of}
use Rattle.packing.specs.Check.{check_answer, check_number}
use Rattle.search.specs.Results.{answer_number, answer_of, packing_with}
use Rattle.makespan.specs.Results.{finish_result}
use Rattle.buffers.specs.Bytes.{packing_bytes, steps_in}
use Rattle.c_api.specs.Calls.{check_code, when_packed}
use Rattle.c_api.specs.Finishes.{finish_code, length_after, finish_steps_after, finish_plan_after, FinishLengths}

-- What holds where nothing is refused: of the number, the length, the steps and the plan that are returned or left. `plan-for` is the plan that goes with
-- an answer, and `check` is demand 2's, 1 for yes
pub record FinishDemand {P : Type 0} (t : Turnable) (budget code length steps : ℕ) (plan : P) (plan-for : Answer Plan → P) (check : P → ℕ)
    : Type 0 where
  -- the earliest finish is what 02 says, sentence by sentence (model Earliest)
  pub right : Earliest t budget (earliest_finish t budget)
  -- it is what is returned: 0 spent, 1 placed, 2 none;
  pub code_is : code ≡ answer_number (answer_of (earliest_finish t budget).answer)
  pub length_is : length ≡ (earliest_finish t budget).length
  pub steps_are : steps ≡ (earliest_finish t budget).steps
  pub plan_is : plan ≡ plan-for (earliest_finish t budget).answer
  -- and the check says yes to every plan that is given
  pub checks : code ≡ 1 → check plan ≡ 1

pub record FinishRequest : Type 0 where
  -- in values: "all ten are 0" unless it is placed
  pub in_values : (i : Instance) → valid i ≡ true → Full i → (budget : ℕ) → let r = finish_result i budget in
      FinishDemand (turnable_of i) budget (answer_number r.answer) r.length r.steps r.packing (packing_with (turnable_of i))
      (λ q. check_number (check_answer i q))
  -- in bytes: the plan bytes stay as they were unless it is placed
  pub in_bytes : (sheet : List ℕ) → Bytes sheet → (r : Reads sheet) (finish steps plan : List ℕ) → FinishLengths r.instance finish steps plan
      → (allowance : ℕ) → let t = turnable_of r.instance in
      FinishDemand t allowance (finish_code sheet allowance finish steps plan) (word_at (length_after sheet allowance finish steps plan) 0)
      (steps_in (finish_steps_after sheet allowance finish steps plan)) (finish_plan_after sheet allowance finish steps plan)
      (λ a. when_packed (answer_of a) plan (packing_bytes r.instance.item_count (packing_with t a))) (check_code sheet)
