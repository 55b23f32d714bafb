-- Document 02's #103 holds, in values and on bytes.
use Rattle.std.specs.Prelude.{◌≡◌}
use Rattle.prelude.specs.Names.{true, List, refl, ap, ◌∙◌, ℕ, arith}
use Rattle.model.proofs.Earliest.{fits_longer}
use Rattle.model.proofs.EarliestRight.{earliest_right}
use Rattle.model.specs.Admits.{Sound}
use Rattle.model.specs.Earliest.{earliest_finish}
use Rattle.model.specs.Turning.{Turnable, Plan, Fits}
use Rattle.formats.specs.Reading.{Bytes}
use Rattle.sheet.specs.Places.{word_at}
use Rattle.instance.specs.Reads.{Reads, Full}
use Rattle.instance.specs.Valid.{valid}
use Rattle.instance.specs.declared.Instance.{Instance}
use Rattle.turning.specs.Turned.{turnable_of}
use Rattle.packing.specs.Check.{check_answer, check_number}
use Rattle.search.proofs.Claim.{one_is-packed}
use Rattle.search.specs.Results.{answer_number, answer_of, packing_with}
use Rattle.makespan.proofs.Claim.{valid-is}
use Rattle.makespan.specs.Results.{finish_of, finish_result}
use Rattle.makespan.specs.declared.finish.Finish.{Finish}
use Rattle.buffers.proofs.Bytes.{word_back, steps_back}
use Rattle.buffers.specs.Bytes.{word_bytes, packing_bytes, step_bytes, steps_in}
use Rattle.c_api.proofs.Finishes.{finished-is}
use Rattle.c_api.proofs.Plans.{reads-valid, reads-sound, placed_checks}
use Rattle.c_api.specs.Calls.{check_code, rewritten, when_packed}
use Rattle.c_api.specs.Finishes.{length_left, finish_steps_left, finish_plan_left, finish_call}
use Rattle.c_api.specs.Finishes.{finish_code, length_after, finish_steps_after, finish_plan_after, FinishLengths}
use Rattle.demands.specs.Finish.{FinishDemand, FinishRequest}
use Rattle.demands.proofs.Demand3.{sound, value-checks}
use Rattle.model.specs.Calls as C
use Rattle.model.specs.Earliest as M

-- whoever returns the model's finish meets it, where the check says yes to the plan of what fits
module _ {P : Type 0} (t : Turnable) (σ : Sound t.given) (budget : ℕ) (plan-for : C.Answer Plan → P) (check : P → ℕ)
    (yes : (q : Plan) → Fits t q → check (plan-for (C.packing q)) ≡ 1) where
  finish_demand : {code length steps : ℕ} {plan : P} → let f = earliest_finish t budget in
      code ≡ answer_number (answer_of f.answer) → length ≡ f.length → steps ≡ f.steps → plan ≡ plan-for f.answer
      → FinishDemand t budget code length steps plan plan-for check
  finish_demand a b c d = record {
    right = earliest_right t σ budget;
    code_is = a;
    length_is = b;
    steps_are = c;
    plan_is = d;
    checks = λ e.
        let f = earliest_finish t budget in
        let (q, is) = one_is-packed f.answer (omega arith) in
        let first = ((earliest_right t σ budget).placed q is).0 in
        rw (d, is) (yes q (fits_longer t f.length first.most q first.fits));
  }

in_values : (i : Instance) → valid i ≡ true → Full i → (budget : ℕ) → let r = finish_result i budget in
    FinishDemand (turnable_of i) budget (answer_number r.answer) r.length r.steps r.packing (packing_with (turnable_of i))
    (λ q. check_number (check_answer i q))
unfolding finish_of
in_values i v φ budget =
    let is = valid-is i budget v in
    finish_demand (turnable_of i) (sound i v φ) budget (packing_with (turnable_of i)) (λ q. check_number (check_answer i q))
    (value-checks i v φ)
    (ap (λ (f : Finish). answer_number f.answer) is) (ap (λ (f : Finish). f.length) is) (ap (λ (f : Finish). f.steps) is)
    (ap (λ (f : Finish). f.packing) is)

-- what a finish leaves in the buffers, where it is not refused
module _ (a : C.Answer Plan) (old new : List ℕ) where
  rewritten-is : rewritten (answer_of a) old new ≡ new
  rewritten-is = go a
    where
      go : (a : C.Answer Plan) → rewritten (answer_of a) old new ≡ new
      go C.budget_spent = refl
      go C.no_packing = refl
      go (C.packing q) = refl

module _ (sheet : List ℕ) (bytes : Bytes sheet) (r : Reads sheet) (finish steps plan : List ℕ) (l : FinishLengths r.instance finish steps plan)
    (allowance : ℕ) where
  abbrev t : Turnable
  t = turnable_of r.instance

  abbrev f : M.Finish
  f = earliest_finish t allowance

  call-is : finish_call sheet allowance finish steps plan ≡ finish_of t f
  call-is = finished-is sheet finish steps plan allowance (record { reads = r; lengths = l }) ∙ valid-is r.instance allowance (reads-valid sheet bytes r)

  in_bytes : FinishDemand t allowance (finish_code sheet allowance finish steps plan) (word_at (length_after sheet allowance finish steps plan) 0)
      (steps_in (finish_steps_after sheet allowance finish steps plan)) (finish_plan_after sheet allowance finish steps plan)
      (λ a. when_packed (answer_of a) plan (packing_bytes r.instance.item_count (packing_with t a))) (check_code sheet)
  unfolding finish_of
  in_bytes =
      finish_demand t (reads-sound sheet bytes r) allowance (λ a. when_packed (answer_of a) plan (packing_bytes r.instance.item_count (packing_with t a)))
      (check_code sheet) (placed_checks sheet bytes r)
      (ap (λ (x : Finish). answer_number x.answer) call-is)
      (ap (λ (x : Finish). word_at (length_left x finish) 0) call-is
      ∙ (ap (λ s. word_at s 0) (rewritten-is f.answer finish (word_bytes f.length)) ∙ word_back f.length))
      (ap (λ (x : Finish). steps_in (finish_steps_left x steps)) call-is
      ∙ (ap steps_in (rewritten-is f.answer steps (step_bytes f.steps)) ∙ steps_back f.steps))
      (rw r.reads (ap (λ (x : Finish). finish_plan_left r.instance.item_count x plan) call-is))

pub finish_request : FinishRequest
finish_request = record { in_values = in_values; in_bytes = in_bytes }
