-- The earliest finish on bytes, case by case.
use Rattle.std.specs.Prelude.{◌↔◌, ◌⊎◌, ◌≡◌, ◌+◌, ◌≤◌, ◌<◌}
use Rattle.prelude.specs.Names.{Bool, true, false, List, inl, inr, ⊎_elim, refl, ap, ℕ, arith, eqb, length, eqb-true, eq-eqb}
use Rattle.model.proofs.Below.{and_both, clash, test_false}
use Rattle.refusal.specs.Numbers.{number_of}
use Rattle.refusal.specs.declared.Refusal.TheVariants.{BadArgument}
use Rattle.formats.specs.Reading.{Bytes}
use Rattle.instance.proofs.Readings.{decode_refuses}
use Rattle.instance.specs.Reads.{Reads}
use Rattle.instance.specs.declared.Instance.{Instance}
use Rattle.search.specs.Results.{answer_number}
use Rattle.makespan.proofs.Claim.{small}
use Rattle.makespan.specs.Results.{finish_refused, finish_result}
use Rattle.makespan.specs.declared.finish.Finish.{Finish}
use Rattle.c_api.proofs.Outcomes.{refused-keeps}
use Rattle.c_api.proofs.Plans.{fault_or_reads, reads-valid}
use Rattle.c_api.proofs.Tables.{refuses_by_table}
use Rattle.c_api.specs.Calls.{plan_fits, outputs_fit}
use Rattle.c_api.specs.Finishes.{finish_fits, instance_finished, finish_call, finish_code, length_after, finish_steps_after}
use Rattle.c_api.specs.Finishes.{finish_plan_after, FinishLengths, FinishBytesFault}

module _ (i : Instance) (finish steps plan : List ℕ) where
  -- buffers of the right lengths: the test and the record agree
  pub finish_fits_exactly : (finish_fits i (length finish) (length steps) (length plan) ≡ true) ↔ FinishLengths i finish steps plan
  finish_fits_exactly = (
    (λ h.
        let (a, b) = and_both (eqb (length finish) 2) (outputs_fit i (length steps) (length plan)) h in
        let (d, e) = and_both (eqb (length steps) 4) (plan_fits i (length plan)) b in
        record { length_is = eqb-true _ _ a; steps_are = eqb-true _ _ d; plan_is = eqb-true _ _ e }),
    (λ l. rw (eq-eqb _ _ l.length_is, eq-eqb _ _ l.steps_are, eq-eqb _ _ l.plan_is)),
  )

  module _ (allowance : ℕ) where
    pub wrong_finish : finish_fits i (length finish) (length steps) (length plan) ≡ false
        → instance_finished i allowance finish steps plan ≡ finish_refused BadArgument
    unfolding instance_finished
    wrong_finish h = rw h

    pub as_finished : finish_fits i (length finish) (length steps) (length plan) ≡ true
        → instance_finished i allowance finish steps plan ≡ finish_result i allowance
    unfolding instance_finished
    as_finished h = rw h

-- A call by the table: a fault's number, or the finish
module _ (sheet finish steps plan : List ℕ) (allowance : ℕ) where
  abbrev code : ℕ
  code = finish_code sheet allowance finish steps plan

  abbrev Fault : ℕ → Type 0
  Fault n = FinishBytesFault sheet finish steps plan n

  -- what a call is where nothing is refused
  pub record Finished : Type 0 where
    pub reads : Reads sheet
    pub lengths : FinishLengths reads.instance finish steps plan

  fit : Reads sheet → Bool
  fit r = finish_fits r.instance (length finish) (length steps) (length plan)

  fit_exactly : (r : Reads sheet) → (fit r ≡ true) ↔ FinishLengths r.instance finish steps plan
  unfolding fit
  fit_exactly r = finish_fits_exactly r.instance finish steps plan

  number : Finish → ℕ
  number f = answer_number f.answer

  fault-code : {n : ℕ} → Fault n → code ≡ 100 + n
  unfolding finish_call finish_refused fit
  fault-code (FinishBytesFault.unread e f k) = rw ((decode_refuses sheet e).1 f, k)
  fault-code (FinishBytesFault.eight r h k) =
      rw (r.reads, k, wrong_finish r.instance finish steps plan allowance (test_false _ (fit_exactly r) h))

  by_table : ((n : ℕ) × Fault n) ⊎ Finished
  by_table = ⊎_elim (λ (e, f). inl (number_of e, FinishBytesFault.unread e f refl)) (λ r. read r _ refl) (fault_or_reads sheet)
    where
      read : (r : Reads sheet) (b : Bool) → fit r ≡ b → ((n : ℕ) × Fault n) ⊎ Finished
      read r true h = inr (record { reads = r; lengths = (fit_exactly r).0 h })
      read r false h = inl (8, FinishBytesFault.eight r (λ l. clash ((fit_exactly r).1 l) h) refl)

  -- then it is the instance's
  pub finished-is : (φ : Finished) → finish_call sheet allowance finish steps plan ≡ finish_result φ.reads.instance allowance
  unfolding finish_call fit
  finished-is φ = rw φ.reads.reads (as_finished φ.reads.instance finish steps plan allowance ((fit_exactly φ.reads).1 φ.lengths))

  module _ (bytes : Bytes sheet) where
    finished-small : Finished → code < 100
    unfolding number
    finished-small φ = omega (arith, ap number (finished-is φ), small φ.reads.instance allowance (reads-valid sheet bytes φ.reads))

    pub finish_refuses : (n : ℕ) → (finish_code sheet allowance finish steps plan ≡ 100 + n) ↔ FinishBytesFault sheet finish steps plan n
    finish_refuses = refuses_by_table code Fault by_table (λ n φ. fault-code φ) finished-small

  -- a refusal writes nothing
  pub finish_untouched : 100 ≤ finish_code sheet allowance finish steps plan
      → (length_after sheet allowance finish steps plan ≡ finish)
      × (finish_steps_after sheet allowance finish steps plan ≡ steps)
      × (finish_plan_after sheet allowance finish steps plan ≡ plan)
  finish_untouched = refused-keeps (finish_call sheet allowance finish steps plan).answer finish steps plan _ _ _
