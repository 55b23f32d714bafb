-- What the earliest finish returns and leaves in the lent buffers (document 02, #103).
use Rattle.std.specs.Prelude.{◌&&◌, ◌≡◌, ◌*◌}
use Rattle.prelude.specs.Names.{Bool, true, false, List, ℕ, eqb, length}
use Rattle.refusal.specs.Numbers.{number_of}
use Rattle.refusal.specs.declared.Refusal.{Refusal}
use Rattle.refusal.specs.declared.Refusal.TheVariants.{BadArgument}
use Rattle.formats.specs.Reading.{Read, got, refused}
use Rattle.sheet.specs.Faults.{FirstFault}
use Rattle.instance.specs.Reads.{Reads}
use Rattle.instance.specs.Sheets.{decode}
use Rattle.instance.specs.declared.Instance.{Instance}
use Rattle.search.specs.Results.{answer_number}
use Rattle.makespan.specs.Results.{finish_refused, finish_result}
use Rattle.makespan.specs.declared.finish.Finish.{Finish}
use Rattle.buffers.specs.Bytes.{packing_bytes, step_bytes, word_bytes}
use Rattle.buffers.specs.Lengths.{finish_length, steps_length, piece_length}
use Rattle.c_api.specs.Calls.{outputs_fit, rewritten, when_packed, items_in}

-- 8: length bytes not 2; step bytes and plan bytes as for the search
abbrev pub finish_fits : Instance → ℕ → ℕ → ℕ → Bool
finish_fits i finish steps plan = eqb finish finish_length && outputs_fit i steps plan

abbrev pub finished_if : Bool → Instance → ℕ → Finish
finished_if true i allowance = finish_result i allowance
finished_if false i allowance = finish_refused BadArgument

-- the length and the steps, unless it is refused; the plan, only when placed
abbrev pub length_left : Finish → List ℕ → List ℕ
length_left r finish = rewritten r.answer finish (word_bytes r.length)

abbrev pub finish_steps_left : Finish → List ℕ → List ℕ
finish_steps_left r steps = rewritten r.answer steps (step_bytes r.steps)

abbrev pub finish_plan_left : ℕ → Finish → List ℕ → List ℕ
finish_plan_left n r plan = when_packed r.answer plan (packing_bytes n r.packing)

-- the call with these bytes lent, on a sheet that reads as i: its result, its number, and what it leaves in the buffers
module _ (i : Instance) (allowance : ℕ) (finish steps plan : List ℕ) where
  unfoldable pub instance_finished : Finish
  instance_finished = finished_if (finish_fits i (length finish) (length steps) (length plan)) i allowance

  abbrev pub instance_finish_code : ℕ
  instance_finish_code = answer_number instance_finished.answer

  abbrev pub instance_length : List ℕ
  instance_length = length_left instance_finished finish

  abbrev pub instance_finish_steps : List ℕ
  instance_finish_steps = finish_steps_left instance_finished steps

  abbrev pub instance_finish_plan : List ℕ
  instance_finish_plan = finish_plan_left i.item_count instance_finished plan

-- the sheet's refusals come first
abbrev pub finished : Read Instance → ℕ → List ℕ → List ℕ → List ℕ → Finish
finished (refused e) allowance finish steps plan = finish_refused e
finished (got i at rest) allowance finish steps plan = instance_finished i allowance finish steps plan

-- the call with these bytes lent: its result, its number, and what it leaves in the buffers
module _ (sheet : List ℕ) (allowance : ℕ) (finish steps plan : List ℕ) where
  unfoldable pub finish_call : Finish
  finish_call = finished (decode sheet) allowance finish steps plan

  -- 0 spent, 1 placed, 2 none, 100 plus the number of a refusal
  abbrev pub finish_code : ℕ
  finish_code = answer_number finish_call.answer

  abbrev pub length_after : List ℕ
  length_after = length_left finish_call finish

  abbrev pub finish_steps_after : List ℕ
  finish_steps_after = finish_steps_left finish_call steps

  abbrev pub finish_plan_after : List ℕ
  finish_plan_after = finish_plan_left (items_in (decode sheet)) finish_call plan

-- none of the lengths that get 8
pub record FinishLengths (i : Instance) (finish steps plan : List ℕ) : Type 0 where
  pub length_is : length finish ≡ finish_length
  pub steps_are : length steps ≡ steps_length
  pub plan_is : length plan ≡ piece_length * i.item_count

-- it refuses with the number n
pub data FinishBytesFault (sheet finish steps plan : List ℕ) (n : ℕ) : Type 0 where
  -- 1 to 7, 11 and 12: the sheet's first fault
  unread : (e : Refusal) → FirstFault sheet e → n ≡ number_of e → FinishBytesFault sheet finish steps plan n
  -- "8 asks for 7 plan bytes a piece"; "step bytes not 4", and length bytes not 2
  eight : (r : Reads sheet) → (FinishLengths r.instance finish steps plan → ⊥) → n ≡ 8 → FinishBytesFault sheet finish steps plan n
