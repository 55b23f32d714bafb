-- What check, pieces and search return and leave in the lent buffers (document 01, "Refusals": "The planning screen, written in C, ..").
use Rattle.std.specs.Prelude.{◌&&◌, ◌+◌, ◌*◌, ◌≤◌, Result, Ok, Err}
use Rattle.prelude.specs.Names.{Bool, true, false, List, ℕ, eqb, length}
use Rattle.model.specs.Turning.{Turnable}
use Rattle.refusal.specs.Numbers.{number_of}
use Rattle.refusal.specs.declared.Refusal.{Refusal}
use Rattle.refusal.specs.declared.Refusal.TheVariants.{BadArgument}
use Rattle.formats.specs.Reading.{Read, got, refused}
use Rattle.instance.specs.Sheets.{decode}
use Rattle.instance.specs.declared.Instance.{Instance}
use Rattle.turning.specs.Turned.{turnable_of}
use Rattle.packing.specs.Check.{check_answer, check_number}
use Rattle.tree_paths.specs.Checkpoints.{checkpoint_of, following}
use Rattle.search.specs.declared.answer.Answer.{Answer}
use Rattle.search.specs.declared.answer.Answer.TheVariants.{Packed, Infeasible, BudgetSpent, Refused}
use Rattle.search.specs.declared.answer.SearchResult.{SearchResult}
use Rattle.buffers.specs.Bytes.{packing_bytes, packing_in, step_bytes}
use Rattle.buffers.specs.Checkpoints.{checkpoint_bytes, checkpoint_in, is_checkpoint}
use Rattle.sheet.specs.Sheet.{max_branches}
use Rattle.buffers.specs.Lengths.{note_length, steps_length, piece_length}
use Rattle.search.specs.Results as R

-- the number that is returned for an answer, and "100 plus the number for a refusal"
abbrev pub code_of : Result ℕ Refusal → ℕ
code_of (Ok n) = n
code_of (Err e) = 100 + number_of e

-- "8 asks for 7 plan bytes a piece and 275 note bytes" (document 02, #106)
abbrev pub plan_fits : Instance → ℕ → Bool
plan_fits i plan = eqb plan (piece_length * i.item_count)

-- 8: "step bytes not 4"
abbrev pub outputs_fit : Instance → ℕ → ℕ → Bool
outputs_fit i steps plan = eqb steps steps_length && plan_fits i plan

-- and for the note bytes too
abbrev pub lengths_fit : Instance → ℕ → ℕ → ℕ → Bool
lengths_fit i note steps plan = eqb note note_length && outputs_fit i steps plan

-- the same of the bytes lent
abbrev pub buffers_fit : Instance → List ℕ → List ℕ → List ℕ → Bool
buffers_fit i note steps plan = lengths_fit i (length note) (length steps) (length plan)

-- Check

abbrev pub checked_if : Bool → Instance → List ℕ → Result Bool Refusal
checked_if true i plan = check_answer i (packing_in plan)
checked_if false i plan = Err BadArgument

-- the check on a sheet that reads as i
abbrev pub instance_checked : Instance → List ℕ → Result Bool Refusal
instance_checked i plan = checked_if (plan_fits i (length plan)) i plan

-- "the sheet's refusals come first"
abbrev pub checked : Read Instance → List ℕ → Result Bool Refusal
checked (refused e) plan = Err e
checked (got i at rest) plan = instance_checked i plan

-- "Check returns 0 no, 1 yes, 100 plus the number for a refusal"
unfoldable pub check_code : List ℕ → List ℕ → ℕ
check_code sheet plan = check_number (checked (decode sheet) plan)

-- Pieces: ours, beside the two functions of document 01. A screen learns from it how many plan bytes a sheet needs, 7 for each piece,
-- and need not try one length after the other.

-- the number of pieces, or 100 plus the number of a refusal, as check and search return it
abbrev pub pieces_number : Read Instance → ℕ
pieces_number (refused e) = 100 + number_of e
pieces_number (got i at rest) = i.item_count

unfoldable pub pieces_code : List ℕ → ℕ
pieces_code sheet = pieces_number (decode sheet)

-- Search

-- 10: "a note that doesn't follow its sheet"; "other contents get 10"
unfoldable pub note_follows : Turnable → List ℕ → Bool
note_follows t note = is_checkpoint note && following t (checkpoint_in note)

-- "8 before 10"
abbrev pub searched_if : Bool → Bool → Instance → List ℕ → ℕ → SearchResult
searched_if false f i note allowance = R.result_refused BadArgument (checkpoint_in note)
searched_if true f i note allowance = R.followed_if f (turnable_of i) allowance (checkpoint_in note) (checkpoint_of (checkpoint_in note))

-- "Every refusal leaves lent buffers untouched"
abbrev pub rewritten : Answer → List ℕ → List ℕ → List ℕ
rewritten BudgetSpent old new = new
rewritten Packed old new = new
rewritten Infeasible old new = new
rewritten (Refused e) old new = old

-- "and the plan bytes only when placed"
abbrev pub when_packed : Answer → List ℕ → List ℕ → List ℕ
when_packed BudgetSpent old new = old
when_packed Packed old new = new
when_packed Infeasible old new = old
when_packed (Refused e) old new = old

-- "It rewrites the note and 4 bytes of steps"
abbrev pub note_left : SearchResult → List ℕ → List ℕ
note_left r note = rewritten r.answer note (checkpoint_bytes r.checkpoint)

abbrev pub steps_left : SearchResult → List ℕ → List ℕ
steps_left r steps = rewritten r.answer steps (step_bytes r.steps)

-- what is to be written has a path that a note has room for
abbrev pub PathFits : Answer → ℕ → Type 0
PathFits BudgetSpent n = n ≤ max_branches
PathFits Packed n = n ≤ max_branches
PathFits Infeasible n = n ≤ max_branches
PathFits (Refused e) n = Unit {0}

-- n is the number of items
abbrev pub plan_left : ℕ → SearchResult → List ℕ → List ℕ
plan_left n r plan = when_packed r.answer plan (packing_bytes n r.packing)

-- the call with these bytes lent, on a sheet that reads as i: its result, its number, and what it leaves in the buffers
module _ (i : Instance) (note : List ℕ) (allowance : ℕ) (steps plan : List ℕ) where
  unfoldable pub instance_searched : SearchResult
  instance_searched = searched_if (buffers_fit i note steps plan) (note_follows (turnable_of i) note) i note allowance

  abbrev pub instance_code : ℕ
  instance_code = R.answer_number instance_searched.answer

  abbrev pub instance_note : List ℕ
  instance_note = note_left instance_searched note

  abbrev pub instance_steps : List ℕ
  instance_steps = steps_left instance_searched steps

  abbrev pub instance_plan : List ℕ
  instance_plan = plan_left i.item_count instance_searched plan

-- "or a refusal as check does": the sheet's first
abbrev pub searched : Read Instance → List ℕ → ℕ → List ℕ → List ℕ → SearchResult
searched (refused e) note allowance steps plan = R.result_refused e (checkpoint_in note)
searched (got i at rest) note allowance steps plan = instance_searched i note allowance steps plan

abbrev pub items_in : Read Instance → ℕ
items_in (refused e) = 0
items_in (got i at rest) = i.item_count

-- the call with these bytes lent: its result, its number, and what it leaves in the buffers
module _ (sheet note : List ℕ) (allowance : ℕ) (steps plan : List ℕ) where
  unfoldable pub search_call : SearchResult
  search_call = searched (decode sheet) note allowance steps plan

  -- "It returns 0 spent, 1 placed, 2 none, or a refusal as check does"
  abbrev pub search_code : ℕ
  search_code = R.answer_number search_call.answer

  abbrev pub note_after : List ℕ
  note_after = note_left search_call note

  abbrev pub steps_after : List ℕ
  steps_after = steps_left search_call steps

  abbrev pub plan_after : List ℕ
  plan_after = plan_left (items_in (decode sheet)) search_call plan
