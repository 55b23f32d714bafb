-- What each call comes to by what reading its sheet answered: the instance's, or the refusal.
use Rattle.std.specs.Prelude.{◌≡◌, ◌+◌, ◌≤◌, Ok, Err}
use Rattle.std.specs.Int.{from_bool}
use Rattle.prelude.specs.Names.{Bool, true, false, List, ℕ, refl}
use Rattle.refusal.specs.Numbers.{number_of}
use Rattle.refusal.specs.declared.Refusal.{Refusal}
use Rattle.formats.specs.Reading.{Bytes}
use Rattle.sheet.specs.Sheet.{max_items}
use Rattle.instance.proofs.Readings.{was_read, was_refused}
use Rattle.instance.proofs.RoundTrips as RoundTrips
use Rattle.instance.proofs.Sheets.{valid-says}
use Rattle.instance.specs.Answers.{read_result}
use Rattle.instance.specs.Reads.{Full}
use Rattle.instance.specs.Sheets.{decode}
use Rattle.instance.specs.Valid.{valid}
use Rattle.instance.specs.declared.Instance.{Instance}
use Rattle.packing.specs.Check.{check_number}
use Rattle.makespan.specs.Results.{finish_refused}
use Rattle.search.specs.Results.{result_refused}
use Rattle.buffers.specs.Checkpoints.{checkpoint_in}
use Rattle.c_api.specs.Calls.{instance_checked, check_code, pieces_code, instance_searched, items_in, search_call}
use Rattle.c_api.specs.Finishes.{instance_finished, finish_call}

-- a valid instance has at most ten items
pub few_items : (i : Instance) → valid i ≡ true → i.item_count ≤ max_items
few_items i v = (valid-says i v).items-few

-- the number of a yes or a no
pub yes_or_no : (b : Bool) → from_bool b ≡ check_number (Ok b)
yes_or_no false = refl
yes_or_no true = refl

-- the sheet was read as i
module _ (s : List ℕ) {i : Instance} (e : Ok i ≡ read_result (decode s)) where
  pub read_valid : Bytes s → valid i ≡ true
  read_valid b = RoundTrips.read_valid s (was_read (decode s) (Ok i) e refl).was b

  pub read_full : Bytes s → Full i
  read_full b = RoundTrips.read_full s (was_read (decode s) (Ok i) e refl).was b

  pub read_few : Bytes s → i.item_count ≤ max_items
  read_few b = few_items i (read_valid b)

  pub check_read : (plan : List ℕ) → check_code s plan ≡ check_number (instance_checked i plan)
  unfolding check_code
  check_read plan = let w = was_read (decode s) (Ok i) e refl in rw w.was

  pub pieces_read : pieces_code s ≡ i.item_count
  unfolding pieces_code
  pieces_read = let w = was_read (decode s) (Ok i) e refl in rw w.was

  pub items_read : items_in (decode s) ≡ i.item_count
  items_read = let w = was_read (decode s) (Ok i) e refl in rw w.was

  pub search_read : (note : List ℕ) (allowance : ℕ) (steps plan : List ℕ)
      → search_call s note allowance steps plan ≡ instance_searched i note allowance steps plan
  unfolding search_call
  search_read note allowance steps plan = let w = was_read (decode s) (Ok i) e refl in rw w.was

  pub finish_read : (allowance : ℕ) (shifts steps plan : List ℕ)
      → finish_call s allowance shifts steps plan ≡ instance_finished i allowance shifts steps plan
  unfolding finish_call
  finish_read allowance shifts steps plan = let w = was_read (decode s) (Ok i) e refl in rw w.was

-- it was refused
module _ (s : List ℕ) {r : Refusal} (e : Err r ≡ read_result (decode s)) where
  pub check_refused : (plan : List ℕ) → check_code s plan ≡ 100 + number_of r
  unfolding check_code
  check_refused plan = rw (was_refused (decode s) (Err r) e refl)

  pub pieces_refused : pieces_code s ≡ 100 + number_of r
  unfolding pieces_code
  pieces_refused = rw (was_refused (decode s) (Err r) e refl)

  pub search_refused : (note : List ℕ) (allowance : ℕ) (steps plan : List ℕ)
      → search_call s note allowance steps plan ≡ result_refused r (checkpoint_in note)
  unfolding search_call
  search_refused note allowance steps plan = rw (was_refused (decode s) (Err r) e refl)

  pub finish_sheet_refused : (allowance : ℕ) (shifts steps plan : List ℕ) → finish_call s allowance shifts steps plan ≡ finish_refused r
  unfolding finish_call
  finish_sheet_refused allowance shifts steps plan = rw (was_refused (decode s) (Err r) e refl)
