-- The mission's first demand, as one theorem: that every function answers, what is refused and with which number, and what a refusal
-- leaves. The table's conditions stand beside the definitions that test them: c_api Faults (check and search in bytes) and Finishes, search Results
-- (`SearchFault`), sheet Faults (reading, with document 02's 11 and 12), writer and item_record Refusing, packing Check and Clearance (with 02's 13).
use Rattle.std.specs.Prelude.{◌↔◌, ◌⊎◌, ◌≡◌, ◌+◌, ◌≤◌, ◌<◌}
use Rattle.prelude.specs.Names.{true, false, List, [], inl, inr, ℕ, ℤ, length, get_or}
use Rattle.refusal.specs.Numbers.{number_of, place_of}
use Rattle.refusal.specs.declared.Refusal.{Refusal}
use Rattle.formats.specs.Reading.{Bytes}
use Rattle.parts.specs.Parts.{item}
use Rattle.parts.specs.Sizes.{no_item}
use Rattle.sheet.specs.Faults.{Fault, FirstFault}
use Rattle.sheet.specs.Contents.{sheet_at}
use Rattle.sheet.specs.Sheet.{max_items}
use Rattle.instance.specs.Answers.{read_result, read_values}
use Rattle.instance.specs.Meaning.{positions_of}
use Rattle.instance.specs.Reads.{Reads}
use Rattle.instance.specs.Sheets.{instance_of, decode, encode}
use Rattle.instance.specs.Valid.{valid}
use Rattle.instance.specs.Values.{origin_packing}
use Rattle.instance.specs.declared.Checkpoint.{Checkpoint}
use Rattle.instance.specs.declared.Instance.{Instance}
use Rattle.instance.specs.declared.Packing.{Packing}
use Rattle.item_record.specs.Record.{item_record, item_record_code, refusal_code}
use Rattle.item_record.specs.Refusing.{RecordFault}
use Rattle.writer.specs.Answers.{write_answer, write_values, written_room}
use Rattle.writer.specs.Refusing.{WriteFault}
use Rattle.turning.specs.Turned.{MarksAllowed}
use Rattle.packing.specs.Check.{turned_by, check_answer, check_number, CheckFault}
use Rattle.packing.specs.Clearance.{clearance_between, clearance_answer, clearance_values, ClearanceFault}
use Rattle.search.specs.Results.{answer_number, search_result, SearchFault}
use Rattle.makespan.specs.Results.{finish_result}
use Rattle.c_api.specs.Calls.{check_code, pieces_code, search_code, note_after, steps_after, plan_after}
use Rattle.c_api.specs.Faults.{CheckBytesFault, SearchBytesFault}
use Rattle.c_api.specs.Finishes.{finish_code, length_after, finish_steps_after, finish_plan_after, FinishBytesFault}
use Rattle.demands.specs.Functions.{Functions}

pub record Demand1 : Type 2 where
  -- "Whatever sheet, plan, note or allowance is handed in, it stays inside its memory, ends and answers."
  pub functions : (M : Type 1) → Functions M
  -- "A faulty one gets the numbered refusal of document 01's table, in that order; nothing else is refused;"
  -- In bytes: check and search return 100 plus n exactly when the table has n, and otherwise 0 or 1, and 0, 1 or 2
  pub check_bytes_refuses : (sheet plan : List ℕ) → Bytes sheet → (n : ℕ)
      → (check_code sheet plan ≡ 100 + n) ↔ CheckBytesFault sheet plan n
  pub check_bytes_answers : (sheet plan : List ℕ) → (check_code sheet plan ≤ 1) ⊎ (100 ≤ check_code sheet plan)
  pub search_bytes_refuses : (sheet note steps plan : List ℕ) (allowance : ℕ) → Bytes sheet → Bytes note → (n : ℕ)
      → (search_code sheet note allowance steps plan ≡ 100 + n) ↔ SearchBytesFault sheet note steps plan n
  pub search_bytes_answers : (sheet note steps plan : List ℕ) (allowance : ℕ)
      → let code = search_code sheet note allowance steps plan in (code ≤ 2) ⊎ (100 ≤ code)
  -- "a refusal leaves lent buffers untouched."
  pub buffers_untouched : (sheet note steps plan : List ℕ) (allowance : ℕ)
      → 100 ≤ search_code sheet note allowance steps plan
      → (note_after sheet note allowance steps plan ≡ note)
      × (steps_after sheet note allowance steps plan ≡ steps)
      × (plan_after sheet note allowance steps plan ≡ plan)
  -- Pieces (ours): 100 plus the number of the sheet's first fault, and otherwise its number of pieces, at most 10
  pub pieces_refuses : (sheet : List ℕ) → Bytes sheet → (n : ℕ)
      → (pieces_code sheet ≡ 100 + n) ↔ ((e : Refusal) × FirstFault sheet e × (n ≡ number_of e))
  pub pieces_counts : (sheet : List ℕ) → Bytes sheet → (n : ℕ)
      → ((pieces_code sheet ≡ n) × (n ≤ max_items)) ↔ ((r : Reads sheet) × (n ≡ r.instance.item_count))
  pub pieces_answers : (sheet : List ℕ) → Bytes sheet → (pieces_code sheet ≤ max_items) ⊎ (100 ≤ pieces_code sheet)
  -- Reading: number and place of the sheet's first fault; otherwise the instance that its bytes tell
  pub read_refuses : (sheet : List ℕ) (n place : ℕ)
      → (read_values (read_result (decode sheet)) ≡ inr (n, place))
      ↔ ((e : Refusal) × FirstFault sheet e × (n ≡ number_of e) × (place ≡ place_of e))
  pub read_answers : (sheet : List ℕ) (i : Instance)
      → (read_values (read_result (decode sheet)) ≡ inl i)
      ↔ (((e : Refusal) → Fault sheet e → ⊥) × (i ≡ instance_of (sheet_at sheet)))
  -- Writing: 9, then 8, each with place 0, and the lent room stays; otherwise the sheet's length
  pub write_refuses : (i : Instance) (room n place : ℕ)
      → (write_values (write_answer i room) ≡ inr (n, place)) ↔ (WriteFault i room n × (place ≡ 0))
  pub write_answers : (i : Instance) (room n : ℕ) → (write_values (write_answer i room) ≡ inl n)
      ↔ ((valid i ≡ true) × (length (encode i) ≤ room) × (n ≡ length (encode i)))
  pub room_untouched : (i : Instance) (room : List ℕ) (n place : ℕ)
      → write_values (write_answer i (length room)) ≡ inr (n, place) → written_room i room ≡ room
  -- Check in values: 9, then 13; otherwise 0 or 1
  pub check_refuses : (i : Instance) (q : Packing) (n : ℕ) → (check_number (check_answer i q) ≡ 100 + n) ↔ CheckFault i q n
  pub check_answers : (i : Instance) (q : Packing) → let n = check_number (check_answer i q) in (n ≤ 1) ⊎ (100 ≤ n)
  -- Search in values: 9, then 10; otherwise 0, 1 or 2; "a refused search hands its note back with 0 steps"
  pub search_refuses : (i : Instance) (c : Checkpoint) (budget n : ℕ)
      → (answer_number (search_result i c budget).answer ≡ 100 + n) ↔ SearchFault i c n
  pub search_answers : (i : Instance) (c : Checkpoint) (budget : ℕ)
      → let n = answer_number (search_result i c budget).answer in (n ≤ 2) ⊎ (100 ≤ n)
  pub handed_back : (i : Instance) (c : Checkpoint) (budget : ℕ) → let r = search_result i c budget in
      100 ≤ answer_number r.answer → (r.checkpoint ≡ c) × (r.steps ≡ 0) × (r.packing ≡ origin_packing)
  -- The earliest finish (02, #103) in values: 9 and nothing else; otherwise 0, 1 or 2; a refusal comes with nothing
  pub finish_refuses : (i : Instance) (budget n : ℕ)
      → (answer_number (finish_result i budget).answer ≡ 100 + n) ↔ ((valid i ≡ false) × (n ≡ 9))
  pub finish_answers : (i : Instance) (budget : ℕ) → let n = answer_number (finish_result i budget).answer in (n ≤ 2) ⊎ (100 ≤ n)
  pub finish_empty : (i : Instance) (budget : ℕ) → let r = finish_result i budget in
      100 ≤ answer_number r.answer → (r.length ≡ 0) × (r.steps ≡ 0) × (r.packing ≡ origin_packing)
  -- and in bytes: the sheet's first fault, then 8; otherwise 0, 1 or 2; a refusal writes nothing
  pub finish_bytes_refuses : (sheet finish steps plan : List ℕ) (allowance : ℕ) → Bytes sheet → (n : ℕ)
      → (finish_code sheet allowance finish steps plan ≡ 100 + n) ↔ FinishBytesFault sheet finish steps plan n
  pub finish_bytes_answers : (sheet finish steps plan : List ℕ) (allowance : ℕ)
      → let code = finish_code sheet allowance finish steps plan in (code ≤ 2) ⊎ (100 ≤ code)
  pub finish_untouched : (sheet finish steps plan : List ℕ) (allowance : ℕ)
      → 100 ≤ finish_code sheet allowance finish steps plan
      → (length_after sheet allowance finish steps plan ≡ finish)
      × (finish_steps_after sheet allowance finish steps plan ≡ steps)
      × (finish_plan_after sheet allowance finish steps plan ≡ plan)
  -- Clearance: 9, then 5, then 8, then 13, each with place 0; otherwise the number
  pub clearance_refuses : (i : Instance) (q : Packing) (u v a n place : ℕ)
      → (clearance_values (clearance_answer i q u v a) ≡ inr (n, place)) ↔ (ClearanceFault i q u v a n × (place ≡ 0))
  pub clearance_answers : (i : Instance) (q : Packing) (u v a : ℕ) (z : ℤ)
      → (clearance_values (clearance_answer i q u v a) ≡ inl z)
      ↔ ((valid i ≡ true) × (u < i.item_count) × (v < i.item_count) × (a < 3) × MarksAllowed i q.marks
      × (z ≡ clearance_between (turned_by i q) (positions_of q) a u v))
  -- An item's record: the sheet's number and place, then 5 and 0, and the part is empty; otherwise 0 and 0, and the part is the
  -- bytes that the item was read from
  pub record_refuses : (sheet : List ℕ) (k : ℕ) (e : Refusal)
      → (item_record_code sheet k ≡ refusal_code (number_of e) (place_of e)) ↔ RecordFault sheet k e
  pub record_answers : (sheet : List ℕ) (k : ℕ)
      → (item_record_code sheet k ≡ refusal_code 0 0) ↔ ((r : Reads sheet) × (k < r.instance.item_count))
  pub record_part : (sheet : List ℕ) → Bytes sheet → (r : Reads sheet) (k : ℕ) → k < r.instance.item_count
      → item_record sheet k ≡ item.bytes (get_or r.instance.items k no_item)
  pub record_empty : (sheet : List ℕ) (k : ℕ) (e : Refusal)
      → item_record_code sheet k ≡ refusal_code (number_of e) (place_of e) → item_record sheet k ≡ []
