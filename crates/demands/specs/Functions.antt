-- The functions open to callers, and what each of them promises.
use Rattle.std.specs.Prelude.{◌≡◌}
use Rattle.prelude.specs.Names.{length}
use Rattle.refusal.specs.Numbers.{number_of, place_of}
use Rattle.formats.specs.Reading.{Bytes}
use Rattle.instance.specs.Sheets.{decode}
use Rattle.instance.specs.Answers.{read_result}
use Rattle.writer.specs.Answers.{write_answer, written_room}
use Rattle.instance.specs.Reads.{Full}
use Rattle.item_record.specs.Record.{item_record, item_record_code}
use Rattle.instance.specs.Valid.{valid}
use Rattle.instance.specs.Validated.{Validated}
use Rattle.instance.specs.Values.{opening_checkpoint, origin_packing}
use Rattle.packing.specs.Check.{check_answer}
use Rattle.packing.specs.Clearance.{clearance_answer}
use Rattle.search.specs.Results.{answer_number, search_result}
use Rattle.makespan.specs.Results.{finish_result}
use Rattle.c_api.specs.Calls.{check_code, pieces_code, search_code, note_after, steps_after, plan_after}
use Rattle.c_api.specs.Finishes.{finish_code, length_after, finish_steps_after, finish_plan_after}
use Rattle.refusal.proofs.Refusal.number.Reads as Number
use Rattle.refusal.proofs.Refusal.number.Statement as NumberRuns
use Rattle.refusal.proofs.Refusal.place.Reads as Place
use Rattle.refusal.proofs.Refusal.place.Statement as PlaceRuns
use Rattle.instance.proofs.Instance.is_valid.Reads as IsValid
use Rattle.instance.proofs.Instance.is_valid.Statement as IsValidRuns
use Rattle.instance.proofs.Instance.validated.Reads as ValidatedValue
use Rattle.instance.proofs.Instance.validated.Statement as ValidatedRuns
use Rattle.instance.proofs.Instance.opening.Reads as Opening
use Rattle.instance.proofs.Instance.opening.Statement as OpeningRuns
use Rattle.instance.proofs.Instance.read.Reads as Read
use Rattle.instance.proofs.Instance.read.Statement as ReadRuns
use Rattle.writer.proofs.write.Reads as Write
use Rattle.writer.proofs.write.Statement as WriteRuns
use Rattle.instance.proofs.Packing.origin.Reads as Origin
use Rattle.instance.proofs.Packing.origin.Statement as OriginRuns
use Rattle.item_record.proofs.item_record.Reads as Record
use Rattle.item_record.proofs.item_record.Statement as RecordRuns
use Rattle.item_record.proofs.item_record_refusal.Reads as RecordRefusal
use Rattle.item_record.proofs.item_record_refusal.Statement as RecordRefusalRuns
use Rattle.packing.proofs.check.Reads as Check
use Rattle.packing.proofs.check.Statement as CheckRuns
use Rattle.packing.proofs.clearance.Reads as Clearance
use Rattle.packing.proofs.clearance.Statement as ClearanceRuns
use Rattle.search.proofs.answer.Answer.number.Reads as AnswerNumber
use Rattle.search.proofs.answer.Answer.number.Statement as AnswerNumberRuns
use Rattle.search.proofs.search.Reads as Search
use Rattle.search.proofs.search.Statement as SearchRuns
use Rattle.makespan.proofs.earliest_finish.Reads as Finish
use Rattle.makespan.proofs.earliest_finish.Statement as FinishRuns
use Rattle.c_api.proofs.hallplan_check.Reads as CheckBytes
use Rattle.c_api.proofs.hallplan_check.Statement as CheckBytesRuns
use Rattle.c_api.proofs.hallplan_pieces.Reads as Pieces
use Rattle.c_api.proofs.hallplan_pieces.Statement as PiecesRuns
use Rattle.c_api.proofs.hallplan_search.Reads as SearchBytes
use Rattle.c_api.proofs.hallplan_search.Statement as SearchBytesRuns
use Rattle.c_api.proofs.finish.hallplan_finish.Reads as FinishBytes
use Rattle.c_api.proofs.finish.hallplan_finish.Statement as FinishBytesRuns

-- What a function promises, by its theorem and its contract. κs are lifetimes, a the arguments, r the result, s the parameters at exit.
pub record Promise
    {K : Type 0} {A R S : K → Type 0}
    (Runs : Type 2)
    (Asked : (κs : K) → A κs → Type 0)
    (Learnt Said : (κs : K) → A κs → R κs → S κs → Type 0)
    : Type 2 where
  -- its own theorem: whoever calls it with values of its parameters' types finds that it stays inside its memory, ends, and returns and
  -- leaves what its contract says
  pub runs : Runs
  -- the contract asks nothing of these values
  pub asks_nothing : (κs : K) (a : A κs) → Asked κs a
  -- what the contract promises, by the definitions that the demands are about; where these need it, also what the types say of the
  -- arguments (`Bytes`, `Full`)
  pub promises : (κs : K) (a : A κs) (r : R κs) (s : S κs) → Learnt κs a r s → Said κs a r s

-- M is the program logic's own: the theorems hold for every one
pub record Functions (M : Type 1) : Type 2 where
  -- `Refusal::number`, `Refusal::place`
  pub refusal_number : Promise (NumberRuns.statement M) Number.Asked Number.Learnt (λ κs a r s. r ≡ number_of a.0)
  pub refusal_place : Promise (PlaceRuns.statement M) Place.Asked Place.Learnt (λ κs a r s. r ≡ place_of a.0)
  -- `Instance::is_valid`, `Instance::validated`, `Instance::opening`, `Packing::origin`
  pub instance_is_valid : Promise (IsValidRuns.statement M) IsValid.Asked IsValid.Learnt (λ κs a r s. r ≡ valid a.0)
  pub instance_validated : Promise (ValidatedRuns.statement M) ValidatedValue.Asked ValidatedValue.Learnt (λ κs a r s. Validated a.0 r)
  pub instance_opening : Promise (OpeningRuns.statement M) Opening.Asked Opening.Learnt (λ κs a r s. r ≡ opening_checkpoint)
  pub packing_origin : Promise (OriginRuns.statement M) Origin.Asked Origin.Learnt (λ κs a r s. r ≡ origin_packing)
  -- `Instance::read`
  pub instance_read : Promise (ReadRuns.statement M) Read.Asked Read.Learnt (λ κs a r s. r ≡ read_result (decode a.0.now))
  -- `writer::write`
  pub writer_write : Promise (WriteRuns.statement M) Write.Asked Write.Learnt
      (λ κs a r s.
      let instance = a.0 in
      let room = a.1.0.now in
      (r ≡ write_answer instance (length room)) × (s.1.0.now ≡ written_room instance room) × Full instance)
  -- `item_record::item_record`, `item_record::item_record_refusal`
  pub item_record_part : Promise (RecordRuns.statement M) Record.Asked Record.Learnt (λ κs a r s. r.now ≡ item_record a.0.now a.1.0)
  pub item_record_refusal : Promise (RecordRefusalRuns.statement M) RecordRefusal.Asked RecordRefusal.Learnt
      (λ κs a r s. r ≡ item_record_code a.0.now a.1.0)
  -- `packing::check`
  pub packing_check : Promise (CheckRuns.statement M) Check.Asked Check.Learnt (λ κs a r s. r ≡ check_answer a.0 a.1.0)
  -- `packing::clearance`
  pub packing_clearance : Promise (ClearanceRuns.statement M) Clearance.Asked Clearance.Learnt
      (λ κs a r s.
      let instance = a.0 in
      let packing = a.1.0 in
      let u = a.1.1.0 in
      let v = a.1.1.1.0 in
      let axis = a.1.1.1.1.0 in
      r ≡ clearance_answer instance packing u v axis)
  -- `search::search`, `Answer::number`
  pub search_search : Promise (SearchRuns.statement M) Search.Asked Search.Learnt
      (λ κs a r s.
      let instance = a.0 in
      let checkpoint = a.1.0 in
      let budget = a.1.1.0 in
      (r ≡ search_result instance checkpoint budget) × Full instance)
  pub search_answer_number : Promise (AnswerNumberRuns.statement M) AnswerNumber.Asked AnswerNumber.Learnt (λ κs a r s. r ≡ answer_number a.0)
  -- `makespan::earliest_finish`
  pub makespan_earliest_finish : Promise (FinishRuns.statement M) Finish.Asked Finish.Learnt
      (λ κs a r s.
      let instance = a.0 in
      let budget = a.1.0 in
      (r ≡ finish_result instance budget) × Full instance)
  -- `hallplan_check`
  pub c_check : Promise (CheckBytesRuns.statement M) CheckBytes.Asked CheckBytes.Learnt
      (λ κs a r s.
      let sheet = a.0.now in
      let plan = a.1.0.now in
      (r ≡ check_code sheet plan) × Bytes sheet)
  -- `hallplan_pieces`
  pub c_pieces : Promise (PiecesRuns.statement M) Pieces.Asked Pieces.Learnt
      (λ κs a r s. let sheet = a.0.now in (r ≡ pieces_code sheet) × Bytes sheet)
  -- `hallplan_search`
  pub c_search : Promise (SearchBytesRuns.statement M) SearchBytes.Asked SearchBytes.Learnt
      (λ κs a r s.
      let sheet = a.0.now in
      let note = a.1.0.now in
      let allowance = a.1.1.0 in
      let steps = a.1.1.1.0.now in
      let plan = a.1.1.1.1.0.now in
      (r ≡ search_code sheet note allowance steps plan)
      × (s.1.0.now ≡ note_after sheet note allowance steps plan)
      × (s.1.1.1.0.now ≡ steps_after sheet note allowance steps plan)
      × (s.1.1.1.1.0.now ≡ plan_after sheet note allowance steps plan)
      × Bytes sheet
      × Bytes note)
  -- `hallplan_finish`
  pub c_finish : Promise (FinishBytesRuns.statement M) FinishBytes.Asked FinishBytes.Learnt
      (λ κs a r s.
      let sheet = a.0.now in
      let allowance = a.1.0 in
      let finish = a.1.1.0.now in
      let steps = a.1.1.1.0.now in
      let plan = a.1.1.1.1.0.now in
      (r ≡ finish_code sheet allowance finish steps plan)
      × (s.1.1.0.now ≡ length_after sheet allowance finish steps plan)
      × (s.1.1.1.0.now ≡ finish_steps_after sheet allowance finish steps plan)
      × (s.1.1.1.1.0.now ≡ finish_plan_after sheet allowance finish steps plan)
      × Bytes sheet)
