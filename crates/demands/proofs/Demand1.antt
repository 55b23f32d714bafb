-- The mission's first demand holds.
use Rattle.std.specs.Prelude.{◌⊎◌, ◌≤◌, Result, Ok, Err}
use Rattle.prelude.specs.Names.{Bool, true, false, inl, inr, arith}
use Rattle.refusal.specs.declared.Refusal.{Refusal}
use Rattle.instance.proofs.Readings.{read_refuses, read_answers}
use Rattle.item_record.proofs.Records.{record_is_read}
use Rattle.item_record.proofs.Refusing.{record_refuses, record_serves, record_empty}
use Rattle.writer.proofs.Refusing.{write_refuses, write_writes, room_untouched}
use Rattle.instance.specs.Sheets.{decode}
use Rattle.packing.proofs.Answers.{answers}
use Rattle.packing.proofs.Decides.{decides}
use Rattle.packing.specs.Check.{check_answer, check_number}
use Rattle.search.proofs.Claim.{refuses, handed_back}
use Rattle.search.specs.Results.{answer_number, search_result}
use Rattle.search.specs.declared.answer.Answer.{Answer}
use Rattle.c_api.proofs.Faults.{search_refuses, untouched}
use Rattle.c_api.proofs.Pieces.{pieces_refuses, pieces_counts, pieces_answers}
use Rattle.c_api.proofs.Plans.{check_refuses}
use Rattle.c_api.specs.Calls.{checked, check_code, search_call}
use Rattle.demands.specs.Demand1.{Demand1}
use Rattle.demands.proofs.Functions.{functions}
use Rattle.makespan.specs.Results.{finish_result}
use Rattle.c_api.specs.Finishes.{finish_call}
use Rattle.makespan.proofs.Claim as Finish
use Rattle.c_api.proofs.Finishes as FinishBytes
use Rattle.search.specs.declared.answer.Answer.TheVariants as Searching

-- what a number tells
check_answers : (a : Result Bool Refusal) → (check_number a ≤ 1) ⊎ (100 ≤ check_number a)
check_answers (Ok false) = inl (omega arith)
check_answers (Ok true) = inl (omega arith)
check_answers (Err e) = inr (omega arith)

search_answers : (a : Answer) → (answer_number a ≤ 2) ⊎ (100 ≤ answer_number a)
search_answers Searching.BudgetSpent = inl (omega arith)
search_answers Searching.Packed = inl (omega arith)
search_answers Searching.Infeasible = inl (omega arith)
search_answers (Searching.Refused e) = inr (omega arith)

pub demand1 : Demand1
unfolding check_code
demand1 = record {
  functions = functions;
  check_bytes_refuses = check_refuses;
  check_bytes_answers = λ sheet plan. check_answers (checked (decode sheet) plan);
  search_bytes_refuses = search_refuses;
  search_bytes_answers = λ sheet note steps plan allowance. search_answers (search_call sheet note allowance steps plan).answer;
  buffers_untouched = untouched;
  pieces_refuses = pieces_refuses;
  pieces_counts = pieces_counts;
  pieces_answers = pieces_answers;
  read_refuses = read_refuses;
  read_answers = read_answers;
  write_refuses = write_refuses;
  write_answers = write_writes;
  room_untouched = room_untouched;
  check_refuses = λ i q. (decides i q).refused;
  check_answers = λ i q. check_answers (check_answer i q);
  search_refuses = refuses;
  search_answers = λ i c budget. search_answers (search_result i c budget).answer;
  handed_back = handed_back;
  finish_refuses = Finish.finish_refuses;
  finish_answers = λ i budget. search_answers (finish_result i budget).answer;
  finish_empty = Finish.refused-empty;
  finish_bytes_refuses = FinishBytes.finish_refuses;
  finish_bytes_answers = λ sheet finish steps plan allowance. search_answers (finish_call sheet allowance finish steps plan).answer;
  finish_untouched = FinishBytes.finish_untouched;
  clearance_refuses = λ i q u v a. (answers i q u v a).refused;
  clearance_answers = λ i q u v a. (answers i q u v a).value;
  record_refuses = record_refuses;
  record_answers = record_serves;
  record_part = λ sheet bytes r k l. (record_is_read sheet bytes r k l).1;
  record_empty = record_empty;
}
