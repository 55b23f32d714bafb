-- Each function open to callers meets its contract, which asks nothing and says these definitions.
use Rattle.demands.specs.Functions.{Functions}
use Rattle.c_api.proofs.hallplan_check.Met as CheckBytes
use Rattle.c_api.proofs.hallplan_pieces.Met as Pieces
use Rattle.c_api.proofs.hallplan_search.Met as SearchBytes
use Rattle.c_api.proofs.finish.hallplan_finish.Met as FinishBytes
use Rattle.instance.proofs.Instance.is_valid.Met as IsValid
use Rattle.instance.proofs.Instance.validated.Met as ValidatedValue
use Rattle.instance.proofs.Instance.opening.Met as Opening
use Rattle.instance.proofs.Instance.read.Met as Read
use Rattle.writer.proofs.write.Met as Write
use Rattle.instance.proofs.Packing.origin.Met as Origin
use Rattle.item_record.proofs.item_record.Met as Record
use Rattle.item_record.proofs.item_record_refusal.Met as RecordRefusal
use Rattle.makespan.proofs.earliest_finish.Met as Finish
use Rattle.packing.proofs.check.Met as Check
use Rattle.packing.proofs.clearance.Met as Clearance
use Rattle.refusal.proofs.Refusal.number.Met as Number
use Rattle.refusal.proofs.Refusal.place.Met as Place
use Rattle.search.proofs.answer.Answer.number.Met as AnswerNumber
use Rattle.search.proofs.search.Met as Search

pub functions : (M : Type 1) → Functions M
functions M = record {
  refusal_number = record { runs = Number.met; asks_nothing = λ κs a. tt; promises = λ κs a r s p. p };
  refusal_place = record { runs = Place.met; asks_nothing = λ κs a. tt; promises = λ κs a r s p. p };
  instance_is_valid = record { runs = IsValid.met; asks_nothing = λ κs a. tt; promises = λ κs a r s p. p };
  instance_validated = record { runs = ValidatedValue.met; asks_nothing = λ κs a. tt; promises = λ κs a r s p. p };
  instance_opening = record { runs = Opening.met; asks_nothing = λ κs a. tt; promises = λ κs a r s p. p };
  packing_origin = record { runs = Origin.met; asks_nothing = λ κs a. tt; promises = λ κs a r s p. p };
  instance_read = record { runs = Read.met; asks_nothing = λ κs a. tt; promises = λ κs a r s p. p };
  writer_write = record { runs = Write.met; asks_nothing = λ κs a. tt; promises = λ κs a r s p. (p.0, p.1.0, p.1.1) };
  item_record_part = record { runs = Record.met; asks_nothing = λ κs a. tt; promises = λ κs a r s p. p };
  item_record_refusal = record { runs = RecordRefusal.met; asks_nothing = λ κs a. tt; promises = λ κs a r s p. p };
  packing_check = record { runs = Check.met; asks_nothing = λ κs a. tt; promises = λ κs a r s p. p.0 };
  packing_clearance = record { runs = Clearance.met; asks_nothing = λ κs a. tt; promises = λ κs a r s p. p.0 };
  search_search = record { runs = Search.met; asks_nothing = λ κs a. tt; promises = λ κs a r s p. p };
  search_answer_number = record { runs = AnswerNumber.met; asks_nothing = λ κs a. tt; promises = λ κs a r s p. p };
  makespan_earliest_finish = record { runs = Finish.met; asks_nothing = λ κs a. tt; promises = λ κs a r s p. p };
  c_check = record { runs = CheckBytes.met; asks_nothing = λ κs a. tt; promises = λ κs a r s p. p };
  c_pieces = record { runs = Pieces.met; asks_nothing = λ κs a. tt; promises = λ κs a r s p. p };
  c_search = record {
    runs = SearchBytes.met;
    asks_nothing = λ κs a. tt;
    promises = λ κs a r s p. (p.0, p.1.0, p.1.1.0, p.1.1.1.0, p.1.1.1.1.0, p.1.1.1.1.1);
  };
  c_finish = record {
    runs = FinishBytes.met;
    asks_nothing = λ κs a. tt;
    promises = λ κs a r s p. (p.0, p.1.0, p.1.1.0, p.1.1.1.0, p.1.1.1.1);
  };
}
