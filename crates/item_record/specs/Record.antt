-- An item's record as a part of the sheet (document 01, "Sheet bytes": "For the label printer ..").
use Rattle.std.specs.Prelude.{◌-◌, Result, Ok, Err}
use Rattle.prelude.specs.Names.{cond, List, [], ℕ, suc, ltb, take, drop}
use Rattle.refusal.specs.declared.Refusal.{Refusal}
use Rattle.refusal.specs.declared.Refusal.TheVariants.{BadItem}
use Rattle.refusal.specs.Numbers.{number_of, place_of}
use Rattle.formats.specs.Reading.{Read, got, refused}
use Rattle.sheet.specs.Places.{item_place}
use Rattle.instance.specs.declared.Instance.{Instance}
use Rattle.instance.specs.Sheets.{decode}
use Rattle.item_record.specs.declared.RefusalCode.{RefusalCode}

-- "The label record reads the whole sheet first"; 5 with place 0 for "a piece not on the sheet"
abbrev pub lookup : Read Instance → ℕ → Result (Unit {0}) Refusal
lookup (got i at rest) k = cond (ltb k i.item_count) (Ok tt) (Err (BadItem 0))
lookup (refused e) k = Err e

-- "a piece's record, map byte and fields, is handed out as that part of the lent sheet itself": from the place of item k
-- up to the place after it; "When the record is refused, the part is empty"
abbrev pub record_of : Result (Unit {0}) Refusal → List ℕ → ℕ → List ℕ
record_of (Ok _) s k = take (item_place s (suc k) - item_place s k) (drop (item_place s k) s)
record_of (Err e) s k = []

unfoldable pub item_record : List ℕ → ℕ → List ℕ
item_record s k = record_of (lookup (decode s) k) s k

abbrev pub refusal_code : ℕ → ℕ → RefusalCode
refusal_code number place = record { number = number; place = place }

-- "a second call gives number and place; it gives 0 and 0 where nothing is refused"
abbrev pub code_of : Result (Unit {0}) Refusal → RefusalCode
code_of (Ok _) = refusal_code 0 0
code_of (Err e) = refusal_code (number_of e) (place_of e)

unfoldable pub item_record_code : List ℕ → ℕ → RefusalCode
item_record_code s k = code_of (lookup (decode s) k)
