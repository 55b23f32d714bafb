-- The sheet has its laws: what that says of reading and writing.
use Rattle.std.specs.Prelude.{◌≡◌, ◌&&◌, ◌||◌, ◌∷◌}
use Rattle.prelude.specs.Names.{refl, Bool, true, false, not, false≢true, List, [], ℕ, arith, eqb, length, eqb-true}
use Rattle.formats.specs.Reading.{Bytes, got, run}
use Rattle.formats.specs.Formats.{Format, Test, byte, tested, passes_all, keyed, count, counted, whole}
use Rattle.formats.proofs.Laws.{Lawful, both_true, counted_lawful, whole-written_read, whole_read_written}
use Rattle.formats.proofs.Maps.{OptionalLaws, FieldsLaws, with_map_lawful}
use Rattle.parts.specs.Parts.{measures}
use Rattle.parts.proofs.Laws.{number_laws, byte_number_laws, measure_laws, item_lawful, precedence_lawful, lag_laws}
use Rattle.sheet.specs.Sheet.{Sheet, list_of, item_list, precedence_list, yard_number, walkway, sheet_fields, sheet}

module _ {P A : Type 0} (part : Format A) (tests : P → A → List Test) (next : P → A → P) (φ : Lawful part) where
  empty_list : (xs : List A) → eqb (length xs) 0 ≡ true → [] ≡ xs
  empty_list [] h = refl
  empty_list (x ∷ xs) h = absurd (omega (arith, eqb-true (length (x ∷ xs)) 0 h))

  -- a count of 0 is refused
  count-not-zero : (a b : Bool) → (not (a || b) && true) ≡ true → a ≡ false
  count-not-zero true b h = absurd (false≢true h)
  count-not-zero false b h = refl

  pub list_laws : (p : P) (limit : ℕ) → OptionalLaws (list_of part tests next p limit)
  unfolding list_of counted count keyed tested passes_all byte
  list_laws p limit = record {
    lawful = counted_lawful part tests next φ p limit;
    out = refl;
    only = empty_list;
    apart = λ xs h. count-not-zero _ _ (both_true _ _ h).0;
  }

pub sheet_fields_laws : FieldsLaws sheet_fields
unfolding sheet_fields measures item_list precedence_list yard_number walkway
sheet_fields_laws = search (number_laws, byte_number_laws, measure_laws, list_laws, item_lawful, precedence_lawful, lag_laws) depth 24

pub sheet_lawful : Lawful sheet
unfolding sheet sheet_fields measures
sheet_lawful = with_map_lawful sheet_fields sheet_fields_laws (λ x. refl)

-- "A written sheet reads back as the same sheet"
pub written_read : (x : Sheet) → sheet.valid x ≡ true → run (whole sheet) 0 (sheet.bytes x) ≡ got x (length (sheet.bytes x)) []
written_read = whole-written_read sheet_lawful

-- "bytes that read as a sheet are written again as those bytes"
pub read_written : (s : List ℕ) {x : Sheet} {at : ℕ} {rest : List ℕ} → Bytes s → run (whole sheet) 0 s ≡ got x at rest → sheet.bytes x ≡ s
read_written s b h = (whole_read_written sheet_lawful s b h).0

-- and what was read is valid
pub read_valid : (s : List ℕ) {x : Sheet} {at : ℕ} {rest : List ℕ} → Bytes s → run (whole sheet) 0 s ≡ got x at rest → sheet.valid x ≡ true
read_valid s b h = (whole_read_written sheet_lawful s b h).1
