-- The bytes of an instance's sheet, part by part.
use Rattle.std.specs.Int.{from_bool}
use Rattle.std.specs.Prelude.{◌≡◌, ◌∷◌, ◌++◌, ◌+◌, ◌*◌}
use Rattle.prelude.specs.Names.{refl, ◌∙◌, true, List, [], append-nil, append_assoc, ℕ, suc, arith, length, set}
use Rattle.prelude.specs.Names.{length-append, length-set, map, not, eqb, sets, ne_eqb}
use lib.ListN.{length-map}
use Rattle.formats.specs.Formats.{Format, Test, byte, tested, keyed, row_bytes, row, count, counted}
use Rattle.formats.specs.Fields.{flag, flags, optional_bytes, fields_bytes, fields, map_byte, with_map}
use Rattle.formats.proofs.Stores.{sets-front, stores, joined, stores_joined}
use Rattle.parts.specs.Precedences.{lag_of}
use Rattle.parts.specs.Parts.{number, byte_number, count_bytes, count_flag, measures, size_fields, lags_zero, lag_list}
use Rattle.parts.proofs.Writers.{number-flag, byte_number-flag, number-count, byte_number-count, bit-most, precedences-length}
use Rattle.sheet.specs.Sheet.{list_of, item_list, precedence_list, yard_number, walkway, sheet_fields, sheet}
use Rattle.instance.specs.declared.Instance.{Instance}
use Rattle.instance.specs.Valid.{valid, items_of, precedences_of}
use Rattle.instance.specs.Sheets.{sheet_of, encode}
use Rattle.instance.specs.Reads.{Full}
use Rattle.instance.proofs.Sheets.{items-few, precedences-few, items-counted, precedences-counted, encode-most}
use Rattle.writer.proofs.Lags.{lags-flag}
use Rattle.writer.specs.Lists.{items_bytes, precedences_bytes, lags_bytes}

-- a counted row's bytes are its count's, left out for none, and its parts'
list_bytes : {P A : Type 0} (part : Format A) (tests : P → A → List Test) (next : P → A → P) (p : P) (limit : ℕ) (xs : List A)
    → optional_bytes (list_of part tests next p limit) xs ≡ count_bytes (length xs) ++ row_bytes part.bytes xs
unfolding optional_bytes list_of counted keyed count tested byte row row_bytes byte_number
list_bytes part tests next p limit [] = refl
list_bytes part tests next p limit (x ∷ xs) = rw (ne_eqb (suc (length xs)) 0 (λ z. omega arith))

-- the length of the sheet, by its fields
abbrev pub Lengths : Instance → Type 0
Lengths i = length (encode i)
    ≡ 1 + (length (fields_bytes size_fields i.container)
    + (length (items_bytes (items_of i))
    + (length (precedences_bytes (precedences_of i))
    + (length (optional_bytes (number 0) i.yard_number)
    + (length (lags_bytes (precedences_of i)) + length (optional_bytes byte_number i.walkway))))))

module _ (i : Instance) (h : valid i ≡ true) (full : Full i) where
  map-flags : flags sheet_fields (sheet_of i)
      ≡ flags size_fields i.container + 8 * (count_flag i.item_count + 2 * count_flag i.precedence_count) + 32 * flag (number 0) i.yard_number
      + 64 * flag (lag_list (length (precedences_of i))) (map lag_of (precedences_of i)) + 128 * flag byte_number i.walkway
  unfolding flags flag sheet_fields size_fields measures item_list precedence_list yard_number walkway list_of byte_number
  map-flags = simp (length-map, items-counted i h full, precedences-counted i h full) (omega arith)

  -- a bit for each field that is written
  pub map-bits : flags sheet_fields (sheet_of i)
      ≡ flags size_fields i.container
      + 8 * (from_bool (not (eqb i.item_count 0)) + 2 * from_bool (not (eqb i.precedence_count 0)))
      + 32 * from_bool (not (eqb i.yard_number 0))
      + 64 * from_bool (not (lags_zero (map lag_of (precedences_of i))))
      + 128 * from_bool (not (eqb i.walkway 0))
  map-bits =
      map-flags
      ∙ rw (
        byte_number-flag i.item_count,
        byte_number-flag i.precedence_count,
        number-flag 0 i.yard_number,
        lags-flag (precedences_of i),
        byte_number-flag i.walkway,
      )

  -- the fields after the map byte
  abbrev pub field-runs : List (List ℕ)
  field-runs =
      fields_bytes size_fields i.container
      ∷ items_bytes (items_of i)
      ∷ precedences_bytes (precedences_of i)
      ∷ optional_bytes (number 0) i.yard_number
      ∷ lags_bytes (precedences_of i)
      ∷ optional_bytes byte_number i.walkway
      ∷ []

  encode-is : encode i ≡ flags sheet_fields (sheet_of i) ∷ joined field-runs
  unfolding encode sheet with_map map_byte keyed tested byte fields fields_bytes sheet_fields size_fields measures
      item_list precedence_list yard_number walkway
  encode-is = simp (list_bytes, length-map, items-counted i h full, precedences-counted i h full, append_assoc, append-nil)

  pub encode-length : Lengths i
  encode-length = rw encode-is (simp (length-append, precedences-length, length-map, precedences-counted i h full) (omega arith))

  -- stored one after the other, they are the sheet
  pub encode_stored : (l : List ℕ) → stores (set l 0 (flags sheet_fields (sheet_of i))) 1 field-runs ≡ sets l 0 (encode i)
  encode_stored l = stores_joined (set l 0 (flags sheet_fields (sheet_of i))) 1 field-runs ∙ rw encode-is

-- what the proofs of the writer cite
pub ruleset sheets = (map-bits, bit-most, number-count, byte_number-count, encode-length, encode-most, encode_stored, items-few, precedences-few, items-counted, precedences-counted, length-set, sets-front)
