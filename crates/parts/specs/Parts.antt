-- The parts of a sheet as formats (document 01, "Sheet bytes").
use Rattle.std.specs.Prelude.{◌&&◌, ◌∷◌, Option}
use Rattle.prelude.specs.Names.{ℕ, suc, true, false, not, Bool, List, [], eqb, leb, ltb, length, replicate}
use Rattle.refusal.specs.declared.Refusal.TheVariants.{WrittenDefault, BadItem, NotRising, NoLag, TooLarge}
use Rattle.formats.specs.Formats.{Format, Test, byte, word, presence, pair, converted, tested, row, count}
use Rattle.formats.specs.Fields.{Optional, optional_bytes, flag, Fields, made, field, with_map}
use Rattle.parts.specs.declared.Size.{Size}
use Rattle.parts.specs.declared.Item.{Item}
use Rattle.parts.specs.declared.Precedence.{Precedence}
use Rattle.parts.specs.Sizes.{max_measure}
use Rattle.parts.specs.Precedences.{Arc, names_items, rises}

-- 3: a field is never written with a value that is not above its default
abbrev pub low_test : ℕ → ℕ → Test
low_test default v = record { fault = leb v default; refusal = WrittenDefault }

-- a number that is left out for its default, in the bytes of f
abbrev pub number_as : Format ℕ → ℕ → Optional ℕ
number_as f default = record {
  default = default;
  left_out = λ v. eqb v default;
  written = tested f λ v. low_test default v ∷ [];
}

-- in two bytes; in one byte, which is left out for 0
unfoldable pub number : ℕ → Optional ℕ
number = number_as word

unfoldable pub byte_number : Optional ℕ
byte_number = number_as byte 0

-- 3: "a written measure of 0 or 1"; 12: "a written measure above 4,095 .. after 3"
abbrev pub measure_tests : ℕ → List Test
measure_tests v = low_test 1 v ∷ record { fault = ltb max_measure v; refusal = TooLarge } ∷ []

-- "2 bytes each; left out means 1"
unfoldable pub measure : Optional ℕ
measure = record { default = 1; left_out = λ v. eqb v 1; written = tested word measure_tests }

-- the count before a row of parts; left out for none
unfoldable pub count_field : ℕ → Optional ℕ
count_field limit = record { default = 0; left_out = λ n. eqb n 0; written = count limit }

-- its bytes and its bit, whatever the limit: those of a byte that is left out for 0
abbrev pub count_bytes : ℕ → List ℕ
count_bytes = optional_bytes byte_number

abbrev pub count_flag : ℕ → ℕ
count_flag = flag byte_number

-- bits 0, 1, 2 of a map byte: "width, depth, shifts"
unfoldable pub measures : {S : Type 0} {n : ℕ} → (S → Size) → (Size → Fields S n) → Fields S (suc (suc (suc n)))
measures size rest =
    field (λ s. (size s).width) measure λ width.
    field (λ s. (size s).depth) measure λ depth.
    field (λ s. (size s).shifts) measure λ shifts.
    rest (record { width = width; depth = depth; shifts = shifts })

unfoldable pub size_fields : Fields Size 3
size_fields = measures (λ s. s) made

-- "Bit 3 of a piece's map, with no field, allows width and depth to be exchanged"
unfoldable pub may_turn : Optional Bool
may_turn = record { default = false; left_out = not; written = presence }

unfoldable pub item_fields : Fields Item 4
item_fields = measures (λ i. i.size) λ size. field (λ i. i.may_turn) may_turn λ turn. made (record { size = size; may_turn = turn })

-- "A piece is a map byte (bits 0, 1, 2: width, depth, shifts) and its standing fields": the item's record
unfoldable pub item : Format Item
item = with_map item_fields

-- "orders, 2 bytes each: u, v"
unfoldable pub precedence : Format Arc
precedence =
    converted (λ p. record { predecessor = p.0; successor = p.1 }) (λ a. (a.predecessor, a.successor)) (pair byte byte)

-- with n items, after `last`: 5: "a piece not on the sheet, or u = v in an order"; 6: "not above the order before"
abbrev pub precedence_tests : ℕ → Option Precedence → Arc → List Test
precedence_tests n last a =
    record { fault = not (names_items n a); refusal = BadItem }
    ∷ record { fault = not (rises last a); refusal = NotRising }
    ∷ []

-- no lag is above 0
unfoldable pub lags_zero : List ℕ → Bool
lags_zero [] = true
lags_zero (g ∷ gs) = eqb g 0 && lags_zero gs

-- the lags of m orders: "one byte for each order in its sequence, 0 to 255"
unfoldable pub lag_row : ℕ → Format (List ℕ)
lag_row = row byte (λ (_ : Unit {0}) _. []) (λ p _. p) tt

-- "left out, they are all 0"; 11: "a lag field in which no lag is above 0, an empty field included"
unfoldable pub lag_list : ℕ → Optional (List ℕ)
lag_list m = record {
  default = replicate m 0;
  left_out = λ gs. eqb (length gs) m && lags_zero gs;
  written = tested (lag_row m) λ gs. record { fault = lags_zero gs; refusal = NoLag } ∷ [];
}
