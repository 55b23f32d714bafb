-- The sheet (document 01, "Sheet bytes"; from document 02: the lags, #101; the walkway, #105; which pieces may be turned, #106).
use Rattle.std.specs.Prelude.{None, Some}
use Rattle.prelude.specs.Names.{ℕ, List, [], eqb, length}
use Rattle.formats.specs.Formats.{Format, Test, counted}
use Rattle.formats.specs.Fields.{Optional, Fields, made, field, with_map}
use Rattle.parts.specs.declared.Size.{Size}
use Rattle.parts.specs.declared.Item.{Item}
use Rattle.parts.specs.Precedences.{Arc, unlagged}
use Rattle.parts.specs.Parts.{number, byte_number, measures, item, precedence, precedence_tests, lag_list}

-- what a sheet says
pub record Sheet : Type 0 where
  pub container : Size
  pub items : List Item
  pub precedences : List Arc
  pub yard_number : ℕ
  pub lags : List ℕ
  pub walkway : ℕ

-- "10 pieces, 90 orders and 270 turns are limits belonging to the sheet"
abbrev pub max_items : ℕ
max_items = 10

abbrev pub max_precedences : ℕ
max_precedences = 90

abbrev pub max_branches : ℕ
max_branches = 270

-- a counted row of parts; left out it is empty
unfoldable pub list_of : {P A : Type 0} → Format A → (P → A → List Test) → (P → A → P) → P → ℕ → Optional (List A)
list_of part tests next p limit = record {
  default = [];
  left_out = λ xs. eqb (length xs) 0;
  written = counted part tests next p limit;
}

-- "count (1 to 10), then pieces"; left out means "no pieces"
unfoldable pub item_list : Optional (List Item)
item_list = list_of item (λ (_ : Unit {0}) _. []) (λ p _. p) tt max_items

-- "count (1 to 90), then orders"; left out means "no orders". They are tested with n items, each after the one before
unfoldable pub precedence_list : ℕ → Optional (List Arc)
precedence_list n = list_of precedence (precedence_tests n) (λ _ a. Some (unlagged a)) None max_precedences

-- "yard number, 2 bytes"; left out means 0; 3: "yard number 0"
unfoldable pub yard_number : Optional ℕ
yard_number = number 0

-- the walkway: "one byte, 1 to 255, last on the sheet; left out means 0"; "3 covers a written width of 0"
unfoldable pub walkway : Optional ℕ
walkway = byte_number

-- the fields by rising bit: 0, 1, 2 the hall's measures; 3 pieces; 4 orders; 5 the yard number; 6 the lags, one for each order; 7 the walkway
unfoldable pub sheet_fields : Fields Sheet 8
sheet_fields =
    measures (λ s. s.container) λ container.
    field (λ s. s.items) item_list λ items.
    field (λ s. s.precedences) (precedence_list (length items)) λ precedences.
    field (λ s. s.yard_number) yard_number λ yard_number.
    field (λ s. s.lags) (lag_list (length precedences)) λ lags.
    field (λ s. s.walkway) walkway λ walkway.
    made (record { container = container; items = items; precedences = precedences; yard_number = yard_number; lags = lags; walkway = walkway })

-- "A map byte comes first, then only the fields whose bit stands"
unfoldable pub sheet : Format Sheet
sheet = with_map sheet_fields

-- "The longest sheet is 352 bytes"
abbrev pub longest_sheet : ℕ
longest_sheet = 352
