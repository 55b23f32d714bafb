-- Where the parts of a sheet are, by its bytes alone (document 01, "Sheet bytes"). Bytes past the end count as 0.
use Rattle.std.specs.Prelude.{◌+◌, ◌*◌}
use Rattle.prelude.specs.Names.{ℕ, zero, suc, Bool, cond, List, get_or}
use Rattle.formats.specs.Fields.{is_set}
use Rattle.parts.specs.Precedences.{Arc}

-- how many bytes a two-byte field has, by its bit
abbrev pub two_if : Bool → ℕ
two_if bit = cond bit 2 0

-- how many bytes the measures have whose bits 0, 1, 2 are set
unfoldable pub measures_length : ℕ → ℕ
measures_length map = two_if (is_set map 1) + two_if (is_set map 2) + two_if (is_set map 4)

module _ (s : List ℕ) where
  abbrev pub byte_at : ℕ → ℕ
  byte_at p = get_or s p 0

  -- "low byte first"
  abbrev pub word_at : ℕ → ℕ
  word_at p = byte_at p + 256 * byte_at (p + 1)

  -- "2 bytes each: u, v"
  abbrev pub precedence_at : ℕ → Arc
  precedence_at p = record { predecessor = byte_at p; successor = byte_at (p + 1) }

  -- whether a bit of the first map byte is set, by its weight
  abbrev pub has : ℕ → Bool
  has weight = is_set (byte_at 0) weight

  -- the place after the hall's measures: of the count of pieces, where there is one
  unfoldable pub container_end : ℕ
  container_end = 1 + measures_length (byte_at 0)

  -- how many pieces are on the sheet
  unfoldable pub items_on : ℕ
  items_on = cond (has 8) (byte_at container_end) 0

  -- the place after the piece at p: "a map byte and its standing fields"
  unfoldable pub after_item : ℕ → ℕ
  after_item p = p + 1 + measures_length (byte_at p)

  -- the place of piece k: "after the piece before"
  unfoldable pub item_place : ℕ → ℕ
  item_place zero = container_end + 1
  item_place (suc k) = after_item (item_place k)

  -- the place after the pieces: of the count of orders, where there is one
  unfoldable pub items_end : ℕ
  items_end = cond (has 8) (item_place items_on) container_end

  -- how many orders are on the sheet
  unfoldable pub precedences_on : ℕ
  precedences_on = cond (has 16) (byte_at items_end) 0

  -- the place of order i
  unfoldable pub precedence_place : ℕ → ℕ
  precedence_place i = items_end + 1 + 2 * i

  -- the place after the orders: of the yard number, where it is written
  unfoldable pub precedences_end : ℕ
  precedences_end = cond (has 16) (precedence_place precedences_on) items_end

  -- the place after the yard number: of the lags, where they are written; "The field follows the yard number"
  unfoldable pub yard_number_end : ℕ
  yard_number_end = precedences_end + two_if (has 32)

  -- the place after the lags, "one byte for each order": of the walkway, where it is written
  unfoldable pub lags_end : ℕ
  lags_end = yard_number_end + cond (has 64) precedences_on 0

  -- the place after the last field: the walkway is "one byte .. last on the sheet"
  unfoldable pub sheet_end : ℕ
  sheet_end = lags_end + cond (has 128) 1 0
