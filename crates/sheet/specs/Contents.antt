-- What a sheet says, by its bytes and the places of its parts alone. This is a second account of the format, beside `Sheet`: that
-- a sheet without a fault reads as it is a theorem (proofs/Faults).
use Rattle.std.specs.Prelude.{◌+◌}
use Rattle.prelude.specs.Names.{ℕ, cond, List}
use Rattle.formats.specs.Fields.{is_set}
use Rattle.formats.specs.Formats.{up_to}
use Rattle.parts.specs.declared.Size.{Size}
use Rattle.parts.specs.declared.Item.{Item}
use Rattle.sheet.specs.Places.{two_if, byte_at, word_at, precedence_at, has, items_on, item_place, precedences_on, precedence_place}
use Rattle.sheet.specs.Places.{precedences_end, yard_number_end, lags_end}
use Rattle.sheet.specs.Sheet.{Sheet}

module _ (s : List ℕ) where
  -- the measures of the hall or piece whose map byte is at m; "left out means 1"
  abbrev pub size_at : ℕ → Size
  size_at m = record {
    width = cond (is_set (byte_at s m) 1) (word_at s (m + 1)) 1;
    depth = cond (is_set (byte_at s m) 2) (word_at s (m + 1 + two_if (is_set (byte_at s m) 1))) 1;
    shifts = cond (is_set (byte_at s m) 4) (word_at s (m + 1 + two_if (is_set (byte_at s m) 1) + two_if (is_set (byte_at s m) 2))) 1;
  }

  -- "Bit 3 of a piece's map, with no field, allows width and depth to be exchanged"
  abbrev pub item_at : ℕ → Item
  item_at m = record { size = size_at m; may_turn = is_set (byte_at s m) 8 }

  abbrev pub items_at : List Item
  items_at = up_to (items_on s) (λ k. item_at (item_place s k))

  -- the lags: "one byte for each order in its sequence .. left out, they are all 0"
  abbrev pub lags_at : List ℕ
  lags_at = up_to (precedences_on s) (λ i. cond (has s 64) (byte_at s (yard_number_end s + i)) 0)

  -- the yard number and the walkway: "left out means 0"
  abbrev pub sheet_at : Sheet
  sheet_at = record {
    container = size_at 0;
    items = items_at;
    precedences = up_to (precedences_on s) (λ i. precedence_at s (precedence_place s i));
    yard_number = cond (has s 32) (word_at s (precedences_end s)) 0;
    lags = lags_at;
    walkway = cond (has s 128) (byte_at s (lags_end s)) 0;
  }
