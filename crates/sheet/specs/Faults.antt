-- The table of refusals for reading (document 01, and numbers 11 and 12 of document 02), on the bytes of a sheet: each line with its number, its place and its
-- condition. A line speaks of bytes that are there. It does not ask whether the bytes before are in order: which line is given is said by `FirstFault`.
use Rattle.std.specs.Prelude.{◌+◌, ◌≤◌, ◌<◌, ◌⊎◌, ◌≡◌}
use Rattle.prelude.specs.Names.{ℕ, suc, true, List, length}
use Rattle.refusal.specs.declared.Refusal.{Refusal}
use Rattle.refusal.specs.declared.Refusal.TheVariants.{EndsEarly, UnknownBit, WrittenDefault, BadCount, BadItem, NotRising, TrailingBytes, NoLag}
use Rattle.refusal.specs.declared.Refusal.TheVariants.{TooLarge}
use Rattle.formats.specs.Reading.{Before}
use Rattle.formats.specs.Fields.{is_set}
use Rattle.parts.specs.Sizes.{max_measure}
use Rattle.sheet.specs.Sheet.{max_items, max_precedences}
use Rattle.sheet.specs.Places.{two_if, byte_at, word_at, has, container_end, items_on, item_place, items_end, precedences_on, precedence_place}
use Rattle.sheet.specs.Places.{precedences_end, yard_number_end, lags_end, sheet_end}

module _ (s : List ℕ) where
  -- a measure is at p, of the hall or piece whose map byte is at m: width, depth or shifts
  pub data MeasureAt (m : ℕ) : ℕ → Type 0 where
    width : is_set (byte_at s m) 1 ≡ true → MeasureAt m (m + 1)
    depth : is_set (byte_at s m) 2 ≡ true → MeasureAt m (m + 1 + two_if (is_set (byte_at s m) 1))
    shifts : is_set (byte_at s m) 4 ≡ true → MeasureAt m (m + 1 + two_if (is_set (byte_at s m) 1) + two_if (is_set (byte_at s m) 2))

  -- the order at p names a piece that is not on the sheet, or one piece twice
  abbrev pub Misnames : ℕ → Type 0
  Misnames p = (items_on s ≤ byte_at s p) ⊎ ((items_on s ≤ byte_at s (p + 1)) ⊎ (byte_at s p ≡ byte_at s (p + 1)))

  -- the order at q is not above the one at p, by u, then v
  abbrev pub NotAbove : ℕ → ℕ → Type 0
  NotAbove p q = (byte_at s q < byte_at s p) ⊎ ((byte_at s q ≡ byte_at s p) × (byte_at s (q + 1) ≤ byte_at s (p + 1)))

  -- a count at p of 0 or over its limit
  abbrev pub Miscounts : ℕ → ℕ → Type 0
  Miscounts limit p = (byte_at s p ≡ 0) ⊎ (limit < byte_at s p)

  pub data Fault : Refusal → Type 0 where
    -- 1: "it ends before a byte that is due, the first map byte included"; place: "length of the sheet"
    ends_early : length s < sheet_end s → Fault (EndsEarly (length s))
    -- 2: "a bit stands that has no meaning"; place: "of the map byte". The sheet's has bits 0 to 7, so no byte meets its line; a piece's has 0 to 3
    unknown_bit : 0 < length s → 256 ≤ byte_at s 0 → Fault (UnknownBit 0)
    item_unknown_bit : (k : ℕ) → k < items_on s → item_place s k < length s → 16 ≤ byte_at s (item_place s k)
        → Fault (UnknownBit (item_place s k))
    -- 3: "a written measure of 0 or 1, or yard number 0"; "3 covers a written width of 0"; place: "of the field"
    container_measure : (p : ℕ) → MeasureAt 0 p → p + 2 ≤ length s → word_at s p ≤ 1 → Fault (WrittenDefault p)
    item_measure : (k : ℕ) → k < items_on s → (p : ℕ) → MeasureAt (item_place s k) p → p + 2 ≤ length s → word_at s p ≤ 1
        → Fault (WrittenDefault p)
    yard_number : has s 32 ≡ true → precedences_end s + 2 ≤ length s → word_at s (precedences_end s) ≡ 0
        → Fault (WrittenDefault (precedences_end s))
    walkway : has s 128 ≡ true → lags_end s < length s → byte_at s (lags_end s) ≡ 0 → Fault (WrittenDefault (lags_end s))
    -- 4: "count 0, over 10 pieces, over 90 orders"; place: "of the count"
    item_count : has s 8 ≡ true → container_end s < length s → Miscounts max_items (container_end s) → Fault (BadCount (container_end s))
    precedence_count : has s 16 ≡ true → items_end s < length s → Miscounts max_precedences (items_end s)
        → Fault (BadCount (items_end s))
    -- 5: "a piece not on the sheet, or u = v in an order"; place: "of the order"
    bad_item : (i : ℕ) → i < precedences_on s → precedence_place s i + 2 ≤ length s → Misnames (precedence_place s i)
        → Fault (BadItem (precedence_place s i))
    -- 6: "not above the order before"; place: "of the order"
    not_rising : (i : ℕ) → suc i < precedences_on s → precedence_place s (suc i) + 2 ≤ length s
        → NotAbove (precedence_place s i) (precedence_place s (suc i)) → Fault (NotRising (precedence_place s (suc i)))
    -- 7: "bytes after the last field"; place: "of the first such byte"
    trailing_bytes : sheet_end s < length s → Fault (TrailingBytes (sheet_end s))
    -- 11: "a lag field in which no lag is above 0, an empty field included, at its first byte's place, after its bytes are read"
    no_lag : has s 64 ≡ true → lags_end s ≤ length s → ((i : ℕ) → i < precedences_on s → byte_at s (yard_number_end s + i) ≡ 0)
        → Fault (NoLag (yard_number_end s))
    -- 12: "a written measure above 4,095, at the field's place"
    container_too_large : (p : ℕ) → MeasureAt 0 p → p + 2 ≤ length s → max_measure < word_at s p → Fault (TooLarge p)
    item_too_large : (k : ℕ) → k < items_on s → (p : ℕ) → MeasureAt (item_place s k) p → p + 2 ≤ length s → max_measure < word_at s p
        → Fault (TooLarge p)

  -- "Reading goes left to right and gives the first fault; at one place the lower number"; 11 of an empty field is "before anything that follows it"
  pub record FirstFault (e : Refusal) : Type 0 where
    pub fault : Fault e
    pub first : (f : Refusal) → Fault f → (f ≡ e) ⊎ Before e f
