-- Instances and packings from bytes at fixed places. The low byte is first; a byte past the end counts as 0.
use Rattle.std.specs.Prelude.{◌∷◌, ◌++◌, ◌+◌, ◌*◌}
use Rattle.prelude.specs.Names.{List, [], ℕ, zero, suc, not, eqb}
use Rattle.parts.specs.declared.Size.{Size}
use Rattle.parts.specs.declared.Item.{Item}
use Rattle.parts.specs.declared.Precedence.{Precedence}
use Rattle.sheet.specs.Places.{byte_at, word_at}
use Rattle.sheet.specs.Sheet.{max_items, max_precedences}
use Rattle.instance.specs.declared.Instance.{Instance}
use Rattle.instance.specs.declared.Packing.{Packing}
use Rattle.instance.specs.declared.Position.{Position}

-- f 0, f 1, up to n entries
unfoldable pub tabulate : {A : Type 0} → ℕ → (ℕ → A) → List A
tabulate zero f = []
tabulate (suc n) f = tabulate n f ++ (f n ∷ [])

-- four and eight bytes
abbrev pub four_at : List ℕ → ℕ → ℕ
four_at s at = word_at s at + 65536 * word_at s (at + 2)

unfoldable pub number_at : List ℕ → ℕ → ℕ
number_at s at = four_at s at + 4294967296 * four_at s (at + 4)

abbrev pub size_in : List ℕ → ℕ → Size
size_in s at = record { width = word_at s at; depth = word_at s (at + 2); shifts = word_at s (at + 4) }

-- the measures, and at a place of its own a byte other than 0 where the item may be turned
abbrev pub item_in : List ℕ → ℕ → ℕ → Item
item_in s at turn = record { size = size_in s at; may_turn = not (eqb (byte_at s turn) 0) }

abbrev pub position_in : List ℕ → ℕ → Position
position_in s at = record { x = word_at s at; y = word_at s (at + 2); t = word_at s (at + 4) }

-- three bytes: predecessor, successor, lag
abbrev pub precedence_in : List ℕ → ℕ → Precedence
precedence_in s at = record { predecessor = byte_at s at; successor = byte_at s (at + 1); lag = byte_at s (at + 2) }

-- 365 bytes: the container, the count of items in 8 bytes, the measures of ten items, the count of precedences in 8 bytes, ninety of them, the yard
-- number, the walkway, and for each of ten items whether it may be turned
unfoldable pub instance_in : List ℕ → Instance
instance_in s = record {
  container = size_in s 0;
  item_count = number_at s 6;
  items = tabulate max_items (λ i. item_in s (14 + 6 * i) (355 + i));
  precedence_count = number_at s 74;
  precedences = tabulate max_precedences (λ i. precedence_in s (82 + 3 * i));
  yard_number = word_at s 352;
  walkway = byte_at s 354;
}

-- 70 bytes: x, y, t of each of ten items, and their marks
unfoldable pub packing_at : List ℕ → ℕ → Packing
packing_at s at = record {
  positions = tabulate max_items (λ u. position_in s (at + 6 * u));
  marks = tabulate max_items (λ u. byte_at s (at + 60 + u));
}
