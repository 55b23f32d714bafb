-- The bytes and the bits of the parts: the equations that the writers' proofs cite.
use Rattle.std.specs.Prelude.{◌≡◌, ◌∷◌, ◌++◌, ◌+◌, ◌*◌, ◌/◌, ◌%◌, ◌<◌, ◌≤◌}
use Rattle.std.specs.Int.{from_bool, w16, to_le_bytes}
use Rattle.prelude.specs.Names.{refl, sym, ℕ, Bool, true, false, not, cond, List, [], append-nil, arith, eqb, zero, suc, get_or, length, length-append, ◌∙◌}
use Rattle.formats.specs.Formats.{byte, word, pair, converted, tested, keyed, row_bytes}
use Rattle.formats.specs.Fields.{flag, flags, optional_bytes, fields_bytes, fields, map_byte, with_map}
use Rattle.std.proofs.lemmas.Nat.{le_bytes_2}
use Rattle.parts.specs.declared.Size.{Size}
use Rattle.parts.specs.declared.Item.{Item}
use Rattle.parts.specs.Precedences.{Arc}
use Rattle.parts.specs.Parts.{number, byte_number, measure, measures, size_fields, may_turn, item_fields, item, precedence}
use Rattle.formats.proofs.Stores.{sets_append}
use Rattle.std.proofs.lemmas.List.Edits.{sets-eq}
use Rattle.parts.proofs.Laws.{may_turn-bytes}

-- a word's bytes are the library's
pub word-bytes : (v : ℕ) → v < 65536 → to_le_bytes w16 v ≡ v % 256 ∷ v / 256 ∷ []
word-bytes v h = le_bytes_2 (v % 256 ∷ v / 256 ∷ []) v refl bytes (omega arith)
  where
    bytes : (i : ℕ) → get_or (v % 256 ∷ v / 256 ∷ []) i 0 < 256
    bytes zero = omega arith
    bytes (suc zero) = omega arith
    bytes (suc (suc i)) = omega arith

-- the bit of a number that is written
pub from_not : (b : Bool) → from_bool (not b) ≡ cond b 0 1
from_not true = refl
from_not false = refl

pub bit-most : (b : Bool) → from_bool b ≤ 1
bit-most true = omega arith
bit-most false = omega arith

pub number-flag : (default v : ℕ) → flag (number default) v ≡ from_bool (not (eqb v default))
unfolding flag number
number-flag default v = sym (from_not (eqb v default))

pub byte_number-flag : (v : ℕ) → flag byte_number v ≡ from_bool (not (eqb v 0))
unfolding flag byte_number
byte_number-flag v = sym (from_not (eqb v 0))

-- and its bytes, two or one
pub number-count : (default v : ℕ) → length (optional_bytes (number default) v) ≡ 2 * from_bool (not (eqb v default))
unfolding optional_bytes number tested word
number-count default v = elim (eqb v default) as (λ b. length {A = ℕ} (cond b [] (v % 256 ∷ v / 256 ∷ [])) ≡ 2 * from_bool (not b)) [ true ↦ refl | false ↦ refl ]

pub byte_number-count : (v : ℕ) → length (optional_bytes byte_number v) ≡ from_bool (not (eqb v 0))
unfolding optional_bytes byte_number tested byte
byte_number-count v = elim (eqb v 0) as (λ b. length {A = ℕ} (cond b [] (v ∷ [])) ≡ from_bool (not b)) [ true ↦ refl | false ↦ refl ]

module _ (s : Size) where
  pub size-bytes : fields_bytes size_fields s
      ≡ optional_bytes (number 1) s.width ++ (optional_bytes (number 1) s.depth ++ optional_bytes (number 1) s.shifts)
  unfolding size_fields measures measure number fields_bytes optional_bytes tested
  size-bytes = rw append-nil

  pub size-length : length (fields_bytes size_fields s)
      ≡ length (optional_bytes (number 1) s.width) + (length (optional_bytes (number 1) s.depth) + length (optional_bytes (number 1) s.shifts))
  size-length = rw size-bytes (simp length-append)

  -- a bit for each that is written, and two bytes
  pub size-flags : flags size_fields s ≡ from_bool (not (eqb s.width 1)) + 2 * from_bool (not (eqb s.depth 1)) + 4 * from_bool (not (eqb s.shifts 1))
  unfolding size_fields measures measure number flags flag
  size-flags = omega (arith, from_not (eqb s.width 1), from_not (eqb s.depth 1), from_not (eqb s.shifts 1))

  pub size-count : length (fields_bytes size_fields s)
      ≡ 2 * (from_bool (not (eqb s.width 1)) + from_bool (not (eqb s.depth 1)) + from_bool (not (eqb s.shifts 1)))
  size-count = size-length ∙ omega (arith, number-count 1 s.width, number-count 1 s.depth, number-count 1 s.shifts)

pub item-bytes : (i : Item) → item.bytes i ≡ flags item_fields i ∷ fields_bytes size_fields i.size
unfolding item item_fields size_fields measures with_map map_byte keyed tested byte fields fields_bytes
item-bytes i = rw may_turn-bytes

-- three bits for the measures, the fourth by whether it may be turned
turn_weight : (b : Bool) → cond (not b) 0 1 ≡ from_bool b
turn_weight true = refl
turn_weight false = refl

pub item-flags : (i : Item) → flags item_fields i ≡ flags size_fields i.size + 8 * from_bool i.may_turn
unfolding item_fields size_fields measures may_turn flags flag
item-flags i = omega (arith, turn_weight i.may_turn)

pub item-length : (i : Item) → length (item.bytes i) ≡ 1 + length (fields_bytes size_fields i.size)
item-length i = rw item-bytes (omega arith)

pub precedence-bytes : (a : Arc) → precedence.bytes a ≡ a.predecessor ∷ a.successor ∷ []
unfolding precedence converted pair byte
precedence-bytes a = refl

pub precedences-length : (l : List Arc) → length (row_bytes precedence.bytes l) ≡ 2 * length l
unfolding row_bytes precedence converted pair byte
precedences-length [] = refl
precedences-length (a ∷ l) = omega (arith, precedences-length l)

-- what the writers' proofs cite
pub ruleset writings = (
  sets-eq,
  sets_append,
  word-bytes,
  bit-most,
  size-bytes,
  size-length,
  size-flags,
  size-count,
  item-bytes,
  item-flags,
  item-length,
  precedence-bytes,
)
