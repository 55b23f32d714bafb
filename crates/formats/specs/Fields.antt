-- "A map byte comes first, then only the fields whose bit stands, by rising bit."
use Rattle.std.specs.Prelude.{◌+◌, ◌*◌, ◌/◌, ◌%◌, ◌&&◌, ◌||◌, ◌∷◌, ◌++◌}
use Rattle.prelude.specs.Names.{ℕ, zero, suc, Bool, true, false, cond, List, [], eqb, leb}
use Rattle.refusal.specs.declared.Refusal.TheVariants.{UnknownBit}
use Rattle.formats.specs.Reading.{Reading, done, ◌>>=◌}
use Rattle.formats.specs.Formats.{Format, Test, byte, tested, keyed}

-- a field that may be left out, and what that means
pub record Optional (A : Type 0) : Type 0 where
  pub default : A
  pub left_out : A → Bool
  pub written : Format A

module _ {A : Type 0} (o : Optional A) where
  -- by whether its bit is set
  abbrev pub optional_reading : Bool → Reading A
  optional_reading true = o.written.reading
  optional_reading false = done o.default

  unfoldable pub optional_bytes : A → List ℕ
  optional_bytes x = cond (o.left_out x) [] (o.written.bytes x)

  unfoldable pub optional_valid : A → Bool
  optional_valid x = o.left_out x || o.written.valid x

  -- the field's bit
  unfoldable pub flag : A → ℕ
  flag x = cond (o.left_out x) 0 1

-- n fields of an S, by rising bit: where each is found in an S, the field, and the fields after it; last the S that they make
pub data Fields (S : Type 0) : ℕ → Type 1 where
  made : S → Fields S zero
  field : {A : Type 0} {n : ℕ} → (S → A) → Optional A → (A → Fields S n) → Fields S (suc n)

-- whether the bit of that weight is set in a map byte
abbrev pub is_set : ℕ → ℕ → Bool
is_set map weight = eqb (map / weight % 2) 1

-- how many maps there are of n bits
abbrev pub maps : ℕ → ℕ
maps zero = 1
maps (suc n) = 2 * maps n

module _ {S : Type 0} where
  -- the weight is that of the first field's bit
  unfoldable pub fields_reading : {n : ℕ} → Fields S n → ℕ → ℕ → Reading S
  fields_reading (made s) map weight = done s
  fields_reading (field get o rest) map weight = optional_reading o (is_set map weight) >>= λ x. fields_reading (rest x) map (weight * 2)

  unfoldable pub fields_bytes : {n : ℕ} → Fields S n → S → List ℕ
  fields_bytes (made _) s = []
  fields_bytes (field get o rest) s = optional_bytes o (get s) ++ fields_bytes (rest (get s)) s

  unfoldable pub fields_valid : {n : ℕ} → Fields S n → S → Bool
  fields_valid (made _) s = true
  fields_valid (field get o rest) s = optional_valid o (get s) && fields_valid (rest (get s)) s

  unfoldable pub flags : {n : ℕ} → Fields S n → S → ℕ
  flags (made _) s = 0
  flags (field get o rest) s = flag o (get s) + 2 * flags (rest (get s)) s

  unfoldable pub fields : {n : ℕ} → Fields S n → ℕ → Format S
  fields f map = record { reading = fields_reading f map 1; bytes = fields_bytes f; valid = λ s. eqb (flags f s) map && fields_valid f s }

-- 2: "a bit stands that has no meaning"
abbrev pub map_tests : ℕ → ℕ → List Test
map_tests n map = record { fault = leb (maps n) map; refusal = UnknownBit } ∷ []

unfoldable pub map_byte : ℕ → Format ℕ
map_byte n = tested byte (map_tests n)

unfoldable pub with_map : {S : Type 0} {n : ℕ} → Fields S n → Format S
with_map {n = n} f = keyed (map_byte n) (flags f) (fields f)
