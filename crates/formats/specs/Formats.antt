-- Formats: how a value is read, its bytes, and which values may be written. What each keeps is proved in proofs/Laws.
use Rattle.std.specs.Prelude.{◌+◌, ◌*◌, ◌/◌, ◌%◌, ◌&&◌, ◌||◌, ◌∷◌, ◌++◌}
use Rattle.prelude.specs.Names.{ℕ, zero, suc, Bool, true, false, not, List, [], eqb, ltb, length}
use Rattle.refusal.specs.declared.Refusal.{Refusal}
use Rattle.refusal.specs.declared.Refusal.TheVariants.{BadCount}
use Rattle.formats.specs.Reading.{Reading, done, due, at_place, refuse_if, end, ◌>>=◌}

pub record Format (A : Type 0) : Type 0 where
  pub reading : Reading A
  pub bytes : A → List ℕ
  pub valid : A → Bool

unfoldable pub byte : Format ℕ
byte = record { reading = due done; bytes = λ b. b ∷ []; valid = λ b. true }

-- "Two-byte fields have the low byte first"
unfoldable pub word : Format ℕ
word = record {
  reading = due (λ low. due (λ high. done (low + 256 * high)));
  bytes = λ v. v % 256 ∷ v / 256 ∷ [];
  valid = λ v. true;
}

-- no bytes: what is there is true
unfoldable pub presence : Format Bool
presence = record { reading = done true; bytes = λ b. []; valid = λ b. b }

-- one after the other
unfoldable pub pair : {A B : Type 0} → Format A → Format B → Format (A × B)
pair f g = record {
  reading = f.reading >>= λ x. g.reading >>= λ y. done (x, y);
  bytes = λ z. f.bytes z.0 ++ g.bytes z.1;
  valid = λ z. f.valid z.0 && g.valid z.1;
}

-- the same bytes for a value of another type
unfoldable pub converted : {A B : Type 0} → (A → B) → (B → A) → Format A → Format B
converted to from f = record {
  reading = f.reading >>= λ x. done (to x);
  bytes = λ y. f.bytes (from y);
  valid = λ y. f.valid (from y);
}

-- what is tested of a value: whether it is a fault, and the number that it gets
pub record Test : Type 0 where
  pub fault : Bool
  pub refusal : ℕ → Refusal

unfoldable pub testing : {A : Type 0} → List Test → ℕ → A → Reading A
testing [] place x = done x
testing (t ∷ ts) place x = refuse_if t.fault (t.refusal place) (testing ts place x)

unfoldable pub passes_all : List Test → Bool
passes_all [] = true
passes_all (t ∷ ts) = not t.fault && passes_all ts

-- "judged once all its bytes are read", at the place of the first; "at one place the lower number"
unfoldable pub tested : {A : Type 0} → Format A → (A → List Test) → Format A
tested f tests = record {
  reading = at_place λ place. f.reading >>= λ x. testing (tests x) place x;
  bytes = f.bytes;
  valid = λ x. f.valid x && passes_all (tests x);
}

-- a key first, by which the rest is read and which the rest shows
unfoldable pub keyed : {K A : Type 0} → Format K → (A → K) → (K → Format A) → Format A
keyed f key rest = record {
  reading = f.reading >>= λ k. (rest k).reading;
  bytes = λ x. f.bytes (key x) ++ (rest (key x)).bytes x;
  valid = λ x. f.valid (key x) && (rest (key x)).valid x;
}

-- x 0, x 1, .. up to n of them
abbrev pub up_to : {A : Type 0} → ℕ → (ℕ → A) → List A
up_to zero x = []
up_to (suc n) x = x 0 ∷ up_to n (λ k. x (suc k))

-- the bytes of parts, one after the other
unfoldable pub row_bytes : {A : Type 0} → (A → List ℕ) → List A → List ℕ
row_bytes bytes [] = []
row_bytes bytes (x ∷ xs) = bytes x ++ row_bytes bytes xs

-- n parts, one after the other; how each is tested may depend on those before it
module _ {P A : Type 0} (part : Format A) (tests : P → A → List Test) (next : P → A → P) where
  unfoldable pub row_reading : P → ℕ → Reading (List A)
  row_reading p zero = done []
  row_reading p (suc n) = (tested part (tests p)).reading >>= λ x. row_reading (next p x) n >>= λ xs. done (x ∷ xs)

  unfoldable pub row_valid : P → ℕ → List A → Bool
  row_valid p zero [] = true
  row_valid p (suc n) [] = false
  row_valid p zero (x ∷ xs) = false
  row_valid p (suc n) (x ∷ xs) = (tested part (tests p)).valid x && row_valid (next p x) n xs

  unfoldable pub row : P → ℕ → Format (List A)
  row p n = record { reading = row_reading p n; bytes = row_bytes part.bytes; valid = row_valid p n }

-- 4: "count 0, over .."
abbrev pub count_tests : ℕ → ℕ → List Test
count_tests limit n = record { fault = eqb n 0 || ltb limit n; refusal = BadCount } ∷ []

unfoldable pub count : ℕ → Format ℕ
count limit = tested byte (count_tests limit)

-- "count (1 to 10), then .."
unfoldable pub counted : {P A : Type 0} → Format A → (P → A → List Test) → (P → A → P) → P → ℕ → Format (List A)
counted part tests next p limit = keyed (count limit) length (row part tests next p)

-- the bytes end after the last field
unfoldable pub whole : {A : Type 0} → Format A → Reading A
whole f = f.reading >>= λ x. end (done x)
