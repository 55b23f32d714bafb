-- What the parts' readings give, by how many bytes are left: the equations that the readers' proofs cite.
use Rattle.std.specs.Prelude.{◌≡◌, ◌||◌, ◌∷◌, ◌+◌, ◌-◌, ◌*◌, ◌<◌, ◌≤◌, Option}
use Rattle.prelude.specs.Names.{refl, ◌∙◌, Bool, true, false, cond, not, List, [], ℕ, arith, eqb, leb, ltb, length, get_or}
use Rattle.prelude.specs.Names.{take, drop, replicate}
use Rattle.refusal.specs.declared.Refusal.TheVariants.{EndsEarly, UnknownBit, WrittenDefault, BadCount, BadItem, NotRising, TrailingBytes, NoLag, TooLarge}
use Rattle.formats.specs.Reading.{done, end, got, refused, run, read_as, ◌>>=◌}
use Rattle.formats.specs.Formats.{Format, Test, byte, word, presence, pair, converted, testing, tested, keyed, count, count_tests}
use Rattle.formats.specs.Fields.{optional_reading, is_set, fields_reading, fields, map_byte, with_map}
use Rattle.formats.proofs.Run.{after, after_after, cond_after, run-then, read_as_after, read_as-cond}
use Rattle.formats.proofs.Entries.{rest_of}
use Rattle.parts.specs.declared.Precedence.{Precedence}
use Rattle.parts.specs.Sizes.{max_measure}
use Rattle.parts.specs.Precedences.{Arc, unlagged, names_items, rises}
use Rattle.parts.specs.Parts.{measure_tests, number, byte_number, measure, count_field, measures, size_fields, may_turn, item_fields, item, precedence}
use Rattle.parts.specs.Parts.{precedence_tests, lags_zero, lag_row, lag_list}

-- a byte is read where one is there
pub byte-none : (at : ℕ) (rest : List ℕ) → length rest ≡ 0 → run byte.reading at rest ≡ refused (EndsEarly at)
unfolding byte run
byte-none at [] h = refl
byte-none at (x ∷ rest) h = absurd (omega arith)

pub byte-next : (at : ℕ) (rest : List ℕ) → 0 < length rest
    → run byte.reading at rest ≡ got (get_or rest 0 0) (at + 1) (take (length rest - 1) (drop 1 rest))
unfolding byte run
byte-next at [] h = absurd (omega arith)
byte-next at (x ∷ rest) h = rw rest_of

-- two are read where both are there
pub two-none : (at : ℕ) (rest : List ℕ) → length rest < 2 → run (pair byte byte).reading at rest ≡ refused (EndsEarly (at + length rest))
unfolding pair byte run ◌>>=◌
two-none at [] h = let e : at + 0 ≡ at = omega arith in rw e
two-none at (x ∷ []) h = refl
two-none at (x ∷ y ∷ rest) h = absurd (omega arith)

pub two-next : (at : ℕ) (rest : List ℕ) → 2 ≤ length rest
    → run (pair byte byte).reading at rest ≡ got (get_or rest 0 0, get_or rest 1 0) (at + 2) (take (length rest - 2) (drop 2 rest))
unfolding pair byte run ◌>>=◌
two-next at [] h = absurd (omega arith)
two-next at (x ∷ []) h = absurd (omega arith)
two-next at (x ∷ y ∷ rest) h = let e : at + 1 + 1 ≡ at + 2 = omega arith in rw (rest_of, e)

-- a word, low byte first: one byte after the other
pub word-run : (at : ℕ) (rest : List ℕ) → run word.reading at rest
    ≡ after (run byte.reading at rest) λ low at₁ rest₁. after (run byte.reading at₁ rest₁) λ high at₂ rest₂. got (low + 256 * high) at₂ rest₂
unfolding word byte run
word-run at [] = refl
word-run at (x ∷ []) = refl
word-run at (x ∷ y ∷ rest) = refl

-- a pair is read one after the other
pair-run : {A B : Type 0} (f : Format A) (g : Format B) (at : ℕ) (rest : List ℕ) → run (pair f g).reading at rest
    ≡ after (run f.reading at rest) λ x at₁ rest₁. after (run g.reading at₁ rest₁) λ y at₂ rest₂. got (x, y) at₂ rest₂
unfolding pair run
pair-run f g at rest = simp run-then

-- a word again: both bytes at once
pub word-two : (at : ℕ) (rest : List ℕ) → run word.reading at rest
    ≡ after (run (pair byte byte).reading at rest) λ p at₂ rest₂. got (p.0 + 256 * p.1) at₂ rest₂
word-two at rest = word-run at rest ∙ simp (pair-run, after_after)

-- a value and its tests
tested-run : {A : Type 0} (f : Format A) (tests : A → List Test) (at : ℕ) (rest : List ℕ) → run (tested f tests).reading at rest
    ≡ after (run f.reading at rest) λ x at₁ rest₁. run (testing (tests x) at x) at₁ rest₁
unfolding tested run
tested-run f tests at rest = run-then f.reading _ at rest

pub number-run : (default at : ℕ) (rest : List ℕ) → run (optional_reading (number default) true) at rest
    ≡ after (run word.reading at rest) λ v at₁ rest₁. cond (leb v default) (refused (WrittenDefault at)) (got v at₁ rest₁)
unfolding number testing run
number-run default at rest = tested-run word _ at rest

-- left out it is its default
pub number-left_out : (default at : ℕ) (rest : List ℕ) → run (optional_reading (number default) false) at rest ≡ got default at rest
unfolding number run
number-left_out default at rest = refl

pub byte_number-left_out : (at : ℕ) (rest : List ℕ) → run (optional_reading byte_number false) at rest ≡ got 0 at rest
unfolding byte_number run
byte_number-left_out at rest = refl

pub count-left_out : (limit at : ℕ) (rest : List ℕ) → run (optional_reading (count_field limit) false) at rest ≡ got 0 at rest
unfolding count_field run
count-left_out limit at rest = refl

pub byte_number-run : (at : ℕ) (rest : List ℕ) → run (optional_reading byte_number true) at rest
    ≡ after (run byte.reading at rest) λ v at₁ rest₁. cond (leb v 0) (refused (WrittenDefault at)) (got v at₁ rest₁)
unfolding byte_number testing run
byte_number-run at rest = tested-run byte _ at rest

-- a measure passes one test more
pub measure-run : (present : Bool) (at : ℕ) (rest : List ℕ) → run (optional_reading measure present) at rest
    ≡ after (run (optional_reading (number 1) present) at rest) λ v at₁ rest₁. cond (ltb max_measure v) (refused (TooLarge at)) (got v at₁ rest₁)
unfolding measure number testing run
measure-run true at rest = tested-run word measure_tests at rest ∙ rw tested-run (simp (after_after, cond_after))
measure-run false at rest = refl

pub count-run : (limit at : ℕ) (rest : List ℕ) → run (optional_reading (count_field limit) true) at rest
    ≡ after (run byte.reading at rest) λ n at₁ rest₁. cond (eqb n 0 || ltb limit n) (refused (BadCount at)) (got n at₁ rest₁)
unfolding count_field count testing run
count-run limit at rest = tested-run byte (count_tests limit) at rest

-- three measures in turn
pub size-run : (map at : ℕ) (rest : List ℕ) → run (fields_reading size_fields map 1) at rest
    ≡ after (run (optional_reading measure (is_set map 1)) at rest) λ w at₁ rest₁.
    after (run (optional_reading measure (is_set map 2)) at₁ rest₁) λ d at₂ rest₂.
    after (run (optional_reading measure (is_set map 4)) at₂ rest₂) λ t at₃ rest₃. got (record { width = w; depth = d; shifts = t }) at₃ rest₃
unfolding size_fields measures fields_reading run
size-run map at rest = simp run-then

-- no byte is read: the bit is the value
turn_run : (bit : Bool) (at : ℕ) (rest : List ℕ) → run (optional_reading may_turn bit) at rest ≡ got bit at rest
unfolding may_turn presence run
turn_run true at rest = refl
turn_run false at rest = refl

-- a map byte and three measures
pub item-run : (at : ℕ) (rest : List ℕ) → run item.reading at rest
    ≡ after (run byte.reading at rest) λ map at₁ rest₁. cond (leb 16 map) (refused (UnknownBit at))
    (after (run (fields_reading size_fields map 1) at₁ rest₁) λ s at₂ rest₂. got (record { size = s; may_turn = is_set map 8 }) at₂ rest₂)
unfolding item item_fields measures with_map map_byte keyed testing fields fields_reading size_fields run
item-run at rest = simp (run-then, tested-run, after_after, cond_after, turn_run)

-- a precedence: its two items at once
pub precedence-two : (n : ℕ) (last : Option Precedence) (at : ℕ) (rest : List ℕ)
    → read_as unlagged (run (tested precedence (precedence_tests n last)).reading at rest)
    ≡ after (run (pair byte byte).reading at rest) λ p at₂ rest₂.
    let a : Arc = record { predecessor = p.0; successor = p.1 } in
    cond (not (names_items n a)) (refused (BadItem at)) (cond (not (rises last a)) (refused (NotRising at)) (got (unlagged a) at₂ rest₂))
unfolding precedence converted testing run
precedence-two n last at rest = simp (tested-run, run-then, after_after, read_as_after, read_as-cond)

-- a precedence again: one item after the other
pub precedence-run : (n : ℕ) (last : Option Precedence) (at : ℕ) (rest : List ℕ)
    → read_as unlagged (run (tested precedence (precedence_tests n last)).reading at rest)
    ≡ after (run byte.reading at rest) λ u at₁ rest₁. after (run byte.reading at₁ rest₁) λ v at₂ rest₂.
    let a : Arc = record { predecessor = u; successor = v } in
    cond (not (names_items n a)) (refused (BadItem at)) (cond (not (rises last a)) (refused (NotRising at)) (got (unlagged a) at₂ rest₂))
precedence-run n last at rest = precedence-two n last at rest ∙ simp (pair-run, after_after)

-- the lags are tested once they are all read
pub lags-run : (m at : ℕ) (rest : List ℕ) → run (optional_reading (lag_list m) true) at rest
    ≡ after (run (lag_row m).reading at rest) λ gs at₁ rest₁. cond (lags_zero gs) (refused (NoLag at)) (got gs at₁ rest₁)
unfolding lag_list testing run
lags-run m at rest = tested-run (lag_row m) _ at rest

pub lags-left_out : (m at : ℕ) (rest : List ℕ) → run (optional_reading (lag_list m) false) at rest ≡ got (replicate m 0) at rest
unfolding lag_list run
lags-left_out m at rest = refl

-- the bytes end, or they do not
pub end-none : {A : Type 0} (x : A) (at : ℕ) (rest : List ℕ) → length rest ≡ 0 → run (end (done x)) at rest ≡ got x at []
unfolding run
end-none x at [] h = refl
end-none x at (b ∷ rest) h = absurd (omega arith)

pub end-more : {A : Type 0} (x : A) (at : ℕ) (rest : List ℕ) → 0 < length rest → run (end (done x)) at rest ≡ refused (TrailingBytes at)
unfolding run
end-more x at [] h = absurd (omega arith)
end-more x at (b ∷ rest) h = refl

-- what the readers' proofs cite
pub ruleset readings = (
  byte-none,
  byte-next,
  two-none,
  two-next,
  word-two,
  number-run,
  number-left_out,
  byte_number-run,
  byte_number-left_out,
  count-run,
  count-left_out,
  measure-run,
  size-run,
  item-run,
  precedence-two,
  end-none,
  end-more,
)
