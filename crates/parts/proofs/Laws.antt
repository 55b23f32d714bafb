-- The parts of a sheet have their laws; what may be written of each, and how many bytes it has at most.
use Rattle.std.specs.Prelude.{◌≡◌, ◌&&◌, ◌||◌, ◌∷◌, ◌≤◌, Option}
use Rattle.prelude.specs.Names.{refl, sym, ◌∙◌, Bool, true, false, not, cond, and-true, and-false, not-not, List, []}
use Rattle.prelude.specs.Names.{ℕ, zero, suc, arith, dec_le, ℕ_discrete, eqb, eqb-suc-zero, leb, ltb, length, length-append}
use Rattle.prelude.specs.Names.{replicate, length-replicate, eqb-true, eq-eqb, ne_eqb, leb-false, le-leb, lt-leb, lt-ltb, le-ltb, not-true}
use lib.Dec.{eqb-suc-suc}
use Rattle.formats.specs.Formats.{Format, byte, word, presence, pair, converted, tested, passes_all, keyed, row_bytes, row_valid, row}
use Rattle.formats.specs.Fields.{optional_bytes, optional_valid, fields_bytes, fields_valid, fields, map_byte, with_map}
use Rattle.formats.proofs.Laws.{Lawful, both_true, byte_lawful, word_lawful, presence_lawful, pair_lawful, converted_lawful, tested_lawful}
use Rattle.formats.proofs.Laws.{row_lawful}
use Rattle.formats.proofs.Maps.{OptionalLaws, FieldsLaws, with_map_lawful, with_map-valid}
use Rattle.parts.specs.declared.Item.{Item}
use Rattle.parts.specs.declared.Precedence.{Precedence}
use Rattle.parts.specs.Sizes.{in_range, size_in_range}
use Rattle.parts.specs.Precedences.{Arc, names_items, rises}
use Rattle.parts.specs.Parts.{number_as, number, byte_number, measure, measures, may_turn, item_fields, item, precedence}
use Rattle.parts.specs.Parts.{precedence_tests, lags_zero, lag_row, lag_list}

-- a number in the bytes of f
number_as_laws : {f : Format ℕ} → Lawful f → (default : ℕ) → OptionalLaws (number_as f default)
unfolding tested passes_all
number_as_laws {f} φ default = record {
  lawful = tested_lawful φ _;
  out = eq-eqb default default refl;
  only = λ v h. sym (eqb-true v default h);
  apart = λ v h.
      let k : (not (leb v default) && true) ≡ true = (both_true (f.valid v) _ h).1 in
      ne_eqb v default (λ q. omega (arith, leb-false v default (not-true _ (both_true _ true k).0)));
}

pub number_laws : (default : ℕ) → OptionalLaws (number default)
unfolding number
number_laws = number_as_laws word_lawful

pub byte_number_laws : OptionalLaws byte_number
unfolding byte_number
byte_number_laws = number_as_laws byte_lawful 0

pub measure_laws : OptionalLaws measure
unfolding measure number tested passes_all word
measure_laws = let φ = number_laws 1 in record {
  lawful = tested_lawful word_lawful _;
  out = φ.out;
  only = φ.only;
  apart = λ v h. φ.apart v (rw (both_true (not (leb v 1)) _ h).0);
}

may_turn_laws : OptionalLaws may_turn
unfolding may_turn presence
may_turn_laws = record { lawful = presence_lawful; out = refl; only = λ b h. sym (not-true b h); apart = λ b h. rw h }

pub item_fields_laws : FieldsLaws item_fields
unfolding item_fields measures
item_fields_laws = search (measure_laws, may_turn_laws) depth 16

pub item_lawful : Lawful item
unfolding item item_fields measures
item_lawful = with_map_lawful item_fields item_fields_laws (λ i. refl)

pub precedence_lawful : Lawful precedence
unfolding precedence
precedence_lawful = converted_lawful (pair_lawful byte_lawful byte_lawful) _ _ (λ a. refl) (λ p. refl)

-- a number may be written from its default on
from-default : (default v : ℕ) → (eqb v default || (not (leb v default) && true)) ≡ leb default v
from-default default v = elim (dec_le default v) [
  | yes l ↦ elim (ℕ_discrete v default) [
    | yes q ↦ simp (eq-eqb v default q, le-leb default v l)
    | no n ↦ simp (ne_eqb v default n, lt-leb v default (omega arith), le-leb default v l)
  ]
  | no k ↦ simp (ne_eqb v default (omega arith), le-leb v default (omega arith), lt-leb default v (omega arith))
]

pub number-valid : (default v : ℕ) → optional_valid (number default) v ≡ leb default v
unfolding optional_valid number tested passes_all word
number-valid = from-default

pub byte_number-valid : (v : ℕ) → optional_valid byte_number v ≡ leb 0 v
unfolding optional_valid byte_number tested passes_all byte
byte_number-valid = from-default 0

-- not above is at most
pub not-ltb : (a b : ℕ) → not (ltb a b) ≡ leb b a
not-ltb a b = elim (dec_le b a)
    [ yes l ↦ rw (le-ltb a b l, le-leb b a l) | no k ↦ rw (lt-ltb a b (omega arith), lt-leb b a (omega arith)) ]

-- a measure from 1 to the greatest
pub measure-valid : (v : ℕ) → optional_valid measure v ≡ in_range v
unfolding optional_valid measure number tested passes_all word in_range
measure-valid v = elim (ℕ_discrete v 1) [
  | yes q ↦ rw q
  | no n ↦ let p : not (leb v 1) ≡ leb 1 v = simp (ne_eqb v 1 n, and-true) at (number-valid 1 v) in simp (ne_eqb v 1 n, not-ltb, and-true, p)
]

-- whether an item may be turned can always be written
may_turn-valid : (b : Bool) → optional_valid may_turn b ≡ true
unfolding optional_valid may_turn presence
may_turn-valid true = refl
may_turn-valid false = refl

pub item-valid : (i : Item) → item.valid i ≡ size_in_range i.size
unfolding item item_fields measures fields_valid size_in_range
item-valid i = with_map-valid item_fields i ∙ simp (measure-valid, may_turn-valid, and-true)

-- a precedence is allowed where it passes its tests
pub precedence-valid : (n : ℕ) (last : Option Precedence) (a : Arc)
    → (tested precedence (precedence_tests n last)).valid a ≡ (names_items n a && rises last a)
unfolding precedence tested passes_all converted pair byte
precedence-valid n last a = simp (not-not, and-true)

-- what is written is there whole or not at all
or_none : (left_out : Bool) (xs : List ℕ) → length (cond left_out [] xs) ≤ length xs
or_none true xs = omega arith
or_none false xs = omega arith

-- two bytes or none; one byte or none
pub number-most : (default v : ℕ) → length (optional_bytes (number default) v) ≤ 2
unfolding optional_bytes number tested word
number-most default v = or_none (eqb v default) _

pub byte_number-most : (v : ℕ) → length (optional_bytes byte_number v) ≤ 1
unfolding optional_bytes byte_number tested byte
byte_number-most v = or_none (eqb v 0) _

pub measure-most : (v : ℕ) → length (optional_bytes measure v) ≤ 2
unfolding optional_bytes measure number tested
measure-most = number-most 1

-- in no byte
pub may_turn-bytes : (b : Bool) → optional_bytes may_turn b ≡ []
unfolding optional_bytes may_turn presence
may_turn-bytes true = refl
may_turn-bytes false = refl

-- a map byte and three measures
pub item-most : (i : Item) → length (item.bytes i) ≤ 7
unfolding item item_fields measures with_map map_byte keyed tested byte fields fields_bytes
item-most i =
    simp (length-append, may_turn-bytes) (omega (arith, measure-most i.size.width, measure-most i.size.depth, measure-most i.size.shifts))

-- so many lags that are all 0 are the lags that are left out
zeros : (m : ℕ) (gs : List ℕ) → length gs ≡ m → lags_zero gs ≡ true → replicate m 0 ≡ gs
unfolding lags_zero
zeros zero [] e h = refl
zeros (suc m) [] e h = absurd (omega arith)
zeros zero (g ∷ gs) e h = absurd (omega arith)
zeros (suc m) (g ∷ gs) e h =
    let (a, b) = both_true (eqb g 0) (lags_zero gs) h in
    let p = eqb-true g 0 a in
    let q = zeros m gs (omega arith) b in
    cc

pub zeros_zero : (m : ℕ) → lags_zero (replicate m 0) ≡ true
unfolding lags_zero
zeros_zero zero = refl
zeros_zero (suc m) = zeros_zero m

pub lag_laws : (m : ℕ) → OptionalLaws (lag_list m)
unfolding lag_list lag_row tested passes_all
lag_laws m = record {
  lawful = tested_lawful (row_lawful _ _ _ byte_lawful tt m) _;
  out = rw (eq-eqb _ m (length-replicate {A = ℕ} m 0)) (zeros_zero m);
  only = λ gs h. let (a, b) = both_true (eqb (length gs) m) (lags_zero gs) h in zeros m gs (eqb-true _ _ a) b;
  apart = λ gs h.
      let k : (not (lags_zero gs) && true) ≡ true = (both_true ((lag_row m).valid gs) _ h).1 in
      rw (not-true (lags_zero gs) (both_true _ true k).0) (and-false (eqb (length gs) m));
}

-- a row of lags may be written where there are so many
row_counts : (m : ℕ) (gs : List ℕ) → (lag_row m).valid gs ≡ eqb (length gs) m
unfolding lag_row row row_valid tested passes_all byte
row_counts zero [] = refl
row_counts (suc m) [] = sym (ne_eqb 0 (suc m) (omega arith))
row_counts zero (g ∷ gs) = rw eqb-suc-zero
row_counts (suc m) (g ∷ gs) = row_counts m gs ∙ rw eqb-suc-suc

-- the field is written or left out, whatever the lags
pub lag-valid : (m : ℕ) (gs : List ℕ) → optional_valid (lag_list m) gs ≡ eqb (length gs) m
unfolding optional_valid lag_list tested passes_all
lag-valid m gs = rw row_counts (either (eqb (length gs) m) (lags_zero gs))
  where
    either : (a b : Bool) → ((a && b) || (a && (not b && true))) ≡ a
    either true true = refl
    either true false = refl
    either false b = refl

-- the bytes of the lags are the lags
pub lag_row-bytes : (gs : List ℕ) → row_bytes byte.bytes gs ≡ gs
unfolding row_bytes byte
lag_row-bytes [] = refl
lag_row-bytes (g ∷ gs) = rw (lag_row-bytes gs)

pub lag-bytes : (m : ℕ) (gs : List ℕ) → optional_bytes (lag_list m) gs ≡ cond (eqb (length gs) m && lags_zero gs) [] gs
unfolding optional_bytes lag_list tested lag_row row
lag-bytes m gs = rw lag_row-bytes

-- one byte each, or none
pub lags-most : (m : ℕ) (gs : List ℕ) → length (optional_bytes (lag_list m) gs) ≤ length gs
lags-most m gs = rw lag-bytes (or_none (eqb (length gs) m && lags_zero gs) gs)
