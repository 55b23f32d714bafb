-- Counted rows: a count and a row; and the first entries of a filled array.
use Rattle.std.specs.Prelude.{◌≡◌, ◌||◌, ◌∷◌, ◌≤◌, ◌<◌, ◌+◌, ◌-◌}
use Rattle.prelude.specs.Names.{refl, ap, Bool, true, false, true≢false, or-true, List, [], ℕ, arith, eqb, ltb, length}
use Rattle.prelude.specs.Names.{take, take_at, replicate, length-append, length-take, length-replicate, lt-ltb}
use lib.ListN.{replicate-append-replicate}
use Rattle.formats.specs.Reading.{got, run, ◌>>=◌}
use Rattle.formats.specs.Formats.{Format, Test, byte, testing, tested, keyed, row_reading, row, count, counted}
use Rattle.formats.specs.Fields.{optional_reading}
use Rattle.formats.proofs.Run.{after, cond-got, never_both, run-then}
use Rattle.parts.specs.Parts.{count_field}
use Rattle.sheet.specs.Sheet.{list_of}
use Rattle.lists.specs.Lists.{padded, Padded}

-- a counted row is a count, left out for 0, and the row
pub list_run : {P A : Type 0} (part : Format A) (tests : P → A → List Test) (next : P → A → P) (p : P) (limit : ℕ) (present : Bool) (at : ℕ) (rest : List ℕ)
    → run (optional_reading (list_of part tests next p limit) present) at rest
    ≡ after (run (optional_reading (count_field limit) present) at rest) λ n at₁ rest₁. run (row_reading part tests next p n) at₁ rest₁
unfolding list_of counted keyed row count_field row_reading run
list_run part tests next p limit false at rest = refl
list_run part tests next p limit true at rest = simp run-then

-- a count that was read is within its limit
pub count-within : (limit : ℕ) (present : Bool) (at : ℕ) (rest : List ℕ) {n at' : ℕ} {rest' : List ℕ}
    → run (optional_reading (count_field limit) present) at rest ≡ got n at' rest' → n ≤ limit
unfolding count_field count tested testing byte run ◌>>=◌
count-within limit false at rest {n} h = let e : ◌≡◌ {A = ℕ} 0 n = cc in omega arith
count-within limit true at [] h = absurd (never_both h)
count-within limit true at (x ∷ rest) {n} h =
    let (c, g) = cond-got (eqb x 0 || ltb limit x) _ _ h in
    let e : x ≡ n = cc in
    let no : ¬ (limit < x) = λ l. true≢false (simp (lt-ltb limit x l, or-true) at c) in
    omega arith

-- a padded list has its entries first
module _ {A : Type 0} (room n : ℕ) (blank : A) (xs : List A) (e : length xs ≡ n) where
  pub padded-first : take n (padded room blank xs) ≡ xs
  padded-first = take_at xs _ n e

  pub padded-filled : n ≤ room → Padded room blank n (padded room blank xs)
  padded-filled l = record { few = l; same = rw padded-first }

-- blanks are padded by blanks
pub all_blank : {A : Type 0} (room n : ℕ) (blank : A) → n ≤ room → padded room blank (replicate n blank) ≡ replicate room blank
all_blank room n blank l = let e : n + (room - n) ≡ room = omega arith in rw (length-replicate, replicate-append-replicate, e)

module _ {A : Type 0} (room n : ℕ) (blank : A) (xs : List A) (φ : Padded room blank n xs) where
  pub padded-count : length (take n xs) ≡ n
  padded-count = omega (arith, length-take n xs, simp (length-append, length-replicate) at (ap length φ.same))
