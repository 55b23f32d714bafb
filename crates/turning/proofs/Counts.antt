-- How many choices there are, and the digits of a choice.
use Rattle.std.specs.Prelude.{◌&&◌, ◌≡◌, ◌+◌, ◌-◌, ◌*◌, ◌%◌, ◌^◌, ◌≤◌, ◌<◌}
use Rattle.prelude.specs.Names.{Bool, true, false, cond, List, refl, ◌∙◌, ℕ, zero, suc, arith}
use Rattle.prelude.specs.Names.{eqb, get_or, take, length, length-take, get_or-take}
use Rattle.prelude.specs.Names.{le_trans, pow_mono, lt-ltb, le-ltb, add-one}
use Rattle.model.specs.Domains.{odd}
use Rattle.model.specs.Turning.{digits_from, marks_of, choice_count, last_choice}
use Rattle.parts.specs.Sizes.{no_item}
use native.Mathlib.Nat.{pow-suc}
use Rattle.parts.specs.declared.Item.{Item}
use Rattle.instance.specs.declared.Instance.{Instance}
use Rattle.instance.specs.Meaning.{problem_of}
use Rattle.turning.specs.Turned.{may_turn_of, may_turn_in, turnable_of, count_with, mark_of, digit_of, digits_after}

-- at most doubled by each item
pub count_power : (f : ℕ → Bool) (k u : ℕ) → choice_count f u k ≤ 2 ^ k
count_power f zero u = omega arith
count_power f (suc k) u = go (f u) (count_power f k (suc u))
  where
    go : (b : Bool) → choice_count f (suc u) k ≤ 2 ^ k → cond b (2 * choice_count f (suc u) k) (choice_count f (suc u) k) ≤ 2 ^ suc k
    go true h = omega (arith, pow-suc 2 k)
    go false h = omega (arith, pow-suc 2 k)

pub count_512 : (f : ℕ → Bool) (k u : ℕ) → k ≤ 9 → choice_count f u k ≤ 512
count_512 f k u h = le_trans (count_power f k u) (pow_mono h)

pub count_1024 : (f : ℕ → Bool) (k u : ℕ) → k ≤ 10 → choice_count f u k ≤ 1024
count_1024 f k u h = le_trans (count_power f k u) (pow_mono h)

pub count_some : (f : ℕ → Bool) (k u : ℕ) → 1 ≤ choice_count f u k
count_some f zero u = omega arith
count_some f (suc k) u = go (f u) (count_some f k (suc u))
  where
    go : (b : Bool) → 1 ≤ choice_count f (suc u) k → 1 ≤ cond b (2 * choice_count f (suc u) k) (choice_count f (suc u) k)
    go true h = omega arith
    go false h = h

-- an item of the count, and past it
pub may_turn-at : (n : ℕ) (items : List Item) (u : ℕ) → u < n → may_turn_of n items u ≡ (get_or items u no_item).may_turn
may_turn-at n items u h = rw (lt-ltb u n h)

-- the same of an item that is read from those of the count
pub may_turn-taken : (n : ℕ) (items : List Item) (u : ℕ) {b : Bool} → u < length (take n items) → (get_or (take n items) u no_item).may_turn ≡ b
    → may_turn_of n items u ≡ b
may_turn-taken n items u l e =
    let h : u < n = omega (arith, length-take n items) in
    may_turn-at n items u h ∙ (rw (get_or-take n items u no_item h) at e)

pub may_not-past : (n : ℕ) (items : List Item) (u : ℕ) → n ≤ u → may_turn_of n items u ≡ false
may_not-past n items u h = rw (le-ltb u n h)

pub last_choice-is : (i : Instance) → last_choice (turnable_of i) ≡ choice_count (may_turn_in i) 0 i.item_count - 1
unfolding last_choice turnable_of problem_of
last_choice-is i = refl

-- the count with an item more at the end
count_last : (f : ℕ → Bool) (u k : ℕ) → choice_count f u (suc k) ≡ count_with (f (u + k)) (choice_count f u k)
count_last f u zero = let e : u + 0 ≡ u = omega arith in rw e
count_last f u (suc k) = let e : u + suc k ≡ suc u + k = omega arith in rw e (by (f u) (f (suc u + k)) _ (count_last f (suc u) k))
  where
    by : (a b : Bool) (y : ℕ) {x : ℕ} → x ≡ count_with b y → count_with a x ≡ count_with b (count_with a y)
    by true true y e = omega arith
    by true false y e = omega arith
    by false b y e = e

pub count_more : (f : ℕ → Bool) (k : ℕ) {b : Bool} → f k ≡ b → choice_count f 0 (k + 1) ≡ count_with b (choice_count f 0 k)
count_more f k e = let z : 0 + k ≡ k = omega arith in rw (add-one, ← e) (rw z at (count_last f 0 k))

-- the digit of an item that may turn is its mark
odd_mark : (m : ℕ) → m < 2 → m ≡ mark_of (eqb m 1)
odd_mark zero h = refl
odd_mark (suc zero) h = refl
odd_mark (suc (suc m)) h = absurd (omega arith)

pub digit_mark : (f : ℕ → Bool) (c u : ℕ) {b : Bool} → f u ≡ b → digit_of b (digits_from f c u) ≡ mark_of (marks_of f c u)
unfolding marks_of
digit_mark f c u {b} e = rw e (go b)
  where
    go : (b : Bool) → digit_of b (digits_from f c u) ≡ mark_of (b && odd (digits_from f c u))
    go true = odd_mark (digits_from f c u % 2) (omega arith)
    go false = refl

pub digits-next : (f : ℕ → Bool) (c u : ℕ) {b : Bool} → f u ≡ b → digits_after b (digits_from f c u) ≡ digits_from f c (u + 1)
digits-next f c u {b} e = rw (add-one, e)

-- an item that may not turn is not marked
pub unmarked : (f : ℕ → Bool) (c u : ℕ) → f u ≡ false → marks_of f c u ≡ false
unfolding marks_of
unmarked f c u e = rw e
