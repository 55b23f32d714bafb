-- Rows of bits and sets of items as numbers: what and, or, xor, shifts and powers of 2 make of them. The laws hold of numbers of any length.
use Rattle.std.specs.Prelude.{◌&&◌, ◌||◌, ◌⊎◌, ◌≢◌, ◌≡◌, ◌+◌, ◌-◌, ◌*◌, ◌/◌, ◌%◌, ◌^◌, ◌≤◌, ◌<◌}
use Rattle.prelude.specs.Names.{Bool, cond, true, false, not, and-true, inl, inr, refl, sym, ◌∙◌, ℕ, zero, suc}
use Rattle.prelude.specs.Names.{min, max, ℕ_discrete, dec_lt, arith, bit_and, bit_or, bit_xor, or_step, count_trailing_zeros, eqb}
use Rattle.prelude.specs.Names.{eqb-suc-zero, pow_mono, eq-eqb, ne_eqb}
use mathlib.Core.Bool.{and_self}
use lib.Bits.{differ, and_step, xor_step, and_shr, or_shr, xor_shr, and_le_l, and_le_r, shifted_half, shifted_even}
use lib.Dec.{eqb-zero-suc, eqb-suc-suc}
use lib.Pow.{pow_pos, shl_lt, shl_exact, shl-shr, shr-shr}
use Rattle.model.proofs.Below.{and_both, clash}
use Rattle.model.specs.Domains.{odd}
use Rattle.model.proofs.Slots.{lt_or_gt}
use Rattle.domains.specs.Bits.{bit_at, Gives, lowest_bit, TakenOut}

-- A test passes or fails
pub true_or_false : (b : Bool) → (b ≡ true) ⊎ (b ≡ false)
true_or_false true = inl refl
true_or_false false = inr refl

-- And, or, exclusive or: what they do to the lowest digit, they do to every bit
abbrev digit : ℕ → Bool
digit x = eqb (x % 2) 1

mod_two : (m : ℕ) → (m % 2 ≡ 0) ⊎ (m % 2 ≡ 1)
mod_two m = elim (ℕ_discrete (m % 2) 0) [ yes e ↦ inl e | no d ↦ inr (omega arith) ]

bit_by : (op step : ℕ → ℕ → ℕ) (f : Bool → Bool → Bool) → ((a b : ℕ) → op a b ≡ op (a / 2) (b / 2) * 2 + step (a % 2) (b % 2))
    → ((a b k : ℕ) → op a b / 2 ^ k ≡ op (a / 2 ^ k) (b / 2 ^ k))
    → digit (step 0 0) ≡ f false false → digit (step 0 1) ≡ f false true → digit (step 1 0) ≡ f true false → digit (step 1 1) ≡ f true true
    → (a b i : ℕ) → bit_at (op a b) i ≡ f (bit_at a i) (bit_at b i)
unfolding bit_at
bit_by op step f steps shifts h00 h01 h10 h11 a b i =
    let x = a / 2 ^ i in
    let y = b / 2 ^ i in
    let e : op a b / 2 ^ i % 2 ≡ step (x % 2) (y % 2) % 2 = rw (shifts a b i) (omega (arith, steps x y)) in
    elim (mod_two x) [ inl p ↦ elim (mod_two y) [ inl q ↦ cc | inr q ↦ cc ] | inr p ↦ elim (mod_two y) [ inl q ↦ cc | inr q ↦ cc ] ]

pub bit-and : (a b i : ℕ) → bit_at (bit_and a b) i ≡ (bit_at a i && bit_at b i)
bit-and = bit_by bit_and min ◌&&◌ and_step and_shr refl refl refl refl

pub bit-or : (a b i : ℕ) → bit_at (bit_or a b) i ≡ (bit_at a i || bit_at b i)
bit-or = bit_by bit_or max ◌||◌ or_step or_shr refl refl refl refl

abbrev unlike : Bool → Bool → Bool
unlike a true = not a
unlike a false = a

bit-xor : (a b i : ℕ) → bit_at (bit_xor a b) i ≡ unlike (bit_at a i) (bit_at b i)
bit-xor = bit_by bit_xor differ unlike xor_step xor_shr refl refl refl refl

-- Shifts
pub bit_shr : (m s i : ℕ) → bit_at (m / 2 ^ s) i ≡ bit_at m (s + i)
unfolding bit_at
bit_shr m s i = cc (shr-shr m s i)

next_bit : (m i : ℕ) → bit_at (m / 2) i ≡ bit_at m (suc i)
next_bit m i = let e : 1 + i ≡ suc i = omega arith in rw e at (bit_shr m 1 i)

low_bit : (m : ℕ) → bit_at m 0 ≡ digit m
unfolding bit_at
low_bit m = let h : m / 1 ≡ m = omega arith in rw h

pub bit-zero : (i : ℕ) → bit_at 0 i ≡ false
bit-zero zero = low_bit 0
bit-zero (suc i) = sym (next_bit 0 i) ∙ bit-zero i

-- A bit of a number of n bits stands below n
pub bit-above : (n m i : ℕ) → m < 2 ^ n → n ≤ i → bit_at m i ≡ false
bit-above zero m i h l = let z : m ≡ 0 = omega arith in rw z (bit-zero i)
bit-above (suc n) m zero h l = absurd (omega arith)
bit-above (suc n) m (suc i) h l = sym (next_bit m i) ∙ bit-above n (m / 2) i (omega arith) (omega arith)

pub bit_below : (n m i : ℕ) → m < 2 ^ n → bit_at m i ≡ true → i < n
bit_below n m i h e = elim (dec_lt i n) [ yes l ↦ l | no l ↦ absurd (clash e (bit-above n m i h (omega arith))) ]

-- All ones
pub bit_ones : (n i : ℕ) → i < n → bit_at (2 ^ n - 1) i ≡ true
bit_ones zero i l = absurd (omega arith)
bit_ones (suc n) zero l = let h : (2 ^ suc n - 1) % 2 ≡ 1 = omega (arith, pow_pos n) in cc (low_bit (2 ^ suc n - 1))
bit_ones (suc n) (suc i) l =
    let h : (2 ^ suc n - 1) / 2 ≡ 2 ^ n - 1 = omega (arith, pow_pos n) in cc (next_bit (2 ^ suc n - 1) i, bit_ones n i (omega arith))

pub bit_not : (n m i : ℕ) → i < n → bit_at (bit_xor m (2 ^ n - 1)) i ≡ not (bit_at m i)
bit_not n m i h = cc (bit-xor m (2 ^ n - 1) i, bit_ones n i h)

-- Moved up by s
moved_up : (m s i : ℕ) → bit_at (m * 2 ^ s) (s + i) ≡ bit_at m i
moved_up m s i = cc (bit_shr (m * 2 ^ s) s i, shl-shr m s)

moved_over : (m s i : ℕ) → i < s → bit_at (m * 2 ^ s) i ≡ false
moved_over m zero i h = absurd (omega arith)
moved_over m (suc s) zero h = cc (low_bit (m * 2 ^ suc s), shifted_even m s)
moved_over m (suc s) (suc i) h = cc (next_bit (m * 2 ^ suc s) i, shifted_half m s, moved_over m s i (omega arith))

-- a bit alone
pub bit_power : (i j : ℕ) → bit_at (2 ^ i) j ≡ eqb j i
bit_power zero zero = low_bit 1
bit_power zero (suc j) = cc (next_bit 1 j, bit-zero j, eqb-suc-zero j)
bit_power (suc i) zero = let h : 2 ^ suc i % 2 ≡ 0 = omega arith in cc (low_bit (2 ^ suc i), eqb-zero-suc i)
bit_power (suc i) (suc j) = let h : 2 ^ suc i / 2 ≡ 2 ^ i = omega arith in cc (next_bit (2 ^ suc i) j, bit_power i j, eqb-suc-suc j i)

-- a set of items as the relation y of a row
pub bit_moved : (m y x v : ℕ) → m < 2 ^ 10 → v < 10 → bit_at (m * 2 ^ (y * 10)) (x * 10 + v) ≡ (eqb x y && bit_at m v)
bit_moved m y x v h hv = elim (ℕ_discrete x y) [
  | yes e ↦ rw (e, eq-eqb y y refl) (moved_up m (y * 10) v)
  | no d ↦ rw (ne_eqb x y d) (elim (lt_or_gt x y d) [
    | inl l ↦ moved_over m (y * 10) (x * 10 + v) (omega arith)
    | inr l ↦
        let e : x * 10 + v ≡ y * 10 + ((x - y) * 10 + v) = omega arith in
        rw e (moved_up m (y * 10) ((x - y) * 10 + v) ∙ bit-above 10 m ((x - y) * 10 + v) h (omega arith))
  ])
]

-- .. by the code's `<<`
pub bit_shl : (m y x v : ℕ) → m < 2 ^ 10 → y < 3 → v < 10 → bit_at (m * 2 ^ (y * 10) % 2 ^ 32) (x * 10 + v) ≡ (eqb x y && bit_at m v)
bit_shl m y x v h hy hv = rw (shl_exact 10 (y * 10) 32 h (omega arith)) (bit_moved m y x v h hv)

pub shl_small : (m y : ℕ) → m < 2 ^ 10 → y < 3 → m * 2 ^ (y * 10) % 2 ^ 32 < 2 ^ 30
shl_small m y h hy =
    omega (arith, shl_lt 10 (y * 10) h, pow_mono {i = 10 + y * 10} {j = 30} (omega arith), shl_exact 10 (y * 10) 32 h (omega arith))

-- all bits of the relation y: ITEMS, BEFORE and AFTER
pub bit_mask : (y x v : ℕ) → v < 10 → bit_at (1023 * 2 ^ (y * 10)) (x * 10 + v) ≡ eqb x y
bit_mask y x v h = cc (bit_moved 1023 y x v (omega arith) h, bit_ones 10 v h, and-true (eqb x y))

-- Sizes (`or_lt`, `xor_lt` of lib.Bits and `pow-lt`, `shr_lt` of lib.Pow are the others)
pub and_small : (n a b : ℕ) → a < 2 ^ n → bit_and a b < 2 ^ n
and_small n a b h = omega (arith, and_le_l a b)

pub and_small-right : (n a b : ℕ) → b < 2 ^ n → bit_and a b < 2 ^ n
and_small-right n a b h = omega (arith, and_le_r a b)

-- A number other than 0 has a bit: the lowest
lowest_from : (d n m : ℕ) → n ≤ d → m < 2 ^ n → m ≢ 0 → (count_trailing_zeros d m < n) × (bit_at m (count_trailing_zeros d m) ≡ true)
unfolding count_trailing_zeros
lowest_from d zero m l h ne = absurd (omega arith)
lowest_from zero (suc n) m l h ne = absurd (omega arith)
lowest_from (suc d) (suc n) m l h ne = elim (mod_two m) [
  | inl e ↦ let (p, b) = lowest_from d n (m / 2) (omega arith) (omega arith) (omega arith) in
      rw e (omega arith, cc (next_bit m (count_trailing_zeros d (m / 2))))
  | inr e ↦ rw e (omega arith, cc (low_bit m))
]

pub lowest_in : (n m : ℕ) → n ≤ 32 → m < 2 ^ n → m ≢ 0 → (lowest_bit m < n) × (bit_at m (lowest_bit m) ≡ true)
unfolding lowest_bit
lowest_in n m l h ne = lowest_from 32 n m l h ne

pub has-bit : (n m : ℕ) → n ≤ 32 → m < 2 ^ n → m ≢ 0 → (i : ℕ) × (i < n) × (bit_at m i ≡ true)
has-bit n m l h ne = let p = lowest_in n m l h ne in (lowest_bit m, p.0, p.1)

-- The lowest bit is taken out
lowest_out : (d m : ℕ) → m < 2 ^ d → m ≢ 0 → (j : ℕ) → (bit_at m j && bit_at (m - 1) j) ≡ (bit_at m j && not (eqb j (count_trailing_zeros d m)))
unfolding count_trailing_zeros
lowest_out zero m h ne j = absurd (omega arith)
lowest_out (suc d) m h ne zero = elim (mod_two m) [
  | inl e ↦ cc (low_bit m)
  | inr e ↦ let f : (m - 1) % 2 ≡ 0 = omega arith in rw e (cc (low_bit m, low_bit (m - 1)))
]
lowest_out (suc d) m h ne (suc j) = elim (mod_two m) [
  | inl e ↦ let z : (m - 1) / 2 ≡ m / 2 - 1 = omega arith in
      rw (e, ← next_bit m j, ← next_bit (m - 1) j, z, eqb-suc-suc) (lowest_out d (m / 2) (omega arith) (omega arith) j)
  | inr e ↦ let z : (m - 1) / 2 ≡ m / 2 = omega arith in
      rw (e, ← next_bit m j, ← next_bit (m - 1) j, z, eqb-suc-zero) (and_self (bit_at (m / 2) j) ∙ sym (and-true (bit_at (m / 2) j)))
]

pub taken_out : (m : ℕ) → m < 2 ^ 32 → m ≢ 0 → TakenOut m (lowest_bit m) (bit_and m (m - 1))
unfolding lowest_bit
taken_out m h ne = record { less = omega (arith, and_le_r m (m - 1)); is = λ j. bit-and m (m - 1) j ∙ lowest_out 32 m h ne j }

-- what is left without the bit at i
module _ {m i r : ℕ} (t : TakenOut m i r) where
  pub taken-rest : (j : ℕ) → j ≢ i → bit_at r j ≡ bit_at m j
  taken-rest j d = cc (t.is j, ne_eqb j i d, and-true (bit_at m j))

  pub taken_in : (j : ℕ) → bit_at r j ≡ true → (bit_at m j ≡ true) × (j ≢ i)
  taken_in j e =
      let (p, q) = and_both (bit_at m j) (not (eqb j i)) (sym (t.is j) ∙ e) in (p, λ z. clash q (cc (eq-eqb j i z)))

-- A set of n bits given by its bits, read
pub gives_in : {n m : ℕ} {f : ℕ → Bool} → Gives n m f → (i : ℕ) → bit_at m i ≡ true → (i < n) × (f i ≡ true)
gives_in {n} {m} g i e = let h = bit_below n m i g.small e in (h, sym (g.is i h) ∙ e)

pub gives_both : {n m : ℕ} (f g : ℕ → Bool) → Gives n m (λ i. f i && g i) → (i : ℕ) → bit_at m i ≡ true → (i < n) × (f i ≡ true) × (g i ≡ true)
gives_both f g s i e = let (h, p) = gives_in s i e in let (x, y) = and_both (f i) (g i) p in (h, x, y)

-- the relation 0 of a row (the others compute)
pub bit-first : (m v : ℕ) → bit_at m (0 * 10 + v) ≡ bit_at m v
bit-first m v = let e : 0 * 10 + v ≡ v = omega arith in rw e refl

-- the items of a number, and of a row's relation
pub gives_part : (m s : ℕ) → Gives 10 (bit_and (m / 2 ^ s) 1023) (λ v. bit_at m (s + v))
gives_part m s = record { small = and_small-right 10 (m / 2 ^ s) 1023 (omega arith); is = λ v h. simp (bit-and, bit_shr, bit_ones 10 v h, and-true) }

pub gives_first : (m : ℕ) → Gives 10 (bit_and m 1023) (λ v. bit_at m (0 * 10 + v))
gives_first m = record { small = and_small-right 10 m 1023 (omega arith); is = λ v h. simp (bit-and, bit-first, bit_ones 10 v h, and-true) }

-- A bit's part of a domain as the code computes it
pub weigh : (x c : ℕ) → cond (odd x) c 0 ≡ x % 2 * c
weigh x c = elim (mod_two x) [ inl e ↦ rw e (omega arith) | inr e ↦ rw e (omega arith) ]
