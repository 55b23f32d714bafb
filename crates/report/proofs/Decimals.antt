-- Laws of decimal numbers: the recursion that the code follows, and how many digits there are.
use Rattle.std.specs.Prelude.{◌≡◌, ◌⊎◌, ◌∷◌, ◌++◌, ◌+◌, ◌/◌, ◌%◌, ◌^◌, ◌≤◌, ◌<◌}
use Rattle.prelude.specs.Names.{sym, ◌∙◌, inl, inr, ⊎_elim, [], ℕ, zero, suc, arith, div-lt_self}
use Rattle.prelude.specs.Names.{dec_lt, lt-ltb, le-ltb, length, length-append}
use native.Mathlib.Nat.{pow-suc, div-lt_iff_lt-mul}
use Rattle.report.specs.Decimal.{digits, decimal}

digits_one : (f n : ℕ) → n < 10 → digits (suc f) n ≡ (48 + n) ∷ []
unfolding digits
digits_one f n l = rw (lt-ltb _ _ l)

digits_more : (f n : ℕ) → 10 ≤ n → digits (suc f) n ≡ digits f (n / 10) ++ ((48 + n % 10) ∷ [])
unfolding digits
digits_more f n l = rw (le-ltb _ _ l)

-- one digit, or more
one_or_more : (n : ℕ) → (n < 10) ⊎ (10 ≤ n)
one_or_more n = dec (dec_lt n 10)
  where
    dec : Dec (n < 10) → (n < 10) ⊎ (10 ≤ n)
    dec (yes l) = inl l
    dec (no l) = inr (omega arith)

tenth_less : (n : ℕ) → 10 ≤ n → n / 10 < n
tenth_less n l = div-lt_self (omega arith) (omega arith)

-- more places than enough change nothing
digits-enough : (f g n : ℕ) → n ≤ f → n ≤ g → digits (suc f) n ≡ digits (suc g) n
digits-enough zero g n hf hg = digits_one zero n (omega arith) ∙ sym (digits_one g n (omega arith))
digits-enough (suc f) zero n hf hg = digits_one (suc f) n (omega arith) ∙ sym (digits_one zero n (omega arith))
digits-enough (suc f) (suc g) n hf hg =
    ⊎_elim (λ l. digits_one (suc f) n l ∙ sym (digits_one (suc g) n l))
    (λ l.
    let s = tenth_less n l in
    let e : digits (suc f) (n / 10) ≡ digits (suc g) (n / 10) = digits-enough f g (n / 10) (omega arith) (omega arith) in
    digits_more (suc f) n l ∙ rw e (sym (digits_more (suc g) n l)))
    (one_or_more n)

pub decimal_one : (n : ℕ) → n < 10 → decimal n ≡ (48 + n) ∷ []
unfolding decimal
decimal_one n l = digits_one n n l

pub decimal-more : (n : ℕ) → 10 ≤ n → decimal n ≡ decimal (n / 10) ++ ((48 + n % 10) ∷ [])
unfolding decimal
decimal-more zero l = absurd (omega arith)
decimal-more (suc n) l =
    let s = tenth_less (suc n) l in
    digits_more (suc n) (suc n) l ∙ rw (digits-enough n (suc n / 10) (suc n / 10) (omega arith) (omega arith))

-- a number below ten to the k has at most k digits
pub decimal_short : (k n : ℕ) → n < 10 ^ suc k → length (decimal n) ≤ suc k
decimal_short zero n h = rw (decimal_one n h) (omega arith)
decimal_short (suc k) n h =
    ⊎_elim (λ l. rw (decimal_one n l) (omega arith))
    (λ l.
    let ten : 0 < 10 = omega arith in
    let s : n / 10 < 10 ^ suc k = (div-lt_iff_lt-mul ten).1 (rw (pow-suc 10 (suc k)) at h) in
    rw (decimal-more n l, length-append) (omega (arith, decimal_short k (n / 10) s)))
    (one_or_more n)
