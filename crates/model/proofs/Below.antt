-- Laws of tests: what a test over all numbers below n says, and that tests are monotone in their parts. Assumes nothing.
use Rattle.std.specs.Prelude.{◌&&◌, ◌||◌, ◌↔◌, ◌⊎◌, ◌≡◌, ◌≤◌, ◌<◌, ◌∷◌}
use Rattle.prelude.specs.Names.{Bool, true, false, not, false≢true, Bool-discrete, inl, inr, ⊎_elim, refl, sym, ◌∙◌, ap, ℕ}
use Rattle.prelude.specs.Names.{zero, suc, eq-or-lt_of_le, le_of_suc-le-suc, dec_le, arith, ltb, ltb-true, lt-ltb, not-true}
use Rattle.prelude.specs.Names.{not-false, List, [], Mem, mem-head, mem-tail, mem-not_nil, mem-cases_cons}
use Rattle.model.specs.Below.{some_below, all_below, most_below, all_in, first_below}

-- where the first test passes, so does the second
abbrev pub Implies : Bool → Bool → Type 0
Implies a b = a ≡ true → b ≡ true

pub implies_refl : {b : Bool} → Implies b b
implies_refl e = e

pub implies_false : {b : Bool} → Implies false b
implies_false e = absurd (false≢true e)

pub clash : {b : Bool} → b ≡ true → b ≡ false → ⊥
clash p q = false≢true (sym q ∙ p)

-- a test that does not fail passes
pub stays : (b : Bool) → (b ≡ false → ⊥) → b ≡ true
stays true f = refl
stays false f = absurd (f refl)

-- what implies a test that fails
pub fails : {b c : Bool} → Implies b c → c ≡ false → b ≡ false
fails {b = true} f e = absurd (clash (f refl) e)
fails {b = false} f e = refl

-- a test says no where what it tests does not hold
pub refuted : (b : Bool) → (b ≡ true → ⊥) → b ≡ false
refuted b h = fails {c = false} (λ e. absurd (h e)) refl

pub test_false : {A : Type 0} (b : Bool) → (b ≡ true) ↔ A → (A → ⊥) → b ≡ false
test_false b iff h = refuted b (λ e. h (iff.0 e))

pub and_intro : {a b : Bool} → a ≡ true → b ≡ true → (a && b) ≡ true
and_intro e f = rw (e, f)

pub and_both : (a b : Bool) → (a && b) ≡ true → (a ≡ true) × (b ≡ true)
and_both true b e = (refl, e)
and_both false b e = absurd (false≢true e)

pub and_three : (a b c : Bool) → (a && b && c) ≡ true → (a ≡ true) × (b ≡ true) × (c ≡ true)
and_three a b c e = let (d, z) = and_both (a && b) c e in let (x, y) = and_both a b d in (x, y, z)

pub or_case : (a b : Bool) → (a || b) ≡ true → (a ≡ true) ⊎ (b ≡ true)
or_case true b e = inl refl
or_case false b e = inr e

pub or_elim : {A : Type 0} (a b : Bool) → (a ≡ true → A) → (b ≡ true → A) → (a || b) ≡ true → A
or_elim a b f g e = ⊎_elim f g (or_case a b e)

pub or_neither : (a b : Bool) → (a || b) ≡ false → (a ≡ false) × (b ≡ false)
or_neither true b e = absurd (clash refl e)
or_neither false b e = (refl, e)

pub neither_or : {a b : Bool} → a ≡ false → b ≡ false → (a || b) ≡ false
neither_or e f = rw (e, f)

pub or_left : {a : Bool} (b : Bool) → a ≡ true → (a || b) ≡ true
or_left b e = rw e

pub or_right : (a : Bool) {b : Bool} → b ≡ true → (a || b) ≡ true
or_right true e = refl
or_right false e = e

pub and_first : (a b : Bool) → Implies (a && b) a
and_first a b e = (and_both a b e).0

pub and_mono : {a b c d : Bool} → Implies a c → Implies b d → Implies (a && b) (c && d)
and_mono {a} {b} f g e = let q = and_both a b e in and_intro (f q.0) (g q.1)

pub or_mono : {a b c d : Bool} → Implies a c → Implies b d → Implies (a || b) (c || d)
or_mono {a} {b} {c} {d} f g e = ⊎_elim (λ q. or_left d (f q)) (λ q. or_right c (g q)) (or_case a b e)

pub not_mono : {a b : Bool} → Implies b a → Implies (not a) (not b)
not_mono {a} f e = ap not (fails f (not-true a e))

pub ltb_mono : (c : ℕ) {x y : ℕ} → x ≤ y → Implies (ltb c x) (ltb c y)
ltb_mono c {x} {y} h e = let q = ltb-true c x e in lt-ltb c y (omega arith)

-- the tests over numbers and lists, by their first case
or_is : (b c : Bool) → elim b as (λ _. Bool) [ true ↦ true | false ↦ c ] ≡ (b || c)
or_is true c = refl
or_is false c = refl

pub all_case : (b c : Bool) → elim b as (λ _. Bool) [ true ↦ c | false ↦ false ] ≡ true → (b ≡ true) × (c ≡ true)
all_case true c e = (refl, e)
all_case false c e = absurd (false≢true e)

-- numbers up to three
pub past_three : (P : ℕ → Type 0) → P 0 → P 1 → P 2 → ((x : ℕ) → P (suc (suc (suc x)))) → (x : ℕ) → P x
past_three P a b c d = elim [ zero ↦ a | suc zero ↦ b | suc (suc zero) ↦ c | suc (suc (suc x)) ↦ d x ]

pub below_three : (P : ℕ → Type 0) → P 0 → P 1 → P 2 → (x : ℕ) → x < 3 → P x
below_three P a b c = past_three (λ x. x < 3 → P x) (λ h. a) (λ h. b) (λ h. c) (λ x h. absurd (omega arith))

-- what holds of n and of all below it
pub below_suc : (P : ℕ → Type 0) (n : ℕ) → P n → ((i : ℕ) → i < n → P i) → (i : ℕ) → i < suc n → P i
below_suc P n top below i h = ⊎_elim (λ q. rw q top) (below i) (eq-or-lt_of_le (le_of_suc-le-suc h))

-- what a test over all numbers below n says of one of them, and the other way round
pub all-at : (n : ℕ) (f : ℕ → Bool) → all_below n f ≡ true → (i : ℕ) → i < n → f i ≡ true
all-at zero f e i h = absurd (omega arith)
all-at (suc n) f e i h = let c = all_case (f n) (all_below n f) e in below_suc (λ i. f i ≡ true) n c.0 (all-at n f c.1) i h

pub all_cons : (b c : Bool) → b ≡ true → c ≡ true → elim b as (λ _. Bool) [ true ↦ c | false ↦ false ] ≡ true
all_cons b c e d = rw (e, d)

pub all_of : (n : ℕ) (f : ℕ → Bool) → ((i : ℕ) → i < n → f i ≡ true) → all_below n f ≡ true
all_of zero f h = refl
all_of (suc n) f h = all_cons (f n) _ (h n (omega arith)) (all_of n f (λ i l. h i (omega arith)))

pub all_mono : (n : ℕ) {f g : ℕ → Bool} → ((i : ℕ) → Implies (f i) (g i)) → Implies (all_below n f) (all_below n g)
all_mono n {f} {g} h e = all_of n g (λ i l. h i (all-at n f e i l))

-- a number at which some test passes
pub some_at : (n : ℕ) (f : ℕ → Bool) → some_below n f ≡ true → (i : ℕ) × (i < n) × (f i ≡ true)
some_at zero f e = absurd (false≢true e)
some_at (suc n) f e =
    ⊎_elim (λ d. (n, omega arith, d)) (λ d. let (i, l, r) = some_at n f d in (i, omega arith, r))
    (or_case (f n) (some_below n f) (sym (or_is (f n) (some_below n f)) ∙ e))

pub some_of : (n : ℕ) (f : ℕ → Bool) (i : ℕ) → i < n → f i ≡ true → some_below n f ≡ true
some_of zero f i h e = absurd (omega arith)
some_of (suc n) f i h e =
    or_is (f n) _ ∙ below_suc (λ i. f i ≡ true → (f n || some_below n f) ≡ true) n (or_left _) (λ i l e. or_right (f n) (some_of n f i l e)) i h e

pub some_mono : (n : ℕ) {f g : ℕ → Bool} → ((i : ℕ) → Implies (f i) (g i)) → Implies (some_below n f) (some_below n g)
some_mono n {f} {g} h e = let (i, l, d) = some_at n f e in some_of n g i l (h i d)

-- where no number below n passes
pub none-at : (n : ℕ) (f : ℕ → Bool) → some_below n f ≡ false → (i : ℕ) → i < n → f i ≡ false
none-at n f e i h = fails (some_of n f i h) e

pub none_of : (n : ℕ) (f : ℕ → Bool) → ((i : ℕ) → i < n → f i ≡ false) → some_below n f ≡ false
none_of n f h = refuted _ (λ e. let (i, l, d) = some_at n f e in clash d (h i l))

-- a number at which a test fails that does not pass at all
pub all-not : (n : ℕ) (f : ℕ → Bool) → all_below n f ≡ false → (i : ℕ) × (i < n) × (f i ≡ false)
all-not n f e =
    let some = stays _ (λ d. clash (all_of n f (λ i l. not-false _ (none-at n (λ i. not (f i)) d i l))) e) in
    let (i, l, d) = some_at n (λ i. not (f i)) some in (i, l, not-true _ d)

-- a test of every element of a list
pub in_at : {A : Type 0} (f : A → Bool) (l : List A) → all_in f l ≡ true → (x : A) → Mem x l → f x ≡ true
in_at f [] e x m = absurd (mem-not_nil m)
in_at f (y ∷ l) e x m = let c = all_case (f y) (all_in f l) e in ⊎_elim (λ q. rw q c.0) (in_at f l c.1 x) (mem-cases_cons m)

pub in_of : {A : Type 0} (f : A → Bool) (l : List A) → ((x : A) → Mem x l → f x ≡ true) → all_in f l ≡ true
in_of f [] h = refl
in_of f (y ∷ l) h = all_cons (f y) _ (h y (mem-head refl)) (in_of f l (λ x m. h x (mem-tail m)))

-- the greatest below n
pub most-at : (n : ℕ) (f : ℕ → ℕ) (i : ℕ) → i < n → f i ≤ most_below n f
most-at zero f i h = absurd (omega arith)
most-at (suc n) f i h = below_suc (λ i. f i ≤ most_below (suc n) f) n (omega arith) (λ i l. omega (arith, most-at n f i l)) i h

pub most_le : (n : ℕ) (f : ℕ → ℕ) (c : ℕ) → ((i : ℕ) → i < n → f i ≤ c) → most_below n f ≤ c
most_le zero f c h = omega arith
most_le (suc n) f c h = omega (arith, h n (omega arith), most_le n f c (λ i l. h i (omega arith)))

pub most_some : (n : ℕ) (f : ℕ → ℕ) → 1 ≤ most_below n f → (i : ℕ) × (i < n) × (f i ≡ most_below n f)
most_some zero f h = absurd (omega arith)
most_some (suc n) f h = elim (dec_le (most_below n f) (f n)) [
  | yes l ↦ (n, omega arith, omega arith)
  | no l ↦ (let (i, li, e) = most_some n f (omega arith) in (i, omega arith, omega arith))
]

-- the first number below n that passes: it is found if some number passes, and it is the one before which none does
pub record First (n : ℕ) (f : ℕ → Bool) (j : ℕ) : Type 0 where
  pub within : j < n
  pub passes : f j ≡ true
  pub earlier : (i : ℕ) → i < j → f i ≡ false

first-none : (n : ℕ) (f : ℕ → Bool) (d : ℕ) → ((i : ℕ) → i < n → f i ≡ false) → first_below n f d ≡ d
first-none zero f d h = refl
first-none (suc n) f d h = first-none n f _ (λ i l. h i (omega arith)) ∙ rw (h n (omega arith))

pub first-is : (n : ℕ) (f : ℕ → Bool) (d j : ℕ) → First n f j → first_below n f d ≡ j
first-is zero f d j h = absurd (omega (arith, h.within))
first-is (suc n) f d j h = elim (eq-or-lt_of_le (le_of_suc-le-suc h.within)) [
  | inl e ↦ (let p : f n ≡ true = rw e at h.passes in first-none n f _ (λ i l. h.earlier i (omega arith)) ∙ rw (p, e))
  | inr l ↦ first-is n f _ j (record { within = l; passes = h.passes; earlier = h.earlier })
]

first_or_none : (n : ℕ) (f : ℕ → Bool) → ((i : ℕ) → i < n → f i ≡ false) ⊎ ((j : ℕ) × First n f j)
first_or_none zero f = inl (λ i l. absurd (omega arith))
first_or_none (suc n) f = elim (first_or_none n f) [
  | inl none ↦ elim (Bool-discrete (f n) true) [
    | yes q ↦ inr (n, record { within = omega arith; passes = q; earlier = none })
    | no r ↦ inl (below_suc (λ i. f i ≡ false) n (refuted _ r) none)
  ]
  | inr (j, r) ↦ inr (j, record { within = omega (arith, r.within); passes = r.passes; earlier = r.earlier })
]

pub first_exists : (n : ℕ) (f : ℕ → Bool) (i : ℕ) → i < n → f i ≡ true → (j : ℕ) × (j ≤ i) × First n f j
first_exists n f i h e = elim (first_or_none (suc i) f) [
  | inl none ↦ absurd (clash e (none i (omega arith)))
  | inr (j, r) ↦ (j, omega (arith, r.within), record { within = omega (arith, r.within); passes = r.passes; earlier = r.earlier })
]
