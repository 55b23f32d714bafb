-- A pair's number and a number's pair undo one another, for any count of items.
use Rattle.std.specs.Prelude.{◌≡◌, ◌+◌, ◌*◌, ◌-◌, ◌≤◌, ◌<◌}
use Rattle.prelude.specs.Names.{inl, inr, refl, sym, ◌∙◌, ap, ℕ, zero, suc, dec_lt, eq-or-lt_of_le, arith, lt-ltb, le-ltb}
use Rattle.model.specs.Pairs.{Pair, pair_number, next_pair, pair_of, OnePair}

pub square_split : (n : ℕ) → n * n ≡ n * (n - 1) + n
square_split zero = omega arith
square_split (suc n) = let e : suc n - 1 ≡ n = omega arith in rw e (omega arith)

pub squares : (n : ℕ) → n * (n - 1) + 2 * n ≡ suc n * (suc n - 1)
squares n = let e : suc n - 1 ≡ n = omega arith in rw e (omega (arith, square_split n))

-- The number of (0, v) is the count of pairs below v, and v has v pairs
pub number_split : (u v : ℕ) → pair_number u v ≡ pair_number 0 v + u
unfolding pair_number
number_split u v = omega arith

pub first_next : (v : ℕ) → pair_number 0 (suc v) ≡ pair_number 0 v + v
unfolding pair_number
first_next v = omega (arith, squares v)

-- it is no less than v − 1
pub first-least : (v : ℕ) → v ≤ suc (pair_number 0 v)
first-least zero = omega arith
first-least (suc v) = omega (arith, first_next v)

first_mono : (v w : ℕ) → v ≤ w → pair_number 0 v ≤ pair_number 0 w
first_mono v zero h = let e : v ≡ 0 = omega arith in rw e (omega arith)
first_mono v (suc w) h = elim (eq-or-lt_of_le h) [ inl e ↦ rw e (omega arith) | inr l ↦ omega (arith, first_next w, first_mono v w (omega arith)) ]

-- so the numbers of v end where those of the next item begin
pub number_below : (n u v : ℕ) → u < v → v < n → pair_number u v < pair_number 0 n
number_below n u v h l = omega (arith, number_split u v, first_next v, first_mono (suc v) n l)

-- The pair of a number, by the sequence
next_numbered : (c : Pair) → c.u < c.v → let d = next_pair c in (d.u < d.v) × (pair_number d.u d.v ≡ suc (pair_number c.u c.v))
next_numbered c h = elim (dec_lt (suc c.u) c.v) [
  | yes l ↦ rw (next_pair, lt-ltb (suc c.u) c.v l) (l, omega (arith, number_split (suc c.u) c.v, number_split c.u c.v))
  | no l ↦ rw (next_pair, le-ltb (suc c.u) c.v (omega arith)) (omega arith, omega (arith, first_next c.v, number_split c.u c.v))
]

numbered : (i : ℕ) → ((pair_of i).u < (pair_of i).v) × (pair_number (pair_of i).u (pair_of i).v ≡ i)
unfolding pair_of
numbered zero = (omega arith, unfold pair_number in refl)
numbered (suc i) = let (h, e) = numbered i in let (l, f) = next_numbered (pair_of i) h in (l, omega arith)

pub pair-rises : (i : ℕ) → (pair_of i).u < (pair_of i).v
pair-rises i = (numbered i).0

-- the number of a number's pair is the number
pub number_of-pair : (i : ℕ) → pair_number (pair_of i).u (pair_of i).v ≡ i
number_of-pair i = (numbered i).1

-- no two pairs share a number
pub number-once : {u v x y : ℕ} → u < v → x < y → pair_number u v ≡ pair_number x y → (u ≡ x) × (v ≡ y)
number-once {u} {v} {x} {y} h l e = elim (dec_lt v y) [
  | yes m ↦ absurd (omega (arith, number_below y u v h m, number_split x y))
  | no m ↦ elim (dec_lt y v) [
    | yes m' ↦ absurd (omega (arith, number_below v x y l m', number_split u v))
    | no m' ↦
        let same : v ≡ y = omega arith in
        let f : pair_number u y ≡ pair_number x y = rw same at e in
        (omega (arith, number_split u y, number_split x y), same)
  ]
]

-- the pair of a pair's number is the pair
pub pair-at-number : (u v : ℕ) → u < v → pair_of (pair_number u v) ≡ record { u = u; v = v }
pair-at-number u v h =
    let i = pair_number u v in
    let (e, f) = number-once (pair-rises i) h (number_of-pair i) in
    λ j. record { u = e j; v = f j }

-- the pairs of n items have the numbers below that of (0, n)
pub pair_below : (n i : ℕ) → i < pair_number 0 n → (pair_of i).v < n
pair_below n i h = elim (dec_lt (pair_of i).v n) [
  | yes l ↦ l
  | no l ↦ absurd (omega (
    arith,
    first_mono n (pair_of i).v (omega arith),
    number_split (pair_of i).u (pair_of i).v,
    number_of-pair i,
  ))
]

pub one_pair : (n i : ℕ) → i < pair_number 0 n → OnePair n i
one_pair n i h = (
  record { rising = pair-rises i; item = pair_below n i h; number = number_of-pair i },
  λ c m. sym (pair-at-number c.u c.v m.rising) ∙ ap pair_of m.number,
)

-- Ten items: "each of 0 to 44 belongs to exactly one pair"
pub pair_number-small : (u v : ℕ) → u < v → v < 10 → pair_number u v < 45
unfolding pair_number
pair_number-small u v = number_below 10 u v

pub pair-count-small : (n : ℕ) → n ≤ 10 → pair_number 0 n ≤ 45
unfolding pair_number
pair-count-small n = first_mono n 10

pub each-of_45 : (i : ℕ) → i < 45 → OnePair 10 i
unfolding pair_number
each-of_45 i = one_pair 10 i
