-- The accessors: where the relations of two items are, in either order, what "fixed" says of them, and what a removal writes.
use Rattle.std.specs.Prelude.{◌≢◌, ◌≡◌, ◌<◌}
use Rattle.prelude.specs.Names.{true, false, not, cond, and_comm, ⊎_elim, refl, sym, ◌∙◌, ap, ℕ, zero, suc, min, compare, Ordering}
use Rattle.prelude.specs.Names.{ordering_lt, ordering_eq, ordering_gt, arith, ℕ_discrete, get_or, set, eq-eqb, ne_eqb, le-leb, lt-leb, not-true}
use lib.Dec.{compare_is_eq, is_le}
use Rattle.model.specs.Domains.{Domains, domain, overlap_bit, before_bit, after_bit, index, bit, converse, place, left, cleared}
use Rattle.model.specs.Domains.{may_overlap, may_before, remove_overlap, remove_before, gone, without, fixed_before, fixed_overlap}
use Rattle.model.proofs.Below.{and_intro, and_both, clash}
use Rattle.model.proofs.Slots.{lt_or_gt, index-sym, index-up}

-- How two items compare
by_tests : (o : Ordering) → o ≡ cond (compare_is_eq o) ordering_eq (cond (is_le o) ordering_lt ordering_gt)
by_tests ordering_lt = refl
by_tests ordering_eq = refl
by_tests ordering_gt = refl

compare_self : (u : ℕ) → compare u u ≡ ordering_eq
compare_self u = by_tests (compare u u) ∙ rw (eq-eqb u u refl)

pub compare-lt : (u v : ℕ) → u < v → compare u v ≡ ordering_lt
compare-lt u v h = by_tests (compare u v) ∙ rw (ne_eqb u v (λ e. omega arith), le-leb u v (omega arith))

pub compare-gt : (u v : ℕ) → u < v → compare v u ≡ ordering_gt
compare-gt u v h = by_tests (compare v u) ∙ rw (ne_eqb v u (λ e. omega arith), lt-leb v u h)

-- The numbers of relations, and their bits
pub converse-small : (x : ℕ) → converse x < 3
converse-small zero = omega arith
converse-small (suc zero) = omega arith
converse-small (suc (suc x)) = omega arith

converse_twice : (x : ℕ) → converse (converse x) ≡ min x 2
converse_twice zero = refl
converse_twice (suc zero) = refl
converse_twice (suc (suc x)) = omega arith

module _ {u v : ℕ} (h : u ≢ v) where
  pub place-small : (x : ℕ) → place (compare u v) x < 3
  place-small x = ⊎_elim (λ l. rw (compare-lt u v l) (omega arith)) (λ l. rw (compare-gt v u l) (converse-small x)) (lt_or_gt u v h)

  pub place_same : {x y : ℕ} → x < 3 → y < 3 → place (compare u v) x ≡ place (compare u v) y → x ≡ y
  place_same {x} {y} hx hy e =
      ⊎_elim (λ l. let d = rw (compare-lt u v l) at e in omega arith)
      (λ l. omega (arith, converse_twice x, converse_twice y, ap converse (rw (compare-gt v u l) at e))) (lt_or_gt u v h)

-- The relation x of u and v is its converse of v and u
module _ (k : Domains) (x a u v : ℕ) where
  pub place-converse : place (compare v u) (converse x) ≡ place (compare u v) x
  place-converse = elim (ℕ_discrete u v) [
    | yes e ↦ rw (e, compare_self v)
    | no d ↦ ⊎_elim (λ l. rw (compare-lt u v l, compare-gt u v l) (converse_twice x))
        (λ l. rw (compare-lt v u l, compare-gt v u l) (omega (arith, converse-small x))) (lt_or_gt u v d)
  ]

  pub left-converse : left k (converse x) a v u ≡ left k x a u v
  left-converse = rw (place-converse, index-sym a v u) refl

module _ (k : Domains) (x a u v : ℕ) where
  pub gone-is : gone k x a u v ≡ not (left k x a u v)
  unfolding gone may_overlap may_before
  gone-is = elim x as (λ x. gone k x a u v ≡ not (left k x a u v)) [ zero ↦ refl | suc zero ↦ refl | suc (suc x) ↦ ap not (left-converse k (suc (suc x)) a u v) ]

  pub without_is : without k x a u v ≡ cleared k x a u v
  unfolding without remove_overlap remove_before
  without_is = elim x as (λ x. without k x a u v ≡ cleared k x a u v) [ zero ↦ refl | suc zero ↦ refl | suc (suc x) ↦ rw (place-converse k (suc (suc x)) a u v, index-sym a v u) ]

pub may_overlap-sym : (k : Domains) (a u v : ℕ) → may_overlap k a v u ≡ may_overlap k a u v
unfolding may_overlap
may_overlap-sym k a u v = left-converse k 0 a u v

-- Of an item and itself nothing is removed
pub gone-self : (k : Domains) (x a u : ℕ) → gone k x a u u ≡ false
gone-self k x a u = rw (gone-is k x a u u, compare_self u) refl

pub gone-distinct : (k : Domains) (x a u v : ℕ) → gone k x a u v ≡ true → u ≢ v
gone-distinct k x a u v e q = clash e (ap (gone k x a u) (sym q) ∙ gone-self k x a u)

-- What "fixed" says, and what says it
pub fixed_before-says : (k : Domains) (a u v : ℕ) → fixed_before k a u v ≡ true → (may_overlap k a u v ≡ false) × (may_before k a v u ≡ false)
unfolding fixed_before
fixed_before-says k a u v e = let q = and_both (not (may_overlap k a u v)) (not (may_before k a v u)) e in (not-true _ q.0, not-true _ q.1)

pub fixed_before-of : (k : Domains) (a u v : ℕ) → may_overlap k a u v ≡ false → may_before k a v u ≡ false → fixed_before k a u v ≡ true
unfolding fixed_before
fixed_before-of k a u v f g = and_intro (ap not f) (ap not g)

pub fixed_overlap-says : (k : Domains) (a u v : ℕ) → fixed_overlap k a u v ≡ true → (may_before k a u v ≡ false) × (may_before k a v u ≡ false)
unfolding fixed_overlap
fixed_overlap-says k a u v e = let q = and_both (not (may_before k a u v)) (not (may_before k a v u)) e in (not-true _ q.0, not-true _ q.1)

pub fixed_overlap-of : (k : Domains) (a u v : ℕ) → may_before k a u v ≡ false → may_before k a v u ≡ false → fixed_overlap k a u v ≡ true
unfolding fixed_overlap
fixed_overlap-of k a u v f g = and_intro (ap not f) (ap not g)

pub fixed_overlap-sym : (k : Domains) (a u v : ℕ) → fixed_overlap k a v u ≡ fixed_overlap k a u v
unfolding fixed_overlap
fixed_overlap-sym k a u v = and_comm (not (may_before k a v u)) (not (may_before k a u v))

-- A relation that is removed is of two distinct items
pub before-distinct : (k : Domains) (a u v : ℕ) → may_before k a u v ≡ false → u ≢ v
unfolding gone
before-distinct k a u v e = gone-distinct k 1 a u v (ap not e)

pub overlap_distinct : (k : Domains) (a u v : ℕ) → may_overlap k a u v ≡ false → u ≢ v
unfolding gone
overlap_distinct k a u v e = gone-distinct k 0 a u v (ap not e)

pub fixed_distinct : (k : Domains) (a u v : ℕ) → fixed_before k a u v ≡ true → u ≢ v
fixed_distinct k a u v e = overlap_distinct k a u v (fixed_before-says k a u v e).0

-- The accessor at a pair in its order: by number, and by name in both directions
pub left_up : (k : Domains) (x a : ℕ) {u v : ℕ} → u < v → left k x a u v ≡ bit (min x 2) (get_or k (index a u v) 0)
left_up k x a {u} {v} h = rw (compare-lt u v h, index-up a h) refl

module _ (k : Domains) (a : ℕ) {u v : ℕ} (h : u < v) where
  pub overlap_up : may_overlap k a u v ≡ overlap_bit (get_or k (index a u v) 0)
  unfolding may_overlap
  overlap_up = left_up k 0 a h

  pub before-up : may_before k a u v ≡ before_bit (get_or k (index a u v) 0)
  unfolding may_before
  before-up = left_up k 1 a h

  pub before_down : may_before k a v u ≡ after_bit (get_or k (index a u v) 0)
  unfolding may_before
  before_down = left-converse k 2 a u v ∙ left_up k 2 a h

-- A removal writes one number: what it leaves of the domain m of a pair u < v
module _ (k : Domains) (a : ℕ) {u v : ℕ} (h : u < v) where
  abbrev m : ℕ
  m = get_or k (index a u v) 0

  pub remove_before-up : remove_before k a u v ≡ set k (index a u v) (domain (overlap_bit m) false (after_bit m))
  unfolding remove_before
  remove_before-up = rw (compare-lt u v h, index-up a h) refl

  pub remove_before_down : remove_before k a v u ≡ set k (index a u v) (domain (overlap_bit m) (before_bit m) false)
  unfolding remove_before
  remove_before_down = rw (compare-gt u v h, index-sym a v u, index-up a h) refl

  pub remove_overlap-up : remove_overlap k a u v ≡ set k (index a u v) (domain false (before_bit m) (after_bit m))
  unfolding remove_overlap
  remove_overlap-up = rw (compare-lt u v h, index-up a h) refl

  pub remove_overlap_down : remove_overlap k a v u ≡ set k (index a u v) (domain false (before_bit m) (after_bit m))
  unfolding remove_overlap
  remove_overlap_down = rw (compare-gt u v h, index-sym a v u, index-up a h) refl
