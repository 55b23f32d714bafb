-- The branching place.
use Rattle.std.specs.Prelude.{◌&&◌, ◌||◌, ◌≡◌, ◌+◌, ◌*◌, ◌≤◌, ◌<◌, Some, None}
use Rattle.prelude.specs.Names.{Bool, true, false, not, or-true, not-eq-not, Bool-discrete, refl, sym, ◌∙◌, ap, ℕ, zero}
use Rattle.prelude.specs.Names.{suc, arith, eqb, get_or}
use mathlib.Core.Bool.{and-or_distrib_left, decide, decide_iff}
use Rattle.model.specs.Below.{all_below, some_below}
use Rattle.model.specs.Pairs.{pair_number, pair_of}
use Rattle.model.specs.Domains.{Domains, index, overlap_bit, before_bit, after_bit, fixed_before}
use Rattle.model.specs.Branching.{separated, packed, undecided, pair_separated, choice_axis, choice}
use Rattle.model.proofs.Below.{all-at, clash}
use Rattle.model.proofs.Domains.{may_overlap-sym, before-up, before_down, overlap_up}
use Rattle.model.proofs.Pairs.{number_below, pair-rises, number_of-pair, pair_below, pair-count-small}
use Rattle.model.proofs.Fork.{choice_number-is, choice_axis-is}
use Rattle.model.proofs.FirstBranches.{first-from, packed-from}
use Rattle.model.specs.FirstBranches.{Passed}
use Rattle.model.specs.Order.{Proper}
use Rattle.nodes.specs.Choice.{separates, several, separated_at, Chosen}
use Rattle.domains.specs.Bits.{bit_at}
use Rattle.pairs.specs.Values.{pair_value}
use Rattle.pairs.specs.declared.Pair as P
use Rattle.model.specs.Pairs as M

-- Two tests of domains are the same: computed for the domains 0 to 7
same_test : (f g : ℕ → Bool) → all_below 8 (λ m. decide (Bool-discrete (f m) (g m))) ≡ true → (m : ℕ) → m < 8 → f m ≡ g m
same_test f g e m h = (decide_iff (Bool-discrete _ _)).0 (all-at 8 (λ m. decide (Bool-discrete (f m) (g m))) e m h)

pub separates-is : (m : ℕ) → m < 8 → bit_at 21 m ≡ separates m
unfolding bit_at overlap_bit before_bit after_bit decide
separates-is = same_test (bit_at 21) separates refl

pub several-is : (m : ℕ) → m < 8 → several m ≡ (not (eqb m 1) && not (separates m))
unfolding overlap_bit before_bit after_bit decide
several-is = same_test several (λ m. not (eqb m 1) && not (separates m)) refl

some_axis : (f : ℕ → Bool) → some_below 3 f ≡ (f 0 || (f 1 || f 2))
some_axis f = go (f 0) (f 1) (f 2)
  where
    go : (x y z : Bool) → some_below 3 (λ a. elim a [ zero ↦ x | suc b ↦ elim b [ zero ↦ y | suc _ ↦ z ] ]) ≡ (x || (y || z))
    go x y true = simp or-true
    go x true false = simp or-true
    go true false false = refl
    go false false false = refl

-- the domains of the pair with number j are from 3 * j on
module _ (k : Domains) (j : ℕ) {u v : ℕ} (rises : u < v) (number : pair_number u v ≡ j) where
  index_is : (a i : ℕ) → i ≡ 3 * j + a → i ≡ index a u v
  unfolding index
  index_is a i e = omega arith

  separates-at : (a i : ℕ) → i ≡ 3 * j + a → separates (get_or k i 0) ≡ (fixed_before k a u v || fixed_before k a v u)
  unfolding fixed_before
  separates-at a i e =
      rw (index_is a i e, may_overlap-sym k a u v, overlap_up k a rises, before_down k a rises, before-up k a rises, and-or_distrib_left)

  separated-is : separated_at k j ≡ separated k u v
  unfolding separated
  separated-is =
      rw (separates-at 0 (3 * j) (omega arith), separates-at 1 (3 * j + 1) refl, separates-at 2 (3 * j + 2) refl)
      (sym (some_axis (λ a. fixed_before k a u v || fixed_before k a v u)))

  undecided-is : (a : ℕ) → several (get_or k (3 * j + a) 0) ≡ undecided k a u v
  unfolding undecided
  undecided-is a = rw (index_is a (3 * j + a) refl, overlap_up k a rises, before_down k a rises, before-up k a rises) refl

-- every pair from some number on is separated: packed
pub packed-of : (k : Domains) (n : ℕ) → n ≤ 10 → (from : ℕ) → Passed k from → ((j : ℕ) → j < pair_number 0 n → from ≤ j → separated_at k j ≡ true)
    → Chosen k n None
packed-of k n limited from passed all p e =
    packed-from p (rw e limited) k from passed
    (λ u v hu hv low. sym (separated-is k (pair_number u v) hu refl) ∙ all (pair_number u v) (number_below n u v hu (rw e at hv)) low)

-- the pair of a number is two items
pub pair_proper : {n j : ℕ} {c : P.Pair} → n ≤ 10 → j < pair_number 0 n → pair_value c ≡ pair_of j → (a : ℕ) → a < 3 → Proper 10 a c.u c.v
pair_proper {n} {j} {c} limited below is a ha =
    let is-u : c.u ≡ (pair_of j).u = ap (λ (d : M.Pair). d.u) is in
    let is-v : c.v ≡ (pair_of j).v = ap (λ (d : M.Pair). d.v) is in
    let top = pair_below n j below in
    let rises = pair-rises j in
    record { axis = ha; item_u = omega arith; item_v = omega arith; distinct = λ e. omega arith }

-- the first pair from some number on that is not
pub record Unseparated (k : Domains) (n from j : ℕ) (c : P.Pair) : Type 0 where
  pub limited : n ≤ 10
  pub passed : Passed k from
  pub below : j < pair_number 0 n
  pub is : pair_value c ≡ pair_of j
  pub unseparated : separated_at k j ≡ false
  pub earlier : (i : ℕ) → i < j → from ≤ i → separated_at k i ≡ true

module _ {k : Domains} {n from j : ℕ} {c : P.Pair} (f : Unseparated k n from j c) where
  within : j < 45
  within = omega (arith, f.below, pair-count-small n f.limited)

  separated_at-pair : (i : ℕ) → separated_at k i ≡ pair_separated k i
  separated_at-pair i = separated-is k i (pair-rises i) (number_of-pair i)

  undecided_by : (b : ℕ) {x : Bool} → several (get_or k (3 * j + b) 0) ≡ x → undecided k b (pair_of j).u (pair_of j).v ≡ x
  undecided_by b e = sym (undecided-is k j (pair-rises j) (number_of-pair j) b) ∙ e

  chosen_at : (a : ℕ) → a < 3 → choice_axis k (pair_of j).u (pair_of j).v ≡ a → (w : Proper 10 a c.u c.v)
      → Chosen k n (Some (record { axis = a; u = c.u; v = c.v; proper = w }))
  unfolding choice packed
  chosen_at a ha e w =
      let top = pair_below n j f.below in
      let rises = pair-rises j in
      let is-u : c.u ≡ (pair_of j).u = ap (λ (d : M.Pair). d.u) f.is in
      let is-v : c.v ≡ (pair_of j).v = ap (λ (d : M.Pair). d.v) f.is in
      let apart = sym (separated_at-pair j) ∙ f.unseparated in
      let unpassed = first-from k from j f.passed within apart (λ i low l. sym (separated_at-pair i) ∙ f.earlier i l low) in (
        rw (choice_number-is k j unpassed, is-u, is-v, e) refl,
        rw (is-u, is-v) (record { axis = ha; rising = rises; item = top }),
        λ p q. not-eq-not.0 (λ d.
            let all = all-at p.items (λ y. all_below y (λ x. separated k x y)) d (pair_of j).v (rw q top) in
            clash (all-at (pair_of j).v (λ x. separated k x (pair_of j).v) all (pair_of j).u rises) apart),
      )

  -- its first axis with more than one relation left
  pub chosen_axis : (a : ℕ) → a < 3 → several (get_or k (3 * j + a) 0) ≡ true → ((b : ℕ) → b < a → several (get_or k (3 * j + b) 0) ≡ false)
      → (w : Proper 10 a c.u c.v) → Chosen k n (Some (record { axis = a; u = c.u; v = c.v; proper = w }))
  chosen_axis a ha e none = chosen_at a ha (choice_axis-is k _ _ a ha (undecided_by a e) (λ b l. undecided_by b (none b l)))

  pub chosen_none : ((b : ℕ) → b < 3 → several (get_or k (3 * j + b) 0) ≡ false)
      → (w : Proper 10 0 c.u c.v) → Chosen k n (Some (record { axis = 0; u = c.u; v = c.v; proper = w }))
  unfolding choice_axis
  chosen_none none =
      chosen_at 0 (omega arith) (cc (undecided_by 0 (none 0 (omega arith)), undecided_by 1 (none 1 (omega arith)), undecided_by 2 (none 2 (omega arith))))
