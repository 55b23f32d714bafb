-- Where domains at rest are neither inconsistent nor packed there is a place to branch, and the two branches split what is admitted.
use Rattle.std.specs.Prelude.{◌&&◌, ◌||◌, ◌⊎◌, ◌≡◌, ◌≤◌, ◌<◌}
use Rattle.prelude.specs.Names.{Bool, true, false, not, inl, inr, refl, ◌∙◌, ℕ, arith}
use Rattle.prelude.specs.Names.{not-true}
use Rattle.model.specs.Below.{all_below}
use Rattle.model.specs.Problem.{Problem, Positions, EndsBefore}
use Rattle.model.specs.Pairs.{pair_number, pair_of}
use Rattle.model.specs.Domains.{Domains, may_overlap, may_before, without, fixed_before, fixed_overlap, fix_overlap}
use Rattle.model.specs.Rules.{asks_overlap}
use Rattle.model.specs.Branching.{inconsistent, separated, packed, undecided, pair_separated, choice_number, choice_axis, choice, Branch}
use Rattle.model.specs.Branching.{first, second, branch_at, branched}
use Rattle.model.specs.Order.{Proper, WellFormed, ◌⊑◌, AtRest, Fork}
use Rattle.model.specs.Admits.{Sound, Overlaps, Admits}
use Rattle.model.proofs.Below.{all-not, some_at, none-at, and_intro, or_left, or_neither, First, first-is, first_exists, stays, clash}
use Rattle.model.proofs.Asks.{not_overlap, rule1-of}
use Rattle.model.proofs.Pairs.{number_below, pair-rises, number_of-pair, pair-at-number, pair_below, pair_number-small}
use Rattle.model.proofs.Slots.{proper-sym, proper-up}
use Rattle.model.proofs.Domains.{may_overlap-sym, fixed_before-of, fixed_overlap-of, fixed_overlap-says}
use Rattle.model.proofs.Without.{without-less, without-well_formed}
use Rattle.model.proofs.Order.{sub_refl, sub_trans}
use Rattle.model.proofs.Ends.{ends?}
use Rattle.model.proofs.Consistent.{relation_left}
use Rattle.model.proofs.Admits.{not_both, without_admits, fix_overlap_admits}

-- The choice is the first by number
abbrev pub unseparated-pair : Domains → ℕ → Bool
unseparated-pair k i = not (pair_separated k i)

pub choice_number-is : (k : Domains) (j : ℕ) → First 45 (unseparated-pair k) j → choice_number k ≡ j
unfolding choice_number
choice_number-is k j h = first-is 45 (unseparated-pair k) 0 j h

pub choice_numbered : (k : Domains) → pair_number (choice k).u (choice k).v ≡ choice_number k
unfolding choice
choice_numbered k = number_of-pair (choice_number k)

pub choice_axis-is : (k : Domains) (u v a : ℕ) → a < 3 → undecided k a u v ≡ true → ((b : ℕ) → b < a → undecided k b u v ≡ false) → choice_axis k u v ≡ a
unfolding choice_axis
choice_axis-is k u v a h e f = first-is 3 (λ a. undecided k a u v) 0 a (record { within = h; passes = e; earlier = f })

-- At most one relation is left, and no "before" is fixed: overlap is
lone_overlap : (o f b : Bool) → (o && (f || b) || f && b) ≡ false → (o ≡ false → b ≡ false → ⊥) → (o ≡ false → f ≡ false → ⊥) → (f ≡ false) × (b ≡ false)
lone_overlap true f b e x y = or_neither f b (or_neither (f || b) (f && b) e).0
lone_overlap false f b e x y = absurd (clash (and_intro (stays f (y refl)) (stays b (x refl))) e)

module _ (p : Problem) (k : Domains) (rest : AtRest p k) (consistent : inconsistent p k ≡ false) where
  -- a pair without a fixed "before" has an axis with more than one relation left: otherwise rule 1 would have removed the last
  module _ (u v : ℕ) (h : u < v) (hv : v < p.items) (open-pair : separated k u v ≡ false) where
    overlap_only : (a : ℕ) → a < 3 → undecided k a u v ≡ false → fixed_overlap k a u v ≡ true
    unfolding undecided separated
    overlap_only a ha e =
        let n = or_neither (fixed_before k a u v) (fixed_before k a v u) (none-at 3 (λ b. fixed_before k b u v || fixed_before k b v u) open-pair a ha) in
        let r = lone_overlap (may_overlap k a u v) (may_before k a u v) (may_before k a v u) e
        (λ o b. clash (fixed_before-of k a u v o b) n.0)
        (λ o f. clash (fixed_before-of k a v u (may_overlap-sym k a u v ∙ o) f) n.1) in
        fixed_overlap-of k a u v r.0 r.1

    all_decided : ((a : ℕ) → a < 3 → undecided k a u v ≡ false) → ⊥
    unfolding asks_overlap
    all_decided e =
        let s : Proper p.items 0 u v = omega arith in
        let f = fixed_overlap-says k 0 u v (overlap_only 0 (omega arith) (e 0 (omega arith))) in
        relation_left p k consistent 0 u v s
        (not_overlap rest 0 u v s (or_left _ (rule1-of p k 0 u v (λ b hb d. overlap_only b hb (e b hb))))) f.0 f.1

    choice_axis-undecided : (choice_axis k u v < 3) × (undecided k (choice_axis k u v) u v ≡ true)
    unfolding choice_axis
    choice_axis-undecided =
        let (a, ha, e) = some_at 3 (λ a. undecided k a u v) (stays _ (λ e. all_decided (none-at 3 (λ a. undecided k a u v) e))) in
        let (j, le, r) = first_exists 3 (λ a. undecided k a u v) a ha e in
        rw (first-is 3 (λ a. undecided k a u v) 0 j r) (r.within, r.passes)

  -- the choice is a place to branch
  pub choice_fork : p.items ≤ 10 → packed p k ≡ false → Fork p k (choice k)
  unfolding packed choice
  choice_fork limited unpacked =
      let (v, hv, d) = all-not p.items (λ v. all_below v (λ u. separated k u v)) unpacked in
      let (u, hu, e) = all-not v (λ u. separated k u v) d in
      let i = pair_number u v in
      let small = pair_number-small u v hu (omega arith) in
      let (j, le, r) = first_exists 45 (unseparated-pair k) i small (rw (pair-at-number u v hu, e) refl) in
      let item = pair_below p.items j (omega (arith, number_below p.items u v hu hv)) in
      let open-pair = not-true (pair_separated k j) r.passes in
      let (axis, several) = choice_axis-undecided (pair_of j).u (pair_of j).v (pair-rises j) item open-pair in
      rw (choice_number-is k j r)
      (record { place = record { axis = axis; rising = pair-rises j; item = item }; unseparated = open-pair; several = several })

-- What every removal at the choice keeps a branch keeps; so it only removes
pub branched-keeps : (P : Domains → Type 0) (k : Domains)
    → ((x : ℕ) (j : Domains) → P j → P (without j x (choice k).axis (choice k).u (choice k).v)) → (b : Branch) → P k → P (branched k b)
unfolding branched without fix_overlap
branched-keeps P k keep b h = go (may_overlap k (choice k).axis (choice k).u (choice k).v) b
  where
    go : (o : Bool) (b : Branch) → P (branch_at o b k (choice k).axis (choice k).u (choice k).v)
    go true first = keep 0 k h
    go true second = keep 1 _ (keep 2 k h)
    go false first = keep 2 k h
    go false second = keep 1 k h

pub branched-less : (k : Domains) (b : Branch) → branched k b ⊑ k
branched-less k b = branched-keeps (λ j. j ⊑ k) k (λ x j h i. sub_trans (without-less j x _ _ _ i) (h i)) b (λ i. sub_refl _)

pub branched-well_formed : (k : Domains) (b : Branch) → WellFormed k → WellFormed (branched k b)
branched-well_formed k = branched-keeps WellFormed k (λ x j. without-well_formed j x _ _ _)

-- What is admitted is admitted by one of the two
module _ (p : Problem) (sound : Sound p) (q : Positions) (k : Domains) (w : WellFormed k) (admits : Admits p k q) where
  branch_split : (o : Bool) (a u v : ℕ) → Proper p.items a u v → Dec (EndsBefore p q a u v) → Dec (EndsBefore p q a v u)
      → Admits p (branch_at o first k a u v) q ⊎ Admits p (branch_at o second k a u v) q
  unfolding Overlaps without
  branch_split true a u v s (yes b) d = inl (without_admits p sound q k w admits 0 (omega arith) s (λ h. h.0 b))
  branch_split true a u v s (no f) (yes b) = inl (without_admits p sound q k w admits 0 (omega arith) s (λ h. h.1 b))
  branch_split true a u v s (no f) (no g) = inr (fix_overlap_admits p sound q k w admits s (f, g))
  branch_split false a u v s (yes b) d = inl (without_admits p sound q k w admits 1 (omega arith) (proper-sym s) (not_both p sound q s b))
  branch_split false a u v s (no f) d = inr (without_admits p sound q k w admits 1 (omega arith) s f)

  pub fork_split : Fork p k (choice k) → Admits p (branched k first) q ⊎ Admits p (branched k second) q
  unfolding branched
  fork_split f =
      let c = choice k in
      branch_split (may_overlap k c.axis c.u c.v) c.axis c.u c.v (proper-up f.place) (ends? p q _ _ _) (ends? p q _ _ _)
