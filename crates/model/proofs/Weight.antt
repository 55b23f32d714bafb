-- The weight never grows where relations are removed, falls with each branch of a fork, and is at most 3 × n × (n − 1).
use Rattle.std.specs.Prelude.{◌&&◌, ◌||◌, ◌≡◌, ◌+◌, ◌*◌, ◌-◌, ◌≤◌, ◌<◌}
use Rattle.prelude.specs.Names.{Bool, true, not, false, cond, false≢true, inl, inr, refl, ap, ℕ, zero, suc, pred}
use Rattle.prelude.specs.Names.{eq-or-lt_of_le, le_of_suc-le-suc, arith, not-true}
use Rattle.model.specs.Problem.{Problem}
use Rattle.model.specs.Domains.{Domains, may_overlap, may_before, remove_overlap, remove_before, gone, without, fix_overlap}
use Rattle.model.specs.Branching.{undecided, choice, Branch, first, second, branch_at, branched}
use Rattle.model.specs.Order.{Proper, Rising, WellFormed, ◌⊑◌, Fork}
use Rattle.model.specs.Below.{sum_below}
use Rattle.model.specs.Weight.{sum_slots, relations, weight}
use Rattle.model.proofs.Below.{Implies}
use Rattle.model.proofs.Pairs.{squares}
use Rattle.model.proofs.Slots.{proper-sym}
use Rattle.model.proofs.Monotone.{may_overlap_mono, may_before_mono}
use Rattle.model.proofs.Without.{without-less, without-well_formed, without_gone}
use Rattle.model.proofs.Fork.{branched-less}

module _ (f g : ℕ → ℕ) where
  sum_mono : (n : ℕ) → ((i : ℕ) → i < n → f i ≤ g i) → sum_below n f ≤ sum_below n g
  sum_mono zero h = omega arith
  sum_mono (suc n) h = omega (arith, sum_mono n (λ i l. h i (omega arith)), h n (omega arith))

  sum_less : (n j : ℕ) → ((i : ℕ) → i < n → f i ≤ g i) → j < n → f j < g j → sum_below n f < sum_below n g
  sum_less zero j h l x = absurd (omega arith)
  sum_less (suc n) j h l x = elim (eq-or-lt_of_le (le_of_suc-le-suc l)) [
    | inl e ↦ let y : f n < g n = rw (← e) x in omega (arith, sum_mono n (λ i p. h i (omega arith)))
    | inr q ↦ omega (arith, sum_less n j (λ i p. h i (omega arith)) q x, h n (omega arith))
  ]

module _ (f g : ℕ → ℕ → ℕ → ℕ) (h : (a u v : ℕ) → f a u v ≤ g a u v) where
  on-axis : (a n : ℕ) → sum_below n (λ v. sum_below v (λ u. f a u v)) ≤ sum_below n (λ v. sum_below v (λ u. g a u v))
  on-axis a n = sum_mono _ _ n (λ v _. sum_mono _ _ v (λ u _. h a u v))

  slots_less : {n : ℕ} (a u v : ℕ) → Rising n a u v → f a u v < g a u v → sum_slots n f < sum_slots n g
  slots_less {n} a u v r x =
      sum_less _ _ 3 a (λ a _. on-axis a n) r.axis
      (sum_less _ _ n v (λ v _. sum_mono _ _ v (λ u _. h a u v)) r.item (sum_less _ _ v u (λ u _. h a u v) r.rising x))

-- one for a test that passes
one_mono : {b c : Bool} → Implies b c → cond b 1 0 ≤ cond c 1 0
one_mono {b = true} {c = true} f = omega arith
one_mono {b = true} {c = false} f = absurd (false≢true (f refl))
one_mono {b = false} {c = c} f = omega arith

one_le : (b : Bool) → cond b 1 0 ≤ 1
one_le true = omega arith
one_le false = omega arith

none : (b : Bool) → not b ≡ true → ◌≡◌ {A = ℕ} (cond b 1 0) 0
none b e = rw (not-true b e) refl

over-most : (k : Domains) (a u v : ℕ) → pred (relations k a u v) ≤ 2
over-most k a u v =
    let most : relations k a u v ≤ 3 = unfold relations in
    omega (arith, one_le (may_overlap k a u v), one_le (may_before k a u v), one_le (may_before k a v u)) in
    omega arith

over_mono : (j k : Domains) → j ⊑ k → (a u v : ℕ) → pred (relations j a u v) ≤ pred (relations k a u v)
over_mono j k h a u v =
    let fewer : relations j a u v ≤ relations k a u v = unfold relations in
    omega (arith, one_mono (may_overlap_mono j k h a u v), one_mono (may_before_mono j k h a u v), one_mono (may_before_mono j k h a v u)) in
    omega arith

-- the weight never grows
pub weight_mono : (p : Problem) (j k : Domains) → j ⊑ k → weight p j ≤ weight p k
unfolding weight
weight_mono p j k h = sum_mono _ _ 3 (λ a _. on-axis _ _ (over_mono j k h) a p.items)

-- A branch removes a relation that is left, where there are two
two_left : (o f b : Bool) → (o && (f || b) || f && b) ≡ true → 2 ≤ cond o 1 0 + (cond f 1 0 + cond b 1 0)
two_left true true b e = omega arith
two_left true false true e = omega arith
two_left true false false e = absurd (false≢true e)
two_left false true true e = omega arith
two_left false true false e = absurd (false≢true e)
two_left false false b e = absurd (false≢true e)

branch_fewer : (k : Domains) (w : WellFormed k) (a u v : ℕ) → Proper 10 a u v → (b : Branch) (o : Bool) → may_overlap k a u v ≡ o
    → 2 ≤ relations k a u v → branch_at o b k a u v ⊑ k → relations (branch_at o b k a u v) a u v < relations k a u v
unfolding relations fix_overlap gone without
branch_fewer k w a u v s first true e h less =
    let j = remove_overlap k a u v in
    let had : ◌≡◌ {A = ℕ} (cond (may_overlap k a u v) 1 0) 1 = rw e refl in
    omega (
      arith,
      none (may_overlap j a u v) (without_gone k 0 w s),
      one_mono (may_before_mono j k less a u v),
      one_mono (may_before_mono j k less a v u),
    )
branch_fewer k w a u v s second true e h less =
    let i = remove_before k a v u in
    let j = remove_before i a u v in
    omega (
      arith,
      none (may_before j a u v) (without_gone i 1 (without-well_formed k 1 a v u w) s),
      none (may_before i a v u) (without_gone k 1 w (proper-sym s)),
      one_le (may_overlap j a u v),
      one_mono (may_before_mono j i (without-less i 1 a u v) a v u),
    )
branch_fewer k w a u v s first false e h less =
    let j = remove_before k a v u in
    omega (
      arith,
      none (may_before j a v u) (without_gone k 1 w (proper-sym s)),
      none (may_overlap k a u v) (ap not e),
      one_mono (may_overlap_mono j k less a u v),
      one_le (may_before j a u v),
    )
branch_fewer k w a u v s second false e h less =
    let j = remove_before k a u v in
    omega (
      arith,
      none (may_before j a u v) (without_gone k 1 w s),
      none (may_overlap k a u v) (ap not e),
      one_mono (may_overlap_mono j k less a u v),
      one_le (may_before j a v u),
    )

-- the weight falls with each branch of a fork
pub weight_branch : (p : Problem) → p.items ≤ 10 → (k : Domains) → WellFormed k → Fork p k (choice k) → (b : Branch)
    → weight p (branched k b) < weight p k
unfolding weight branched
weight_branch p limited k w f b =
    let (a, u, v) : ℕ × ℕ × ℕ = ((choice k).axis, (choice k).u, (choice k).v) in
    let less : branch_at (may_overlap k a u v) b k a u v ⊑ k = unfold branched in branched-less k b in
    let two : 2 ≤ relations k a u v = unfold undecided relations in
    two_left (may_overlap k a u v) (may_before k a u v) (may_before k a v u) f.several in
    slots_less _ _ (over_mono _ k less) a u v f.place (omega (arith, branch_fewer k w a u v (omega arith) b _ refl two less))

-- at most 2 for each pair and axis
pub weight_bound : (p : Problem) (k : Domains) → weight p k ≤ 3 * (p.items * (p.items - 1))
unfolding weight
weight_bound p k = omega (arith, axis_bound p.items 0, axis_bound p.items 1, axis_bound p.items 2)
  where
    over : ℕ → ℕ → ℕ → ℕ
    over a u v = pred (relations k a u v)

    upper_bound : (a v n : ℕ) → sum_below n (λ u. over a u v) ≤ 2 * n
    upper_bound a v zero = omega arith
    upper_bound a v (suc n) = omega (arith, upper_bound a v n, over-most k a n v)

    axis_bound : (n a : ℕ) → sum_below n (λ v. sum_below v (λ u. over a u v)) ≤ n * (n - 1)
    axis_bound zero a = omega arith
    axis_bound (suc n) a = omega (arith, axis_bound n a, upper_bound a n n, squares n)
