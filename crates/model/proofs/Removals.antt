-- The order of removals does not matter: not that of the rules' own, and not whether the rules are
-- applied after every branch of a path or once at its end.
use Rattle.std.specs.Prelude.{◌∷◌, ◌≢◌, ◌⊎◌, ◌≡◌, ◌≤◌, ◌<◌}
use Rattle.prelude.specs.Names.{Bool, true, false, false≢true, List, [], inl, inr, ⊎_map, refl, sym, ◌∙◌, ap, subst, ℕ, zero, suc}
use Rattle.prelude.specs.Names.{ℕ_discrete, eq-or-lt_of_le, le_of_suc-le-suc, arith}
use Rattle.model.specs.Problem.{Problem}
use Rattle.model.specs.Domains.{Domains, gone, without, may_overlap, fix_overlap}
use Rattle.model.specs.Rules.{asks}
use Rattle.model.specs.Propagate.{sum, propagate}
use Rattle.model.specs.Branching.{Branch, first, second, choice, branch_at, branched, path_domains}
use Rattle.model.specs.Order.{Proper, WellFormed, ◌⊑◌, Between, AtRest}
use Rattle.model.specs.Removals.{Removed, untouched, then, branch_removals, path_removals}
use Rattle.model.proofs.Below.{Implies}
use Rattle.model.proofs.Slots.{proper-wide}
use Rattle.model.proofs.Order.{below_refl, below_trans}
use Rattle.model.proofs.Without.{without-less, without-above, without_alike, without-well_formed, without_gone, sum_falls}
use Rattle.model.proofs.Propagate.{propagate-less, propagate-at-rest, propagate_mono, propagate-well_formed, between_start, between_propagates}
use Rattle.model.proofs.Propagate.{between-rest}
use Rattle.model.proofs.Monotone.{asks_mono}
use Rattle.model.proofs.Admits.{opening-well_formed}

-- Any order

module _ (p : Problem) (limited : p.items ≤ 10) (k : Domains) (w : WellFormed k) where
  -- whoever removes only what rules ask for stays between k and its propagation
  removed_between : (j : Domains) → Removed p k j → Between p k j
  removed_between _ untouched = between_start p k w
  removed_between _ (then {j = j} r x a u v h s e) =
      let b = removed_between j r in
      let end = propagate p k in
      record {
        well_formed = without-well_formed j x a u v b.well_formed;
        low = without-above j x a u v end b.low ((propagate-at-rest p limited k w).done x a u v h s (asks_mono end j b.low p a x u v e));
        high = below_trans (without j x a u v) j k (without-less j x a u v) b.high;
      }

  -- and, in whatever order, has come to the propagation once nothing more can be removed
  pub any_order : (j : Domains) → Removed p k j → AtRest p j → j ≡ propagate p k
  any_order j r = between-rest p k w j (removed_between j r)

-- One propagation of a whole path

-- R only removes, and removes the same relations whatever the domains: what lies below some `R k`,
-- and so lacks them, lies below `R h` where it lies below h
record Removes (R : Domains → Domains) : Type 0 where
  less : (k : Domains) → R k ⊑ k
  alike : (j k h : Domains) → j ⊑ R k → j ⊑ h → j ⊑ R h
  shaped : (k : Domains) → WellFormed k → WellFormed (R k)

-- so whether the rules are applied before it too makes no difference to what they leave after it
propagate_removal : (p : Problem) {R : Domains → Domains} → Removes R → (k : Domains) → WellFormed k
    → propagate p (R (propagate p k)) ≡ propagate p (R k)
propagate_removal p {R} r k w =
    let j = propagate p k in
    between_propagates p (R k) (r.shaped k w) (R j)
    (record {
      well_formed = r.shaped j (propagate-well_formed p k w);
      low = r.alike (propagate p (R k)) k j (propagate-less p (R k)) (propagate_mono p (R k) k (r.less k));
      high = r.alike (R j) j k (below_refl (R j)) (below_trans (R j) j k (r.less j) (propagate-less p k));
    })

removes_both : {R S : Domains → Domains} → Removes R → Removes S → Removes (λ k. S (R k))
removes_both {R} {S} r s = record {
  less = λ k. below_trans (S (R k)) (R k) k (s.less (R k)) (r.less k);
  alike = λ j k h f g. s.alike j (R k) (R h) f (r.alike j k h (below_trans j (S (R k)) (R k) f (s.less (R k))) g);
  shaped = λ k w. s.shaped (R k) (r.shaped k w);
}

-- the removals of one relation, and of all that a branch removes
without_removes : (x a u v : ℕ) → Removes (λ k. without k x a u v)
without_removes x a u v =
    record { less = λ k. without-less k x a u v; alike = λ j k h. without_alike h x a u v j k; shaped = λ k. without-well_formed k x a u v }

branch_at_removes : (o : Bool) (b : Branch) (a u v : ℕ) → Removes (λ k. branch_at o b k a u v)
unfolding fix_overlap without
branch_at_removes true first a u v = without_removes 0 a u v
branch_at_removes true second a u v = removes_both (without_removes 1 a v u) (without_removes 1 a u v)
branch_at_removes false first a u v = without_removes 1 a v u
branch_at_removes false second a u v = without_removes 1 a u v

branch_removes : (k : Domains) (b : Branch) → Removes (branch_removals k b)
unfolding branch_removals
branch_removes k b = let c = choice k in branch_at_removes (may_overlap k c.axis c.u c.v) b c.axis c.u c.v

module _ (p : Problem) where
  path_removals-well_formed : (path : List Branch) → WellFormed (path_removals p path)
  unfolding path_removals
  path_removals-well_formed [] = opening-well_formed p
  path_removals-well_formed (b ∷ path) = (branch_removes (path_domains p path) b).shaped (path_removals p path) (path_removals-well_formed path)

  -- the rules applied once, at the end, leave what they leave when applied after every branch
  pub one_propagation : (path : List Branch) → propagate p (path_removals p path) ≡ path_domains p path
  unfolding path_removals path_domains branched branch_removals
  one_propagation [] = refl
  one_propagation (b ∷ path) =
      let k = path_domains p path in
      sym (propagate_removal p (branch_removes k b) (path_removals p path) (path_removals-well_formed path))
      ∙ ap (λ (j : Domains). propagate p (branch_removals k b j)) (one_propagation path)

-- There is such an order: removals one at a time come to rest, and so to the propagation

-- one of two, below n: the first at some number, or the second at all
either_below : {Q : Type 0} {P : ℕ → Type 0} (n : ℕ) → ((i : ℕ) → i < n → Q ⊎ P i) → Q ⊎ ((i : ℕ) → i < n → P i)
either_below zero h = inr (λ i l. absurd (omega arith))
either_below (suc n) h = elim (either_below n (λ i l. h i (omega arith))) [
  | inl q ↦ inl q
  | inr f ↦ ⊎_map (λ q. q) (λ g i l. elim (eq-or-lt_of_le (le_of_suc-le-suc l)) [ inl e ↦ rw e g | inr d ↦ f i d ]) (h n (omega arith))
]

fails_or_implies : (b c : Bool) → ((b ≡ true) × (c ≡ false)) ⊎ Implies b c
fails_or_implies true true = inr (λ _. refl)
fails_or_implies true false = inl (refl, refl)
fails_or_implies false c = inr (λ e. absurd (false≢true e))

module _ (p : Problem) (limited : p.items ≤ 10) (k : Domains) (w : WellFormed k) where
  abbrev Rested : Type 0
  Rested = (i : Domains) × Removed p k i × AtRest p i

  -- one removal more where one is due, and at rest where none is
  remove_or_rest : (j : Domains) → WellFormed j → Removed p k j → ((i : Domains) → Removed p k i → sum i < sum j → Rested) → Rested
  remove_or_rest j wj r on =
      elim (either_below 3 (λ x hx. either_below 3 (λ a ha. either_below p.items (λ u hu. either_below p.items (at x a u hx ha hu))))) [
        | inl q ↦ q
        | inr f ↦ (j, r, record { done = λ x a u v hx s. f x hx a s.axis u s.item_u v s.item_v s.distinct })
      ]
    where
      at : (x a u : ℕ) → x < 3 → a < 3 → u < p.items → (v : ℕ) → v < p.items → Rested ⊎ (u ≢ v → Implies (asks p j x a u v) (gone j x a u v))
      at x a u hx ha hu v hv = elim (ℕ_discrete u v) [
        | yes d ↦ inr (λ n. absurd (n d))
        | no d ↦ elim (fails_or_implies (asks p j x a u v) (gone j x a u v)) [
          | inl (f, e) ↦ let s : Proper p.items a u v = omega arith in
              let i = without j x a u v in
              inl (on i (then r x a u v hx s f) (sum_falls i j (without-well_formed j x a u v wj) wj (without-less j x a u v) x a u v
              (without_gone j x wj (proper-wide (omega arith) s)) e))
          | inr i ↦ inr (λ _. i)
        ]
      ]

  come_to-rest : (f : ℕ) (j : Domains) → Removed p k j → sum j < f → Rested
  come_to-rest zero j r h = absurd (omega arith)
  come_to-rest (suc f) j r h = remove_or_rest j (removed_between p limited k w j r).well_formed r (λ i q less. come_to-rest f i q (omega arith))

  -- the propagation is k with relations removed one at a time, each asked for when it is removed
  pub propagate_removes : Removed p k (propagate p k)
  propagate_removes =
      let (i, r, rest) = come_to-rest (suc (sum k)) k untouched (omega arith) in
      subst (Removed p k) (any_order p limited k w i r rest) r
