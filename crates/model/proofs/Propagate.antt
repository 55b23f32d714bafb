-- What propagation leaves: of all domains below k at which no rule asks for anything, the greatest. So the order of removals does not matter.
use Rattle.std.specs.Prelude.{◌≡◌, ◌≤◌}
use Rattle.prelude.specs.Names.{true, false, inl, inr, refl, subst, ℕ, zero, suc, le_refl, arith}
use Rattle.model.specs.Problem.{Problem}
use Rattle.model.specs.Domains.{Domains}
use Rattle.model.specs.Propagate.{pass, same, sum, passes, propagate}
use Rattle.model.specs.Branching.{empty, inconsistent}
use Rattle.model.specs.Order.{WellFormed, ◌⊑◌, Between, AtRest}
use Rattle.model.proofs.Below.{Implies, and_mono, or_mono, not_mono, some_mono}
use Rattle.model.proofs.Order.{below_refl, below_trans, below_eq}
use Rattle.model.proofs.Monotone.{may_overlap_mono, may_before_mono}
use Rattle.model.proofs.Pass.{same-eq, pass-less, pass_mono, pass-same_or_lower, pass_lowers, pass-well_formed, rests_at-rest, at-rest_rests}

module _ (p : Problem) where
  -- one more pass: either it changes nothing, or the rest start from what it leaves
  passes_case : (P : Domains → Type 0) (f : ℕ) (k : Domains) → (same (pass p k) k ≡ true → P k)
      → (same (pass p k) k ≡ false → P (passes p f (pass p k))) → P (passes p (suc f) k)
  unfolding passes
  passes_case P f k still changed =
      (elim (same (pass p k) k) as (λ b. same (pass p k) k ≡ b → P (elim b as (λ _. Domains) [ true ↦ k | false ↦ passes p f (pass p k) ]))
      [ true ↦ still | false ↦ changed ]) refl

  -- a pass changes nothing of what propagation leaves
  pub propagate_rests : (k : Domains) → pass p (propagate p k) ≡ propagate p k
  unfolding propagate passes
  propagate_rests k = rests (sum k) k (le_refl (sum k))
    where
      rests : (f : ℕ) (k : Domains) → sum k ≤ f → pass p (passes p f k) ≡ passes p f k
      rests zero k h = elim (pass-same_or_lower p k) [ inl e ↦ e | inr l ↦ absurd (omega arith) ]
      rests (suc f) k h =
          passes_case (λ j. pass p j ≡ j) f k (λ e. same-eq (pass p k) k e) (λ e. rests f (pass p k) (omega (arith, pass_lowers p k e)))

  -- what a pass keeps, propagation keeps
  pub propagate-keeps : (P : Domains → Type 0) → ((k : Domains) → P k → P (pass p k)) → (k : Domains) → P k → P (propagate p k)
  unfolding propagate passes
  propagate-keeps P kept k h = go (sum k) k h
    where
      go : (f : ℕ) (k : Domains) → P k → P (passes p f k)
      go zero k h = h
      go (suc f) k h = passes_case P f k (λ e. h) (λ e. go f (pass p k) (kept k h))

  -- it has only relations of k
  pub propagate-less : (k : Domains) → propagate p k ⊑ k
  propagate-less k = propagate-keeps (λ j. j ⊑ k) (λ j h. below_trans (pass p j) j k (pass-less p j) h) k (below_refl k)

  -- and whatever lies below k and is at rest lies below it
  pub propagate-greatest : (j k : Domains) → pass p j ≡ j → j ⊑ k → j ⊑ propagate p k
  propagate-greatest j k e = propagate-keeps (λ l. j ⊑ l) (λ l h. subst (λ i. i ⊑ pass p l) e (pass_mono p j l h)) k

  pub propagate_mono : (j k : Domains) → j ⊑ k → propagate p j ⊑ propagate p k
  propagate_mono j k h = propagate-greatest (propagate p j) k (propagate_rests j) (below_trans (propagate p j) j k (propagate-less j) h)

  pub propagate-well_formed : (k : Domains) → WellFormed k → WellFormed (propagate p k)
  propagate-well_formed = propagate-keeps WellFormed (pass-well_formed p)

  -- propagation leaves no relation that a rule asks for
  pub propagate-at-rest : p.items ≤ 10 → (k : Domains) → WellFormed k → AtRest p (propagate p k)
  propagate-at-rest limited k w = rests_at-rest p limited (propagate p k) (propagate-well_formed k w).long (propagate_rests k)

  module _ (k : Domains) (w : WellFormed k) where
    pub between_start : Between p k k
    between_start = record { well_formed = w; low = propagate-less k; high = below_refl k }

    -- whatever lies between k and its propagation propagates to the same
    pub between_propagates : (j : Domains) → Between p k j → propagate p j ≡ propagate p k
    between_propagates j b =
        below_eq (propagate p j) (propagate p k) (propagate-well_formed j b.well_formed) (propagate-well_formed k w)
        (propagate_mono j k b.high) (propagate-greatest (propagate p k) j (propagate_rests k) b.low)

    -- and if no rule asks for anything there, it is the propagation
    pub between-rest : (j : Domains) → Between p k j → AtRest p j → j ≡ propagate p k
    between-rest j b r =
        below_eq j (propagate p k) b.well_formed (propagate-well_formed k w)
        (propagate-greatest j k (at-rest_rests p j b.well_formed r) b.high) b.low

  -- Where less is left, an inconsistency stays
  pub inconsistent_mono : (j k : Domains) → j ⊑ k → Implies (inconsistent p k) (inconsistent p j)
  unfolding inconsistent empty
  inconsistent_mono j k h = search (some_mono, or_mono, and_mono, not_mono, may_overlap_mono j k h, may_before_mono j k h) depth 9
