-- The test of the marks says whether they may stand on the items, and they may in a plan that fits.
use Rattle.std.specs.Prelude.{◌&&◌, ◌⊎◌, ◌↔◌, ◌≡◌, ◌≤◌, ◌<◌}
use Rattle.prelude.specs.Names.{Bool, true, inl, inr, List, refl, sym, ◌∙◌, ℕ, zero, suc, arith, eqb, get_or, eq-eqb, eqb-true}
use Rattle.model.specs.Problem.{Feasible}
use Rattle.model.specs.Turning.{turned, Fits}
use Rattle.model.proofs.Below.{and_both, or_case, all-at, all_of}
use Rattle.parts.specs.Sizes.{no_item}
use Rattle.instance.specs.declared.Instance.{Instance}
use Rattle.instance.specs.declared.Packing.{Packing}
use Rattle.instance.specs.Meaning.{problem_of, positions_of}
use Rattle.turning.specs.Turned.{turnable_of, marks_in, plan_of, mark_allowed, marks_allowed, MarksAllowed}
use Rattle.turning.proofs.Counts.{may_turn-at}

-- one mark
mark_says : (b : Bool) (m : ℕ) → mark_allowed b m ≡ true → (m ≡ 0) ⊎ ((m ≡ 1) × (b ≡ true))
mark_says b m h = by (or_case (eqb m 0) (eqb m 1 && b) h)
  where
    by : (eqb m 0 ≡ true) ⊎ ((eqb m 1 && b) ≡ true) → (m ≡ 0) ⊎ ((m ≡ 1) × (b ≡ true))
    by (inl z) = inl (eqb-true m 0 z)
    by (inr o) = let (e, t) = and_both (eqb m 1) b o in inr (eqb-true m 1 e, t)

mark_stands : (b : Bool) (m : ℕ) → (m ≡ 0) ⊎ ((m ≡ 1) × (b ≡ true)) → mark_allowed b m ≡ true
mark_stands b m (inl e) = rw e
mark_stands b m (inr (e, h)) = rw (e, h)

pub marks_exactly : (i : Instance) (marks : List ℕ) → (marks_allowed i marks ≡ true) ↔ MarksAllowed i marks
unfolding marks_allowed
marks_exactly i marks = (
  (λ h u l. mark_says (turns u) (mark u) (all-at n (λ u. mark_allowed (turns u) (mark u)) h u l)),
  (λ h. all_of n (λ u. mark_allowed (turns u) (mark u)) (λ u l. mark_stands (turns u) (mark u) (h u l))),
)
  where
    n : ℕ
    n = i.item_count

    turns : ℕ → Bool
    turns u = (get_or i.items u no_item).may_turn

    mark : ℕ → ℕ
    mark u = get_or marks u 0

module _ (i : Instance) (q : Packing) where
  pub marks_fit : MarksAllowed i q.marks → Feasible (turned (problem_of i) (marks_in q.marks)) (positions_of q) → Fits (turnable_of i) (plan_of q)
  unfolding turnable_of problem_of
  marks_fit h f = record { allowed = λ u l m. may_turn-at i.item_count i.items u l ∙ marked (h u l) (eqb-true _ 1 m); feasible = f }
    where
      marked : {m : ℕ} {b : Bool} → (m ≡ 0) ⊎ ((m ≡ 1) × (b ≡ true)) → m ≡ 1 → b ≡ true
      marked (inl z) e = absurd (omega arith)
      marked (inr (o, b)) e = b

  pub fit_marks : ((u : ℕ) → u < i.item_count → get_or q.marks u 0 ≤ 1) → Fits (turnable_of i) (plan_of q) → MarksAllowed i q.marks
  unfolding turnable_of problem_of
  fit_marks h f u l = by (get_or q.marks u 0) (h u l) (λ m. sym (may_turn-at i.item_count i.items u l) ∙ f.allowed u l (eq-eqb _ 1 m))
    where
      by : (m : ℕ) {b : Bool} → m ≤ 1 → (m ≡ 1 → b ≡ true) → (m ≡ 0) ⊎ ((m ≡ 1) × (b ≡ true))
      by zero h g = inl refl
      by (suc zero) h g = inr (refl, g refl)
      by (suc (suc m)) h g = absurd (omega arith)
