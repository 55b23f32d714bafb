-- The earliest finish is right: one induction over the lengths, by the runs of the shortened problems.
use Rattle.std.specs.Prelude.{◌≡◌, ◌+◌, ◌-◌, ◌≤◌, ◌<◌}
use Rattle.prelude.specs.Names.{refl, sym, ap, ◌∙◌, subst, ℕ, zero, suc, eq-or-lt_of_le, ⊎_elim}
use Rattle.prelude.specs.Names.{le_refl, le_trans, le_of_suc-le-suc, zero-add, arith}
use Rattle.model.specs.Turning.{Turnable, Plan, Fits}
use Rattle.model.specs.Admits.{Sound}
use Rattle.model.specs.Machine.{Status, running, failed, succeeded}
use Rattle.model.specs.Search.{status}
use Rattle.model.specs.Calls.{Answer, budget_spent, no_packing, packing}
use Rattle.model.specs.Run.{plan_at, run_end, step_count}
use Rattle.model.specs.Earliest.{shortened, shifts_of, Finish, steps_before, finish_from, earliest_finish, steps_up_to, last_tried_from, finish_count}
use Rattle.model.specs.Earliest.{NoneBelow, NoneUpTo, Shown, Earliest}
use Rattle.model.proofs.Earliest.{shortened-sound, tried, too_few, refuted, found, from-spent, from-none, from-packed}

-- answers of three kinds
abbrev kind : {P : Type 0} → Answer P → ℕ
kind budget_spent = 0
kind no_packing = 1
kind (packing q) = 2

next_or : (s : Status) (x y : ℕ) → x ≤ y → x ≤ elim s as (λ _. ℕ) [ running ↦ x | failed ↦ y | succeeded ↦ x ]
next_or running x y h = le_refl x
next_or failed x y h = h
next_or succeeded x y h = le_refl x

module _ (t : Turnable) where
  -- the sum grows with the lengths
  pub sum_mono : (n m : ℕ) → n ≤ m → steps_up_to t n ≤ steps_up_to t m
  sum_mono n zero h = let e : n ≡ 0 = omega arith in rw e (le_refl 0)
  sum_mono n (suc m) h = ⊎_elim (λ e. rw e (le_refl _)) (λ l. omega (arith, sum_mono n m (omega arith))) (eq-or-lt_of_le h)

  module _ (σ : Sound t.given) where
    none-next : (n : ℕ) → NoneUpTo t n → ((q : Plan) → Fits (shortened t (suc n)) q → ⊥) → NoneUpTo t (suc n)
    none-next n none f l a b q fits =
        ⊎_elim (λ e. f q (subst (λ l. Fits (shortened t l) q) e fits)) (λ h. none l a h q fits) (eq-or-lt_of_le (le_of_suc-le-suc b))

    last_tried_next : (more shown : ℕ) (s : Status) → status (run_end (shortened t (suc shown))).state ≡ s
        → last_tried_from t (suc more) shown ≡ elim s [ running ↦ suc shown | failed ↦ last_tried_from t more (suc shown) | succeeded ↦ suc shown ]
    last_tried_next more shown s e = rw (e, last_tried_from)

    -- the last length tried is past those shown, where one is left to try
    last_tried_least : (more shown : ℕ) → shown ≤ last_tried_from t more shown
    last_tried_least zero shown = le_refl shown
    last_tried_least (suc more) shown =
        le_trans (omega arith) (next_or (status (run_end (shortened t (suc shown))).state) (suc shown) _ (last_tried_least more (suc shown)))

    last_tried_later : (more shown : ℕ) → suc shown ≤ last_tried_from t (suc more) shown
    last_tried_later more shown = next_or (status (run_end (shortened t (suc shown))).state) (suc shown) _ (last_tried_least more (suc shown))

    -- where the lengths up to `shown` took m steps, what comes of the others under the rest of a budget
    data Comes (more shown budget : ℕ) (f : Finish) : Type 0 where
      spends : (n : ℕ) → Shown t (steps_up_to t shown + budget) n → n < last_tried_from t more shown
          → f ≡ record { answer = budget_spent; length = n; steps = budget } → Comes more shown budget f
      places : (n m : ℕ) → shown < n → n ≤ shown + more → NoneBelow t n
          → Fits (shortened t n) (plan_at (shortened t n) (run_end (shortened t n))) → m ≤ budget
          → steps_up_to t shown + m ≡ steps_up_to t n → last_tried_from t more shown ≡ n
          → f ≡ record { answer = packing (plan_at (shortened t n) (run_end (shortened t n))); length = n; steps = m } → Comes more shown budget f
      none : (n m : ℕ) → n ≡ shown + more → NoneUpTo t n → m ≤ budget → steps_up_to t shown + m ≡ steps_up_to t n
          → last_tried_from t more shown ≡ n → f ≡ record { answer = no_packing; length = 0; steps = m } → Comes more shown budget f

    comes : (more shown budget : ℕ) → NoneUpTo t shown → Comes more shown budget (finish_from t more shown budget)
    comes zero shown budget so_far = none shown 0 (omega arith) so_far (omega arith) (omega arith) refl refl
    comes (suc more) shown budget so_far = elim (tried (shortened t (suc shown)) (shortened-sound t (suc shown) σ) budget) [
      | too_few h a takes-m ↦
          spends shown (record { impossible = so_far; reached = omega arith; greatest = omega arith }) (last_tried_later more shown)
          (from-spent t more shown budget budget takes-m a)
      | refuted h a takes-m s f ↦
          let c : ℕ = step_count (shortened t (suc shown)) in
          let later = from-none t more shown budget c takes-m a in
          let last = last_tried_next more shown failed s in
          elim (comes more (suc shown) (budget - c) (none-next shown so_far f)) [
            | spends n z l e ↦ spends n (record { impossible = z.impossible; reached = omega (arith, z.reached); greatest = omega (arith, z.greatest) })
                (omega arith) (later ∙ (ap (steps_before c) e ∙ ap (λ m. record { answer = budget_spent; length = n; steps = m }) (omega arith)))
            | places n m x y z q g i j e ↦
                places n (c + m) (omega arith) (omega arith) z q (omega arith) (omega arith) (last ∙ j) (later ∙ ap (steps_before c) e)
            | none n m x z g i j e ↦ none n (c + m) (omega arith) z (omega arith) (omega arith) (last ∙ j) (later ∙ ap (steps_before c) e)
          ]
      | found h a takes-m s f ↦
          places (suc shown) (step_count (shortened t (suc shown))) (omega arith) (omega arith) so_far f h refl (last_tried_next more shown succeeded s)
          (from-packed t more shown budget _ takes-m _ a)
    ]

    abbrev all : ℕ
    all = shifts_of t

    -- the theorem
    pub earliest_right : (budget : ℕ) → Earliest t budget (earliest_finish t budget)
    unfolding earliest_finish finish_count
    earliest_right budget = elim (comes all 0 budget (λ l a b. absurd (omega arith))) [
      | spends n s l e ↦ subst (Earliest t budget) (sym e) (
          let below : budget < steps_up_to t (last_tried_from t all 0) = omega (arith, s.greatest, sum_mono (suc n) (last_tried_from t all 0) l) in
          record {
            spent = ((λ _. below), (λ _. refl));
            takes = omega arith;
            shown = λ _. rw zero-add at s;
            placed = λ q d. absurd (omega (arith, ap kind d));
            none = λ d. absurd (omega (arith, ap kind d));
            none_exactly = λ h. absurd (omega arith);
          })
      | places n m x y z q g i j e ↦ subst (Earliest t budget) (sym e) (
          let all-of-them : steps_up_to t (last_tried_from t all 0) ≡ m = ap (steps_up_to t) j ∙ omega arith in
          record {
            spent = ((λ d. absurd (omega (arith, ap kind d))), (λ h. absurd (omega arith)));
            takes = omega arith;
            shown = λ d. absurd (omega (arith, ap kind d));
            placed = λ r d.
                let same : plan_at (shortened t n) (run_end (shortened t n)) ≡ r = cc in
                (record { least = x; most = omega arith; fits = subst (Fits (shortened t n)) same q; shorter = z; plan = sym same }, omega arith);
            none = λ d. absurd (omega (arith, ap kind d));
            none_exactly = λ h. ((λ d. absurd (omega (arith, ap kind d))), (λ f. absurd (f n x (omega arith) _ q)));
          })
      | none n m x z g i j e ↦ subst (Earliest t budget) (sym e) (
          let all-of-them : steps_up_to t (last_tried_from t all 0) ≡ m = ap (steps_up_to t) j ∙ omega arith in
          let last : n ≡ all = omega arith in
          record {
            spent = ((λ d. absurd (omega (arith, ap kind d))), (λ h. absurd (omega arith)));
            takes = omega arith;
            shown = λ d. absurd (omega (arith, ap kind d));
            placed = λ r d. absurd (omega (arith, ap kind d));
            none = λ d. (subst (NoneUpTo t) last z, refl, omega (arith, ap (steps_up_to t) last));
            none_exactly = λ h. ((λ d. subst (NoneUpTo t) last z), (λ f. refl));
          })
    ]
