-- The check's answer says whether the packing is feasible with the marked items turned, and so whether it fits as a plan.
use Rattle.std.specs.Prelude.{◌↔◌, ◌≡◌, ◌+◌, ◌≤◌, ◌<◌, Result}
use Rattle.prelude.specs.Names.{Bool, true, false, false≢true, refl, sym, subst, ◌∙◌, ℕ, arith, get_or}
use Rattle.model.proofs.Feasible.{feasible_exactly}
use Rattle.model.specs.Turning.{Fits}
use Rattle.instance.specs.declared.Instance.{Instance}
use Rattle.instance.specs.declared.Packing.{Packing}
use Rattle.instance.specs.Valid.{valid}
use Rattle.instance.specs.Meaning.{positions_of}
use Rattle.turning.specs.Turned.{turnable_of, plan_of, marks_allowed, MarksAllowed}
use Rattle.turning.proofs.Marks.{marks_exactly, marks_fit, fit_marks}
use Rattle.refusal.specs.declared.Refusal.{Refusal}
use Rattle.packing.specs.Check.{check_answer_if, turned_by, check_answer, check_number, CheckFault, Decides}
use Rattle.model.specs.Problem as M

-- the numbers by the three tests: v, that the value is an instance, m, that the marks are allowed, and f, that the packing is feasible
module _ (M F : Type 0) where
  yes_by : (v m f : Bool) → (m ≡ true) ↔ M → (f ≡ true) ↔ F → (check_number (check_answer_if v m f) ≡ 1) ↔ ((v ≡ true) × M × F)
  yes_by false m f marked exact = ((λ e. absurd (omega arith)), (λ (v, g, h). absurd (false≢true v)))
  yes_by true false f marked exact = ((λ e. absurd (omega arith)), (λ (v, g, h). absurd (false≢true (marked.1 g))))
  yes_by true true true marked exact = ((λ e. (refl, marked.0 refl, exact.0 refl)), (λ _. refl))
  yes_by true true false marked exact = ((λ e. absurd (omega arith)), (λ (v, g, h). absurd (false≢true (exact.1 h))))

  no_by : (v m f : Bool) → (m ≡ true) ↔ M → (f ≡ true) ↔ F → (check_number (check_answer_if v m f) ≡ 0) ↔ ((v ≡ true) × M × (F → ⊥))
  no_by false m f marked exact = ((λ e. absurd (omega arith)), (λ (v, g, h). absurd (false≢true v)))
  no_by true false f marked exact = ((λ e. absurd (omega arith)), (λ (v, g, h). absurd (false≢true (marked.1 g))))
  no_by true true true marked exact = ((λ e. absurd (omega arith)), (λ (v, g, h). absurd (h (exact.0 refl))))
  no_by true true false marked exact = ((λ e. (refl, marked.0 refl, λ h. false≢true (exact.1 h))), (λ _. refl))

module _ (i : Instance) (q : Packing) where
  abbrev fits : Bool
  fits = M.feasible (turned_by i q) (positions_of q)

  -- the refusal by the tests
  fault_by : (v m f : Bool) → valid i ≡ v → (m ≡ true) ↔ MarksAllowed i q.marks → (n : ℕ)
      → check_number (check_answer_if v m f) ≡ 100 + n → CheckFault i q n
  fault_by false m f w marked n e = CheckFault.nine w (omega arith)
  fault_by true false f w marked n e = CheckFault.thirteen w (λ g. false≢true (marked.1 g)) (omega arith)
  fault_by true true true w marked n e = absurd (omega arith)
  fault_by true true false w marked n e = absurd (omega arith)

  refused_by : (v m f : Bool) → valid i ≡ v → (m ≡ true) ↔ MarksAllowed i q.marks → (n : ℕ)
      → CheckFault i q n → check_number (check_answer_if v m f) ≡ 100 + n
  refused_by false m f w marked n (CheckFault.nine z k) = omega arith
  refused_by true m f w marked n (CheckFault.nine z k) = absurd (false≢true (sym z ∙ w))
  refused_by false m f w marked n (CheckFault.thirteen z g k) = absurd (false≢true (sym w ∙ z))
  refused_by true false f w marked n (CheckFault.thirteen z g k) = omega arith
  refused_by true true f w marked n (CheckFault.thirteen z g k) = absurd (g (marked.0 refl))

  pub decides : Decides i q (check_answer i q)
  unfolding check_answer
  decides =
      let exact = feasible_exactly (turned_by i q) (positions_of q) in
      let marked = marks_exactly i q.marks in
      let allowed = marks_allowed i q.marks in
      record {
        yes = yes_by _ _ (valid i) allowed fits marked exact;
        refused = λ n. (fault_by (valid i) allowed fits refl marked n, refused_by (valid i) allowed fits refl marked n);
      }

  -- 0, "no": exactly for an instance and a packing with marks that are allowed, which is not feasible in it with the marked items turned
  pub no_exactly : (check_number (check_answer i q) ≡ 0)
      ↔ ((valid i ≡ true) × MarksAllowed i q.marks × (M.Feasible (turned_by i q) (positions_of q) → ⊥))
  unfolding check_answer
  no_exactly = no_by _ _ (valid i) (marks_allowed i q.marks) fits (marks_exactly i q.marks) (feasible_exactly (turned_by i q) (positions_of q))

  -- "yes" for a plan that fits, and for it alone
  pub yes_fits : check_number (check_answer i q) ≡ 1 → Fits (turnable_of i) (plan_of q)
  yes_fits e = let (v, marked, f) = decides.yes.0 e in marks_fit i q marked f

  pub fits-yes : valid i ≡ true → ((u : ℕ) → u < i.item_count → get_or q.marks u 0 ≤ 1) → Fits (turnable_of i) (plan_of q)
      → check_number (check_answer i q) ≡ 1
  unfolding turnable_of
  fits-yes v small f = decides.yes.1 (v, fit_marks i q small f, f.feasible)

  -- of what the check answers
  pub decides_by : (r : Result Bool Refusal) → r ≡ check_answer i q → Decides i q r
  decides_by r e = subst (Decides i q) (sym e) decides
