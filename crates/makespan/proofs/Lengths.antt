-- The search of an instance with fewer shifts, as a value and in the model.
use Rattle.std.specs.Prelude.{◌≡◌, ◌+◌, ◌-◌, ◌*◌, ◌/◌, ◌%◌, ◌≤◌, ◌<◌}
use Rattle.prelude.specs.Names.{Bool, true, false, cond, refl, sym, ap, ◌∙◌, subst, ℕ, zero, suc, zero-add, le-leb}
use Rattle.prelude.specs.Names.{le-ltb, arith, leb, ltb, leb-true, length}
use mathlib.Core.Path.{fun_ext}
use native.Mathlib.Nat.{suc-mul, mod-lt, div-add-mod'}
use Rattle.model.proofs.Below.{Implies, implies_refl, and_mono}
use Rattle.model.proofs.Earliest.{shortened-sound, from-spent, from-none, from-packed}
use Rattle.model.proofs.Machine.{taken_is}
use Rattle.model.proofs.Theorems.{counted, spent_exactly, follows_invariant}
use Rattle.model.specs.Admits.{Sound}
use Rattle.model.specs.Earliest.{shortened, shifts_of, steps_before, finish_from, earliest_finish}
use Rattle.model.specs.Problem.{Problem, time}
use Rattle.model.specs.Run.{ChoiceCheckpoint, choice_opening, machine, step_count, ChoiceFollows}
use Rattle.model.specs.Turning.{Turnable, last_choice, Plan}
use Rattle.parts.specs.Sizes.{max_measure, in_range, size_in_range}
use Rattle.refusal.specs.declared.Refusal.{Refusal}
use Rattle.instance.specs.Meaning.{measure_on, problem_of}
use Rattle.instance.specs.Reads.{Full}
use Rattle.instance.specs.Valid.{valid}
use Rattle.instance.specs.Values.{opening_checkpoint}
use Rattle.instance.specs.declared.Instance.{Instance}
use Rattle.turning.specs.Turned.{may_turn_in, turnable_of}
use Rattle.tree_search.specs.Results.{positions_list}
use Rattle.search.specs.Results.{answer_number, answer_of, packing_of, packing_with, result_of, search_result}
use Rattle.search.specs.declared.answer.Answer.{Answer}
use Rattle.search.specs.declared.answer.Answer.TheVariants.{Packed, Infeasible, BudgetSpent, Refused}
use Rattle.search.specs.declared.answer.SearchResult.{SearchResult}
use Rattle.search.proofs.Claim.{opening-value, answer-small, call-held, zero-is-spent, one_is-packed, two_is-none}
use Rattle.opening.proofs.Sound.{valid-sound}
use Rattle.makespan.specs.declared.finish.Finish.{Finish}
use Rattle.makespan.specs.Results.{finish_of, spent_finish, packed_finish, choices_of, Conflicting, ConflictIf, LastConflict}
use Rattle.makespan.proofs.Openings.{skip, skip_short, conflicting_none, none_conflicting}
use Rattle.model.specs.Calls as C
use Rattle.model.specs.Earliest as M
use Rattle.model.specs.Run as R

-- the instance with so many shifts
abbrev pub with_shifts : Instance → ℕ → Instance
with_shifts i l = record {
  container = record { width = i.container.width; depth = i.container.depth; shifts = l };
  items = i.items;
  item_count = i.item_count;
  precedences = i.precedences;
  precedence_count = i.precedence_count;
  yard_number = i.yard_number;
  walkway = i.walkway;
}

module _ (i : Instance) (l : ℕ) where
  -- it means the shortened problem
  measures : (a : ℕ) → measure_on a (with_shifts i l).container ≡ cond (ltb a time) (measure_on a i.container) l
  measures zero = refl
  measures (suc zero) = refl
  measures (suc (suc a)) = rw (le-ltb (suc (suc a)) 2 (omega arith))

  shortened-given : problem_of (with_shifts i l) ≡ M.with_shifts (problem_of i) l
  unfolding problem_of
  shortened-given =
      ap (λ (m : ℕ → ℕ). record {
        items = (problem_of i).items;
        size = (problem_of i).size;
        capacity = m;
        walkway = (problem_of i).walkway;
        precedences = (problem_of i).precedences;
      })
      (fun_ext measures)

  pub shortened-problem : turnable_of (with_shifts i l) ≡ shortened (turnable_of i) l
  unfolding turnable_of
  shortened-problem = ap (λ (p : Problem). record { given = p; may_turn = may_turn_in i }) shortened-given

  -- it has as many choices
  pub same_choices : choices_of (turnable_of (with_shifts i l)) ≡ choices_of (turnable_of i)
  unfolding last_choice turnable_of problem_of
  same_choices = refl

  -- and is valid: a length up to its shifts is a measure
  pub shortened-valid : 1 ≤ l → l ≤ i.container.shifts → Implies (valid i) (valid (with_shifts i l))
  unfolding valid size_in_range in_range
  shortened-valid h k =
      let one : Implies (leb 1 i.container.shifts) (leb 1 l) = λ _. le-leb 1 l h in
      let most : Implies (leb i.container.shifts max_measure) (leb l max_measure) =
      λ e. le-leb l max_measure (omega (arith, leb-true i.container.shifts max_measure e)) in
      search (and_mono, implies_refl, one, most) depth 12

-- the opening checkpoint follows every instance
pub opening-follows : (i : Instance) → valid i ≡ true → length i.items ≡ 10 → ChoiceFollows (turnable_of i) choice_opening
unfolding turnable_of
opening-follows i v long = (follows_invariant (turnable_of i) (valid-sound i v long)).opens

-- The search of the length n + 1 from the opening, and what it makes of the lengths from there on
module _ (i : Instance) (v : valid i ≡ true) (full : Full i) (n : ℕ) (within : n < i.container.shifts) (budget : ℕ) where
  abbrev t : Turnable
  t = turnable_of i

  sound : Sound (shortened t (suc n)).given
  unfolding turnable_of
  sound = shortened-sound t (suc n) (valid-sound i v full.items_room)

  abbrev result : SearchResult
  result = search_result (with_shifts i (suc n)) opening_checkpoint budget

  abbrev tried : C.Result ChoiceCheckpoint Plan
  tried = R.search (shortened t (suc n)) budget choice_opening

  opens : ChoiceFollows (turnable_of (with_shifts i (suc n))) choice_opening
  opens = opening-follows (with_shifts i (suc n)) (shortened-valid i (suc n) (omega arith) within v) full.items_room

  pub searched : result ≡ result_of (shortened t (suc n)) tried
  searched =
      ap (λ c. search_result (with_shifts i (suc n)) c budget) (sym opening-value)
      ∙ (call-held (with_shifts i (suc n)) (shortened-valid i (suc n) (omega arith) within v) full.items_room choice_opening opens budget
      ∙ ap (λ q. result_of q (R.search q budget choice_opening)) (shortened-problem i (suc n)))

  -- its answer has the number of the model's
  number_is : {a : Answer} → result.answer ≡ a → answer_number (answer_of tried.answer) ≡ answer_number a
  unfolding result_of
  number_is e = ap (λ (r : SearchResult). answer_number r.answer) (sym searched) ∙ ap answer_number e

  steps_are : tried.steps ≡ result.steps
  unfolding result_of
  steps_are = ap (λ (r : SearchResult). r.steps) (sym searched)

  -- no more steps than the budget has
  pub steps-most : result.steps ≤ budget
  steps-most =
      let q = shortened t (suc n) in
      omega (arith, steps_are, taken_is (machine q) budget (step_count q) choice_opening (counted q sound))

  module _ (more : ℕ) where
    pub next-none : result.answer ≡ Infeasible
        → finish_from t (suc more) n budget ≡ steps_before result.steps (finish_from t more (suc n) (budget - result.steps))
    next-none e = from-none t more n budget result.steps steps_are (two_is-none tried.answer (number_is e))

    pub next-packed : result.answer ≡ Packed
        → finish_of t (finish_from t (suc more) n budget) ≡ packed_finish (suc n) result.steps result.packing
    unfolding finish_of packed_finish result_of packing_of positions_list
    next-packed e =
        let (q, is) = one_is-packed tried.answer (number_is e) in
        rw (from-packed t more n budget result.steps steps_are q is)
        (ap (λ x. record { answer = Packed; length = suc n; steps = result.steps; packing = x })
        (sym (ap (λ (r : SearchResult). r.packing) searched ∙ ap (packing_with (shortened t (suc n))) is)))

    pub next-spent : result.answer ≡ BudgetSpent → finish_of t (finish_from t (suc more) n budget) ≡ spent_finish n budget
    unfolding finish_of spent_finish
    next-spent e =
        let is = zero-is-spent tried.answer (number_is e) in
        rw (from-spent t more n budget budget (spent_exactly (shortened t (suc n)) budget choice_opening is) is) refl

  pub next-refused : (e : Refusal) → result.answer ≡ Refused e → ⊥
  next-refused r e = omega (arith, number_is e, answer-small tried.answer)

-- As many steps from the opening as there are choices say none exactly where the opening domains of every choice are inconsistent
abbrev pub says_none : Answer → Bool
says_none Packed = false
says_none Infeasible = true
says_none BudgetSpent = false
says_none (Refused e) = false

pub first-steps : (i : Instance) → valid i ≡ true → Full i
    → ConflictIf (turnable_of i) (says_none (search_result i opening_checkpoint (choices_of (turnable_of i))).answer)
unfolding result_of turnable_of
first-steps i v full =
    let t = turnable_of i in
    let is = ap (λ c. search_result i c (choices_of t)) (sym opening-value)
    ∙ call-held i v full.items_room choice_opening (opening-follows i v full.items_room) (choices_of t) in
    subst (λ (r : SearchResult). ConflictIf t (says_none r.answer)) (sym is) (told t (valid-sound i v full.items_room))
  where
    told : (t : Turnable) → Sound t.given → ConflictIf t (says_none (answer_of (R.search t (choices_of t) choice_opening).answer))
    told t σ = by (R.search t (choices_of t) choice_opening).answer refl
      where
        by : (a : C.Answer Plan) → (R.search t (choices_of t) choice_opening).answer ≡ a → ConflictIf t (says_none (answer_of a))
        by C.no_packing e = none_conflicting t σ e
        by C.budget_spent e = λ c. let d = sym e ∙ conflicting_none t σ c in let z : ◌≡◌ {A = ℕ} 0 1 = cc in omega arith
        by (C.packing q) e = λ c. let d = sym e ∙ conflicting_none t σ c in let z : ◌≡◌ {A = ℕ} 0 1 = cc in omega arith

-- m steps more than a finish has
abbrev pub steps-added : ℕ → Finish → Finish
steps-added m f = record { answer = f.answer; length = f.length; steps = m + f.steps; packing = f.packing }

pub before-added : (t : Turnable) (m : ℕ) (f : M.Finish) → finish_of t (steps_before m f) ≡ steps-added m (finish_of t f)
unfolding finish_of
before-added t m f = refl

-- The lengths known impossible, each in a step a choice, under a budget that lasts for them and under one that does not
module _ (t : Turnable) (σ : Sound t.given) (known budget : ℕ) (c : LastConflict t known) where
  all : earliest_finish t budget ≡ finish_from t (known + (shifts_of t - known)) 0 budget
  unfolding earliest_finish
  all = let sum : known + (shifts_of t - known) ≡ shifts_of t = omega (arith, c.most) in rw sum refl

  conflicts : (l : ℕ) → 0 < l → l ≤ 0 + known → Conflicting (shortened t l)
  conflicts l a b = c.up_to l a (omega arith)

  pub past_known : {before : ℕ} → before ≡ known * choices_of t → before ≤ budget
      → earliest_finish t budget ≡ steps_before (budget - (budget - before)) (finish_from t (shifts_of t - known) known (budget - before))
  past_known e h =
      let back : budget - (budget - known * choices_of t) ≡ known * choices_of t = omega arith in
      rw (e, back) (rw (zero-add known) at (all ∙ skip t σ known (shifts_of t - known) 0 budget conflicts (omega arith)))

  pub within_known : (j : ℕ) → j ≡ budget / choices_of t → j < known → spent_finish j budget ≡ finish_of t (earliest_finish t budget)
  unfolding finish_of spent_finish
  within_known j e h =
      let whole : budget / choices_of t * choices_of t + budget % choices_of t ≡ budget = div-add-mod' budget (choices_of t) in
      let part : budget % choices_of t < choices_of t = mod-lt budget (omega arith) in
      let m : suc j * choices_of t ≡ j * choices_of t + choices_of t = suc-mul j (choices_of t) in
      let same : j * choices_of t ≡ budget / choices_of t * choices_of t = ap (λ (k : ℕ). k * choices_of t) e in
      let low : j * choices_of t ≤ budget = omega arith in
      let high : budget < suc j * choices_of t = omega arith in
      sym (ap (finish_of t) (rw (zero-add j) at (all ∙ skip_short t σ known (shifts_of t - known) 0 budget j conflicts h low high)))
