-- One length searched, by the answer.
use Rattle.std.specs.Prelude.{◌≡◌, ◌+◌, ◌-◌, ◌≤◌, ◌<◌}
use Rattle.prelude.specs.Names.{true, sym, ap, ◌∙◌, subst, ℕ, suc, arith}
use Rattle.model.specs.Earliest.{steps_before, finish_from, earliest_finish}
use Rattle.model.specs.Turning.{Turnable}
use Rattle.refusal.specs.declared.Refusal.{Refusal}
use Rattle.instance.specs.Reads.{Full}
use Rattle.instance.specs.Valid.{valid}
use Rattle.instance.specs.Values.{opening_checkpoint}
use Rattle.instance.specs.declared.Checkpoint.{Checkpoint}
use Rattle.instance.specs.declared.Instance.{Instance}
use Rattle.turning.specs.Turned.{turnable_of}
use Rattle.search.specs.Results.{search_result}
use Rattle.search.specs.declared.answer.Answer.{Answer}
use Rattle.search.specs.declared.answer.Answer.TheVariants.{Packed, Infeasible, BudgetSpent, Refused}
use Rattle.search.specs.declared.answer.SearchResult.{SearchResult}
use Rattle.makespan.specs.declared.finish.Finish.{Finish}
use Rattle.makespan.specs.Results.{finish_of, spent_finish, packed_finish}
use Rattle.makespan.proofs.Openings.{before_twice}
use Rattle.makespan.proofs.Lengths.{with_shifts, steps-most, next-none, next-packed, next-spent, next-refused, steps-added, before-added}

-- n lengths are shown impossible, and `left` is left of the budget: what is asked for is what the lengths past them come to, after the steps taken.
-- j is the instance but for its shifts
pub record Trying (i j : Instance) (budget left n : ℕ) : Type 0 where
  pub same : j ≡ with_shifts i j.container.shifts
  pub afford : left ≤ budget
  pub asked : earliest_finish (turnable_of i) budget ≡ steps_before (budget - left) (finish_from (turnable_of i) (i.container.shifts - n) n left)

-- and r is what the search of the next length comes to
pub record Tried (i : Instance) (budget left n : ℕ) (r : SearchResult) : Type 0 where
  pub valid_value : valid i ≡ true
  pub full : Full i
  pub within : n < i.container.shifts
  pub afford : left ≤ budget
  pub asked : earliest_finish (turnable_of i) budget ≡ steps_before (budget - left) (finish_from (turnable_of i) (i.container.shifts - n) n left)
  pub searched : r ≡ search_result (with_shifts i (suc n)) opening_checkpoint left

pub tried-here : {i j : Instance} {budget left n : ℕ} {o : Checkpoint} {r : SearchResult} → Trying i j budget left n → valid i ≡ true
    → n < i.container.shifts → o ≡ opening_checkpoint → r ≡ search_result (with_shifts j (n + 1)) o left → Full (with_shifts j (n + 1))
    → Tried i budget left n r
tried-here {i} {j} {budget} {left} {n} τ v within opens h full =
    let at_length : with_shifts j (n + 1) ≡ with_shifts i (suc n) = ap (λ j. with_shifts j (n + 1)) τ.same ∙ ap (with_shifts i) (omega arith) in
    let f = subst Full at_length full in
    record {
      valid_value = v;
      full = record { items_room = f.items_room; precedences_room = f.precedences_room };
      within = within;
      afford = τ.afford;
      asked = τ.asked;
      searched = rw (opens, at_length) at h;
    }

module _ {i : Instance} {budget left n : ℕ} {r : SearchResult} (τ : Tried i budget left n r) where
  abbrev t : Turnable
  t = turnable_of i

  abbrev more : ℕ
  more = i.container.shifts - suc n

  abbrev taken : ℕ
  taken = budget - left

  abbrev asked : Finish
  asked = finish_of t (earliest_finish t budget)

  answer-is : {a : Answer} → r.answer ≡ a → (search_result (with_shifts i (suc n)) opening_checkpoint left).answer ≡ a
  answer-is e = ap (λ (r : SearchResult). r.answer) (sym τ.searched) ∙ e

  pub steps_fit : r.steps ≤ left
  steps_fit = subst (λ (r : SearchResult). r.steps ≤ left) (sym τ.searched) (steps-most i τ.valid_value τ.full n within left)
    where
      within : n < i.container.shifts
      within = τ.within

  rest-is : finish_from t (i.container.shifts - n) n left ≡ finish_from t (suc more) n left
  rest-is = let next : i.container.shifts - n ≡ suc more = omega (arith, τ.within) in rw next

  comes : {f : Finish} → finish_of t (finish_from t (suc more) n left) ≡ f → asked ≡ steps-added taken f
  comes e =
      ap (finish_of t) (τ.asked ∙ ap (steps_before taken) rest-is)
      ∙ (before-added t taken (finish_from t (suc more) n left) ∙ ap (steps-added taken) e)

  pub packed_here : r.answer ≡ Packed → packed_finish (n + 1) (taken + r.steps) r.packing ≡ asked
  unfolding packed_finish
  packed_here e =
      let next : suc n ≡ n + 1 = omega arith in
      sym (comes (next-packed i τ.valid_value τ.full n τ.within left more (answer-is e))
      ∙ (ap (λ (r : SearchResult). packed_finish (suc n) (taken + r.steps) r.packing) (sym τ.searched)
      ∙ ap (λ k. packed_finish k (taken + r.steps) r.packing) next))

  pub spent_here : r.answer ≡ BudgetSpent → spent_finish n budget ≡ asked
  unfolding spent_finish
  spent_here e =
      let all : taken + left ≡ budget = omega (arith, τ.afford) in
      sym (comes (next-spent i τ.valid_value τ.full n τ.within left more (answer-is e)) ∙ ap (spent_finish n) all)

  pub none_here : r.answer ≡ Infeasible
      → earliest_finish t budget ≡ steps_before (budget - (left - r.steps)) (finish_from t (i.container.shifts - (n + 1)) (n + 1) (left - r.steps))
  none_here e =
      let m = r.steps in
      let next : suc n ≡ n + 1 = omega arith in
      let sum : taken + m ≡ budget - (left - m) = omega (arith, τ.afford, steps_fit) in
      let later = subst (λ (r : SearchResult). finish_from t (suc more) n left ≡ steps_before r.steps (finish_from t more (suc n) (left - r.steps)))
      (sym τ.searched) (next-none i τ.valid_value τ.full n τ.within left more (answer-is e)) in
      rw (← next, ← sum) (τ.asked ∙ (ap (steps_before taken) (rest-is ∙ later) ∙ before_twice taken m (finish_from t more (suc n) (left - m))))

  pub refused-not : (e : Refusal) → r.answer ≡ Refused e → ⊥
  refused-not e h = next-refused i τ.valid_value τ.full n τ.within left e (answer-is h)
