-- The earliest finish, one length after another: what one search of a shortened problem comes to, and what the definition makes of it.
use Rattle.std.specs.Prelude.{◌≡◌, ◌-◌, ◌≤◌, ◌<◌}
use Rattle.prelude.specs.Names.{sym, ap, ◌∙◌, subst, ℕ, suc, min, dec_lt}
use Rattle.prelude.specs.Names.{le_refl, le_trans, arith}
use Rattle.model.specs.Problem.{EndsBefore, EndsAhead, spacing}
use Rattle.model.specs.Turning.{Turnable, Plan, Fits}
use Rattle.model.specs.Admits.{Sound}
use Rattle.model.specs.Machine.{Status, failed, succeeded, steps}
use Rattle.model.specs.Search.{status}
use Rattle.model.specs.Calls.{budget_spent, no_packing, packing, answer_by}
use Rattle.model.specs.Run.{ChoiceCheckpoint, choice_opening, machine, plan_at, search, run_end, step_count}
use Rattle.model.specs.Earliest.{shortened, shifts_of, steps_before, finish_from}
use Rattle.model.proofs.Below.{below_three}
use Rattle.model.proofs.Machine.{running_is, taken_is}
use Rattle.model.proofs.Theorems.{ends_infeasible, ends_packed, run_ends, run_after, counted}

pub shortened-sound : (t : Turnable) (l : ℕ) → Sound t.given → Sound (shortened t l).given
shortened-sound t l σ = record { limited = σ.limited; positive = σ.positive; named = σ.named }

-- what fits in less time fits in more
pub fits_longer : (t : Turnable) (l : ℕ) → l ≤ shifts_of t → (q : Plan) → Fits (shortened t l) q → Fits t q
unfolding EndsBefore EndsAhead spacing
fits_longer t l h q f = record {
  allowed = f.allowed;
  feasible = record {
    inside = λ a u la lu. le_trans (f.feasible.inside a u la lu) (below_three (λ a. (shortened t l).given.capacity a ≤ t.given.capacity a)
        (le_refl _) (le_refl _) h a la);
    apart = f.feasible.apart;
    ordered = f.feasible.ordered;
  };
}

abbrev choice-status : ChoiceCheckpoint → Status
choice-status s = status s.state

-- One search from the opening: its budget is below the step count; or it answers as the run does, after as many steps
pub data Tried (t : Turnable) (budget : ℕ) : Type 0 where
  too_few : budget < step_count t → (search t budget choice_opening).answer ≡ budget_spent → (search t budget choice_opening).steps ≡ budget → Tried t budget
  refuted : step_count t ≤ budget → (search t budget choice_opening).answer ≡ no_packing → (search t budget choice_opening).steps ≡ step_count t
      → status (run_end t).state ≡ failed → ((q : Plan) → Fits t q → ⊥) → Tried t budget
  found : step_count t ≤ budget → (search t budget choice_opening).answer ≡ packing (plan_at t (run_end t))
      → (search t budget choice_opening).steps ≡ step_count t
      → status (run_end t).state ≡ succeeded → Fits t (plan_at t (run_end t)) → Tried t budget

pub tried : (t : Turnable) → Sound t.given → (budget : ℕ) → Tried t budget
tried t σ budget = elim (dec_lt budget (step_count t)) [
  | yes h ↦ too_few h (answers (running_is _ ((counted t σ).before budget h))) (omega (arith, takes))
  | no h ↦
      let end : steps (machine t) budget choice_opening ≡ run_end t = run_after t σ budget (omega arith) in
      elim (run_ends t σ) [
        | ends_infeasible e f ↦ refuted (omega arith) (answers (ap choice-status (end ∙ e))) (omega (arith, takes)) (ap choice-status e) f
        | ends_packed c path l e f ↦
            found (omega arith) (answers (ap choice-status (end ∙ e)) ∙ ap (λ κ. packing (plan_at t κ)) end) (omega (arith, takes)) (ap choice-status e)
            (subst (λ κ. Fits t (plan_at t κ)) (sym e) f)
      ]
]
  where
    takes : (search t budget choice_opening).steps ≡ min budget (step_count t)
    takes = taken_is (machine t) budget (step_count t) choice_opening (counted t σ)

    answers : {s : Status} → choice-status (steps (machine t) budget choice_opening) ≡ s
        → (search t budget choice_opening).answer ≡ answer_by s (plan_at t (steps (machine t) budget choice_opening))
    answers e = ap (λ s. answer_by s (plan_at t (steps (machine t) budget choice_opening))) e

module _ (t : Turnable) where
  -- what `finish_from` comes to, by the search of the next length
  module _ (more shown budget m : ℕ) (takes-m : (search (shortened t (suc shown)) budget choice_opening).steps ≡ m) where
    pub from-spent : (search (shortened t (suc shown)) budget choice_opening).answer ≡ budget_spent
        → finish_from t (suc more) shown budget ≡ record { answer = budget_spent; length = shown; steps = m }
    from-spent e = rw (e, takes-m, finish_from)

    pub from-none : (search (shortened t (suc shown)) budget choice_opening).answer ≡ no_packing
        → finish_from t (suc more) shown budget ≡ steps_before m (finish_from t more (suc shown) (budget - m))
    from-none e = rw (e, takes-m, finish_from)

    pub from-packed : (q : Plan) → (search (shortened t (suc shown)) budget choice_opening).answer ≡ packing q
        → finish_from t (suc more) shown budget ≡ record { answer = packing q; length = suc shown; steps = m }
    from-packed q e = rw (e, takes-m, finish_from)
