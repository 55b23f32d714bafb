-- The earliest finish as a value (document 02, #103).
use Rattle.std.specs.Prelude.{◌⊎◌, ◌≡◌, ◌≤◌}
use Rattle.prelude.specs.Names.{Bool, true, false, [], ℕ, suc}
use Rattle.model.specs.Turning.{Turnable, choice_problem, last_choice}
use Rattle.model.specs.Search.{conflict}
use Rattle.model.specs.Run.{look}
use Rattle.model.specs.Earliest.{shortened, shifts_of, earliest_finish}
use Rattle.refusal.specs.declared.Refusal.{Refusal}
use Rattle.refusal.specs.declared.Refusal.TheVariants.{InvalidInstance}
use Rattle.instance.specs.Valid.{valid}
use Rattle.instance.specs.Values.{origin_packing}
use Rattle.instance.specs.declared.Instance.{Instance}
use Rattle.instance.specs.declared.Packing.{Packing}
use Rattle.turning.specs.Turned.{turnable_of}
use Rattle.search.specs.Results.{answer_of, packing_with}
use Rattle.search.specs.declared.answer.Answer.TheVariants.{Packed, Infeasible, BudgetSpent, Refused}
use Rattle.makespan.specs.declared.finish.Finish.{Finish}
use Rattle.model.specs.Earliest as M

-- "The answer is the first length with a placement, with its plan; or none; or spent, with the greatest length already shown impossible".
-- Where it is not placed, all ten positions are 0
unfoldable pub finish_of : Turnable → M.Finish → Finish
finish_of t f = record { answer = answer_of f.answer; length = f.length; steps = f.steps; packing = packing_with t f.answer }

unfoldable pub finish_refused : Refusal → Finish
finish_refused e = record { answer = Refused e; length = 0; steps = 0; packing = origin_packing }

-- 9, and nothing else
abbrev pub finish_if : Bool → Turnable → ℕ → Finish
finish_if true t budget = finish_of t (earliest_finish t budget)
finish_if false t budget = finish_refused InvalidInstance

unfoldable pub finish_result : Instance → ℕ → Finish
finish_result i budget = finish_if (valid i) (turnable_of i) budget

-- the others as the code makes them
unfoldable pub spent_finish : ℕ → ℕ → Finish
spent_finish n m = record { answer = BudgetSpent; length = n; steps = m; packing = origin_packing }

unfoldable pub no_finish : ℕ → Finish
no_finish m = record { answer = Infeasible; length = 0; steps = m; packing = origin_packing }

unfoldable pub packed_finish : ℕ → ℕ → Packing → Finish
packed_finish n m q = record { answer = Packed; length = n; steps = m; packing = q }

-- how many choices there are, at every length
abbrev pub choices_of : Turnable → ℕ
choices_of t = suc (last_choice t)

-- the opening domains of every choice are inconsistent, or they are not
abbrev pub Conflicting : Turnable → Type 0
Conflicting t = (c : ℕ) → c ≤ last_choice t → look (choice_problem t c) [] ≡ conflict

abbrev pub ConflictIf : Turnable → Bool → Type 0
ConflictIf t true = Conflicting t
ConflictIf t false = Conflicting t → ⊥

-- n is the greatest length at which they are, 0 if there is none: so they are at every length from 1 to n
pub record LastConflict (t : Turnable) (n : ℕ) : Type 0 where
  pub most : n ≤ shifts_of t
  pub up_to : (l : ℕ) → 1 ≤ l → l ≤ n → Conflicting (shortened t l)
  pub greatest : (n ≡ shifts_of t) ⊎ (Conflicting (shortened t (suc n)) → ⊥)
