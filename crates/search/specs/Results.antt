-- One call of the search as a value (document 01, "The search"; choices and marks: document 02, #106).
use Rattle.std.specs.Prelude.{◌&&◌, ◌≡◌, ◌+◌}
use Rattle.prelude.specs.Names.{Bool, true, false, List, [], ℕ, ltb}
use Rattle.model.specs.Turning.{Turnable, Plan}
use Rattle.model.specs.Run.{ChoiceCheckpoint, choice_follows}
use Rattle.refusal.specs.declared.Refusal.{Refusal}
use Rattle.refusal.specs.declared.Refusal.TheVariants.{InvalidInstance, NotFollowing}
use Rattle.instance.specs.Valid.{valid}
use Rattle.instance.specs.Values.{origin_packing}
use Rattle.instance.specs.declared.Checkpoint.{Checkpoint}
use Rattle.instance.specs.declared.Instance.{Instance}
use Rattle.instance.specs.declared.Packing.{Packing}
use Rattle.instance.specs.declared.Position.{Position}
use Rattle.instance.specs.declared.Status.{Status}
use Rattle.turning.specs.Turned.{turnable_of, mark_of, each_of_ten, choice_marks}
use Rattle.tree_paths.specs.Checkpoints.{branches_of, checkpoint_of, following, Following, value_of}
use Rattle.tree_search.specs.Results.{positions_list}
use Rattle.tree_search.specs.declared.outcome.TreeResult.{TreeResult}
use Rattle.search.specs.declared.answer.Answer.{Answer}
use Rattle.search.specs.declared.answer.Answer.TheVariants.{Packed, Infeasible, BudgetSpent, Refused}
use Rattle.search.specs.declared.answer.SearchResult.{SearchResult}
use Rattle.model.specs.Calls as C
use Rattle.model.specs.Run as R
use Rattle.refusal.specs.Numbers as N
use Rattle.tree_search.specs.declared.outcome.Outcome.{Outcome}

-- "It returns 0 spent, 1 placed, 2 none, or a refusal as check does": "100 plus the number for a refusal"
abbrev pub answer_number : Answer → ℕ
answer_number BudgetSpent = 0
answer_number Packed = 1
answer_number Infeasible = 2
answer_number (Refused e) = 100 + N.number_of e

-- "It answers placed with the plan, none, or spent"
abbrev pub answer_of : C.Answer Plan → Answer
answer_of C.budget_spent = BudgetSpent
answer_of C.no_packing = Infeasible
answer_of (C.packing q) = Packed

-- the marks of n items: "ignored or 0 wherever a position is"
unfoldable pub marks_list : ℕ → (ℕ → Bool) → List ℕ
marks_list n marks = each_of_ten (λ u. mark_of (ltb u n && marks u))

-- the packing of a plan: "those past the sheet's count .. are 0 when the search returns them"
unfoldable pub packing_of : Turnable → Plan → Packing
packing_of t q = record { positions = positions_list t.given q.positions; marks = marks_list t.given.items q.marks }

-- "Where a search doesn't answer placed, all ten are 0"
abbrev pub packing_with : Turnable → C.Answer Plan → Packing
packing_with t C.budget_spent = origin_packing
packing_with t C.no_packing = origin_packing
packing_with t (C.packing q) = packing_of t q

-- "each with the note and the steps taken"
unfoldable pub result_of : Turnable → C.Result ChoiceCheckpoint Plan → SearchResult
result_of t r = record {
  answer = answer_of r.answer;
  steps = r.steps;
  checkpoint = value_of r.checkpoint;
  packing = packing_with t r.answer;
}

-- "a refused search hands its note back with 0 steps"
unfoldable pub result_refused : Refusal → Checkpoint → SearchResult
result_refused e c = record { answer = Refused e; steps = 0; checkpoint = c; packing = origin_packing }

-- 10: "a note that doesn't follow its sheet"; s is what the checkpoint c holds
abbrev pub followed_if : Bool → Turnable → ℕ → Checkpoint → ChoiceCheckpoint → SearchResult
followed_if true t budget c s = result_of t (R.search t budget s)
followed_if false t budget c s = result_refused NotFollowing c

abbrev pub followed : Turnable → ℕ → Checkpoint → ChoiceCheckpoint → SearchResult
followed t budget c s = followed_if (choice_follows t s) t budget c s

-- "9 is tested before .. 10"
abbrev pub result_if : Bool → Turnable → Checkpoint → ℕ → SearchResult
result_if true t c budget = followed_if (following t c) t budget c (checkpoint_of c)
result_if false t c budget = result_refused InvalidInstance c

unfoldable pub search_result : Instance → Checkpoint → ℕ → SearchResult
search_result i c budget = result_if (valid i) (turnable_of i) c budget

-- The table's conditions for a call in values, in their order
pub data SearchFault (i : Instance) (c : Checkpoint) (n : ℕ) : Type 0 where
  -- 9: "a sheet value with over 10 pieces, over 90 orders, a measure 0, or an order that would get 5 or 6"; or a measure above 4,095
  nine : valid i ≡ false → n ≡ 9 → SearchFault i c n
  -- 10: "a note that doesn't follow its sheet", "a choice beyond the last, or not the last in a none note"
  ten : valid i ≡ true → (Following (turnable_of i) c → ⊥) → n ≡ 10 → SearchFault i c n

-- the results of a call that is not refused, as the code makes them
abbrev pub noted : Status → ℕ → List ℕ → ℕ → Checkpoint
noted s n bs choice = record { status = s; length = n; branches = bs; choice = choice }

unfoldable pub infeasible_after : ℕ → ℕ → SearchResult
infeasible_after m choice =
    record { answer = Infeasible; steps = m; checkpoint = noted Status.Infeasible 0 (branches_of []) choice; packing = origin_packing }

unfoldable pub spent_after : ℕ → List ℕ → ℕ → ℕ → SearchResult
spent_after m bs n choice = record { answer = BudgetSpent; steps = m; checkpoint = noted Status.Open n bs choice; packing = origin_packing }

unfoldable pub packed_after : ℕ → List ℕ → ℕ → ℕ → List Position → List ℕ → SearchResult
packed_after m bs n choice q marks =
    record { answer = Packed; steps = m; checkpoint = noted Status.Packed n bs choice; packing = record { positions = q; marks = marks } }

-- what the search of one choice comes to, after m steps in the choices before it
abbrev pub answer_with : Outcome → Turnable → Checkpoint → ℕ → ℕ → TreeResult → SearchResult
answer_with Outcome.Packed t c choice m r = packed_after (m + r.steps) r.branches r.length choice r.positions (choice_marks t choice)
answer_with Outcome.Infeasible t c choice m r = infeasible_after (m + r.steps) choice
answer_with Outcome.Spent t c choice m r = spent_after (m + r.steps) r.branches r.length choice
answer_with Outcome.NotFollowing t c choice m r = result_refused NotFollowing c

abbrev pub answer_in : Turnable → Checkpoint → ℕ → ℕ → TreeResult → SearchResult
answer_in t c choice m r = answer_with r.outcome t c choice m r
