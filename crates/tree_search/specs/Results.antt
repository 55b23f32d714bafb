-- One call of the search of a problem as a value (document 01, "The search").
use Rattle.std.specs.Prelude.{◌∷◌}
use Rattle.prelude.specs.Names.{Bool, true, false, List, [], map, ℕ, ltb, length, replicate}
use Rattle.model.specs.Problem.{Problem, Positions}
use Rattle.instance.specs.Values.{origin}
use Rattle.instance.specs.declared.Position.{Position}
use Rattle.sheet.specs.Sheet.{max_items}
use Rattle.tree_paths.specs.Checkpoints.{branches_of}
use Rattle.tree_search.specs.declared.outcome.Outcome.{Outcome}
use Rattle.tree_search.specs.declared.outcome.Outcome.TheVariants.{Packed, Infeasible, Spent, NotFollowing}
use Rattle.tree_search.specs.declared.outcome.TreeResult.{TreeResult}
use Rattle.model.specs.Calls as C
use Rattle.model.specs.Run as R
use Rattle.model.specs.Search as S

-- "It answers placed with the plan, none, or spent"
abbrev pub outcome_of : C.Answer Positions → Outcome
outcome_of C.budget_spent = Spent
outcome_of C.no_packing = Infeasible
outcome_of (C.packing q) = Packed

-- "those past the sheet's count .. are 0 when the search returns them"
abbrev pub position_if : Bool → Positions → ℕ → Position
position_if true q u = record { x = q 0 u; y = q 1 u; t = q 2 u }
position_if false q u = origin

abbrev pub position_of : ℕ → Positions → ℕ → Position
position_of n q u = position_if (ltb u n) q u

unfoldable pub positions_list : Problem → Positions → List Position
positions_list p q = map (position_of p.items q) (0 ∷ 1 ∷ 2 ∷ 3 ∷ 4 ∷ 5 ∷ 6 ∷ 7 ∷ 8 ∷ 9 ∷ [])

-- "Where a search doesn't answer placed, all ten are 0"
unfoldable pub origins : List Position
origins = replicate max_items origin

abbrev pub positions_with : Problem → C.Answer Positions → List Position
positions_with p C.budget_spent = origins
positions_with p C.no_packing = origins
positions_with p (C.packing q) = positions_list p q

-- "each with the note and the steps taken"
unfoldable pub result_of : Problem → C.Result S.Checkpoint Positions → TreeResult
result_of p r = record {
  outcome = outcome_of r.answer;
  steps = r.steps;
  length = length (S.checkpoint_path r.checkpoint);
  branches = branches_of (S.checkpoint_path r.checkpoint);
  positions = positions_with p r.answer;
}

-- an outcome after so many steps, at a path of n branches, and all items at the origin
abbrev pub ended : Outcome → ℕ → List ℕ → ℕ → TreeResult
ended o m bs n = record { outcome = o; steps = m; length = n; branches = bs; positions = origins }

-- a path that does not follow the problem
unfoldable pub not_following : TreeResult
not_following = record { outcome = NotFollowing; steps = 0; length = 0; branches = branches_of []; positions = origins }

-- the results of a call that follows, as the code makes them
unfoldable pub infeasible_after : ℕ → TreeResult
infeasible_after m = record { outcome = Infeasible; steps = m; length = 0; branches = branches_of []; positions = origins }

unfoldable pub spent_after : ℕ → List ℕ → ℕ → TreeResult
spent_after m bs n = record { outcome = Spent; steps = m; length = n; branches = bs; positions = origins }

unfoldable pub packed_after : ℕ → List ℕ → ℕ → List Position → TreeResult
packed_after m bs n q = record { outcome = Packed; steps = m; length = n; branches = bs; positions = q }

-- a call from a checkpoint, by whether it follows the problem
abbrev pub result_if : Bool → Problem → ℕ → S.Checkpoint → TreeResult
result_if true p budget κ = result_of p (R.tree_search p budget κ)
result_if false p budget κ = not_following

abbrev pub tree_result : Problem → ℕ → S.Checkpoint → TreeResult
tree_result p budget κ = result_if (S.follows (R.look p) κ) p budget κ
