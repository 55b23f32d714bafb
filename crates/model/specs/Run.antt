-- The search: what the paths of a problem show, the search of one choice, of all choices (document 02, #106), one call, the run and its step count.
use Rattle.std.specs.Prelude.{◌&&◌, ◌*◌, ◌-◌}
use Rattle.prelude.specs.Names.{Bool, true, false, List, ℕ, suc, leb, eqb}
use Rattle.model.specs.Below.{sum_below}
use Rattle.model.specs.Problem.{Problem, Positions}
use Rattle.model.specs.Turning.{Turnable, choice_problem, marks_of, last_choice, Plan}
use Rattle.model.specs.Branching.{Branch, inconsistent, packed, path_domains, plan}
use Rattle.model.specs.Machine.{Machine, steps, taken}
use Rattle.model.specs.Series.{Stage, stage, series, StageFollows}
use Rattle.model.specs.Search.{Outlook, conflict, complete, fork, Checkpoint, open_at, infeasible, packed_at, checkpoint_path, searching, opening}
use Rattle.model.specs.Search.{Follows, follows, path_count}
use Rattle.model.specs.Calls.{Result, call}

-- "contradictory"; "each pair has 'before' known"; "else"
abbrev pub outlook : Bool → Bool → Outlook
outlook true full = conflict
outlook false true = complete
outlook false false = fork

unfoldable pub look : Problem → List Branch → Outlook
look p path = let k = path_domains p path in outlook (inconsistent p k) (packed p k)

-- the search of one problem, and the starts of a packed checkpoint
abbrev pub tree_machine : Problem → Machine Checkpoint
tree_machine p = searching (look p)

abbrev pub tree_starts : Problem → Checkpoint → Positions
tree_starts p κ = plan p (checkpoint_path κ)

-- one call of it: the answer with its starts, the steps taken and the checkpoint
abbrev pub tree_search : Problem → ℕ → Checkpoint → Result Checkpoint Positions
tree_search p budget κ = call (tree_machine p) (tree_starts p) budget κ

-- "A row of turns has at most 3 × n × (n − 1) entries"
abbrev pub path_limit : Problem → ℕ
path_limit p = 3 * (p.items * (p.items - 1))

-- how many steps it takes from the opening checkpoint until it is finished: no more than there are paths (proofs/Search)
unfoldable pub tree_count : Problem → ℕ
tree_count p = taken (tree_machine p) (path_count (path_limit p)) opening

-- "Each choice is searched whole": the search of choice c
abbrev pub choice_machine : Turnable → ℕ → Machine Checkpoint
choice_machine t c = tree_machine (choice_problem t c)

-- "The note holds the choice"
abbrev pub ChoiceCheckpoint : Type 0
ChoiceCheckpoint = Stage Checkpoint

-- "the opening note holds 0"
abbrev pub choice_opening : ChoiceCheckpoint
choice_opening = stage 0 opening

-- the search of all choices, and the plan of a packed checkpoint
abbrev pub machine : Turnable → Machine ChoiceCheckpoint
machine t = series (choice_machine t) (last_choice t)

abbrev pub plan_at : Turnable → ChoiceCheckpoint → Plan
plan_at t s = record { positions = tree_starts (choice_problem t s.number) s.state; marks = marks_of t.may_turn s.number }

-- one call: the answer with its plan, the steps taken and the checkpoint
abbrev pub search : Turnable → ℕ → ChoiceCheckpoint → Result ChoiceCheckpoint Plan
search t budget s = call (machine t) (plan_at t) budget s

-- a note follows its sheet when its row does with its own choice; "10 covers a choice beyond the last, or not the last in a none note"
abbrev pub ChoiceFollows : Turnable → ChoiceCheckpoint → Type 0
ChoiceFollows t = StageFollows (choice_machine t) (last_choice t) (λ c. Follows (look (choice_problem t c)))

-- The same as a test. proofs/Theorems shows that they agree.
abbrev pub last_if_infeasible : Checkpoint → ℕ → ℕ → Bool
last_if_infeasible (open_at path) c last = true
last_if_infeasible infeasible c last = eqb c last
last_if_infeasible (packed_at path) c last = true

abbrev pub choice_follows : Turnable → ChoiceCheckpoint → Bool
choice_follows t s =
    leb s.number (last_choice t)
    && (last_if_infeasible s.state s.number (last_choice t) && follows (look (choice_problem t s.number)) s.state)

-- "one run of this search takes steps from the opening note until the note is finished": no run takes more steps than there are paths in all choices
-- (proofs/Theorems)
abbrev pub run_limit : Turnable → ℕ
run_limit t = suc (last_choice t) * path_count (path_limit t.given)

unfoldable pub run_end : Turnable → ChoiceCheckpoint
run_end t = steps (machine t) (run_limit t) choice_opening

-- "The number of these steps .. is the sheet's step count"
unfoldable pub step_count : Turnable → ℕ
step_count t = taken (machine t) (run_limit t) choice_opening

-- the steps of the first n choices, each searched whole
abbrev pub choice_steps : Turnable → ℕ → ℕ
choice_steps t n = sum_below n (λ c. tree_count (choice_problem t c))
