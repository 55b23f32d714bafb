-- How far a call has come: along the path given, or some steps on from it; and what the call comes to from there.
use Rattle.std.specs.Prelude.{◌∷◌, ◌≡◌, ◌+◌, ◌≤◌, ◌<◌}
use Rattle.prelude.specs.Names.{true, List, refl, sym, ◌∙◌, ℕ, arith, length, get_or}
use Rattle.model.proofs.Run.{forking_exactly}
use Rattle.model.specs.Branching.{Branch, second, plan}
use Rattle.model.specs.Problem.{Problem}
use Rattle.model.specs.Run.{look}
use Rattle.instance.specs.declared.Position.{Position}
use Rattle.tree_paths.specs.Checkpoints.{branch_of, path_of, branches_of, PathIn}
use Rattle.tree_search.specs.Results.{positions_list, infeasible_after, spent_after, packed_after, tree_result}
use Rattle.tree_search.proofs.Budget.{Rest, rest-start, rest-next, rest-finished, rest-spent}
use Rattle.tree_paths.proofs.Checkpoints.{path_next, branch_back, branches_past, branches_small, first-held, again_at}
use Rattle.tree_search.proofs.Outcomes.{comes_infeasible, comes_spent, comes_packed}
use Rattle.model.specs.Search as S

-- the path given is gone along, and some steps lead on from it
pub record PastPath (p : Problem) (budget : ℕ) (start : List Branch) (steps : ℕ) (path : List Branch) (bs : List ℕ) : Type 0 where
  pub start_forks : S.Forking (look p) start
  pub rest : Rest (look p) budget (S.open_at start) steps (S.open_at path)
  pub held : bs ≡ branches_of path

-- the path given is gone along, and no step taken yet
pub past_start : {p : Problem} {budget : ℕ} {start : List Branch} {bs : List ℕ} → S.Forking (look p) start → bs ≡ branches_of start
    → PastPath p budget start 0 start bs
past_start {p} {budget} {start} forks held = record { start_forks = forks; rest = rest-start (look p) budget (S.open_at start); held = held }

-- one branch more of those given, as the array has it
pub given_next : (n i : ℕ) (given : List ℕ) {bs : List ℕ} → n ≤ 270 → i < n → bs ≡ branches_of (path_of n given)
    → branch_of (get_or bs i 0) ∷ path_of i given ≡ path_of (i + 1) given
given_next n i given short h e = rw (e, again_at n given short i h, branch_back, path_next) refl

module _ {p : Problem} {budget steps : ℕ} {start path : List Branch} {bs : List ℕ} (ω : PastPath p budget start steps path bs) where
  abbrev κ : S.Checkpoint
  κ = S.open_at start

  pub past_small : (i : ℕ) → get_or bs i 0 < 2
  past_small i = rw ω.held (branches_small path i)

  -- one step more
  module _ (left : steps < budget) where
    step_on : {o : S.Outlook} → look p path ≡ o → Rest (look p) budget κ (steps + 1) (S.act o path)
    step_on = rest-next (look p) budget κ ω.rest left

    -- the branch that is due is the first
    pub past_fork : look p path ≡ S.fork → {depth : ℕ} → depth ≡ length path
        → PastPath p budget start (steps + 1) (branch_of (get_or bs depth 0) ∷ path) bs
    past_fork fork {depth} deep =
        let z : get_or bs depth 0 ≡ 0 = rw ω.held (branches_past path depth (omega arith)) in
        rw z (record { start_forks = ω.start_forks; rest = step_on fork; held = ω.held ∙ sym (first-held path) })

    -- the last first branch becomes second
    pub past_back : look p path ≡ S.conflict → {to : List Branch} → S.backtrack path ≡ S.open_at (second ∷ to) → {cs : List ℕ}
        → cs ≡ branches_of (second ∷ to) → PastPath p budget start (steps + 1) (second ∷ to) cs
    past_back conflict back held = record { start_forks = ω.start_forks; rest = rw back at (step_on conflict); held = held }

  -- What the call comes to
  follows : S.follows (look p) κ ≡ true
  follows = (forking_exactly (look p) start).1 ω.start_forks

  path_held : {depth : ℕ} → depth ≡ length path → PathIn path bs depth
  path_held d = record { many = d; entries = ω.held }

  -- "if none is left, the note is none with an empty row"
  pub result_infeasible : steps < budget → look p path ≡ S.conflict → S.backtrack path ≡ S.infeasible
      → infeasible_after (steps + 1) ≡ tree_result p budget κ
  result_infeasible left e b = comes_infeasible p budget κ follows (rest-finished (look p) budget κ (rw b at (step_on left e)) tt)

  -- "each pair has 'before' known: placed"
  pub result_packed : steps < budget → look p path ≡ S.complete → {depth : ℕ} → depth ≡ length path → {q : List Position}
      → q ≡ positions_list p (plan p path) → packed_after (steps + 1) bs depth q ≡ tree_result p budget κ
  result_packed left e d q = comes_packed p budget κ follows (path_held d) q (rest-finished (look p) budget κ (step_on left e) tt)

  pub result_spent : steps ≡ budget → {depth : ℕ} → depth ≡ length path → spent_after budget bs depth ≡ tree_result p budget κ
  result_spent e d = comes_spent p budget κ follows (path_held d) (rest-spent (look p) budget κ (rw e at ω.rest) (omega arith))
