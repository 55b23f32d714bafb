-- One call: spent is answered exactly on an open state, and then all of the budget was taken; a finished state repeats its answer.
use Rattle.std.specs.Prelude.{◌≡◌}
use Rattle.prelude.specs.Names.{ℕ, arith}
use Rattle.model.specs.Machine.{Status, running, failed, succeeded, Machine, Running, steps, taken}
use Rattle.model.specs.Calls.{budget_spent, answer_by, answer_at}
use Rattle.model.proofs.Machine.{open_takes-all}

spent_running : {P : Type 0} (s : Status) (q : P) → answer_by s q ≡ budget_spent → Running s
spent_running running q e = tt
spent_running failed q e = let z : ◌≡◌ {A = ℕ} 0 1 = cc in absurd (omega arith)
spent_running succeeded q e = let z : ◌≡◌ {A = ℕ} 0 1 = cc in absurd (omega arith)

-- "spent has taken exactly the allowance"
pub spent-takes-all : {S P : Type 0} (M : Machine S) (plan : S → P) (i : ℕ) (κ : S)
    → answer_at M plan (steps M i κ) ≡ budget_spent → taken M i κ ≡ i
spent-takes-all M plan i κ e = open_takes-all M i κ (spent_running (M.status (steps M i κ)) (plan (steps M i κ)) e)
