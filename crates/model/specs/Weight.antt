-- How much can still be removed: the relations left over one, summed. Each branch removes one, so that a path is no longer than this.
use Rattle.std.specs.Prelude.{◌+◌}
use Rattle.prelude.specs.Names.{cond, ℕ, pred}
use Rattle.model.specs.Below.{sum_below}
use Rattle.model.specs.Problem.{Problem}
use Rattle.model.specs.Domains.{Domains, may_overlap, may_before}

-- over the axes and the pairs of items below n
abbrev pub sum_slots : ℕ → (ℕ → ℕ → ℕ → ℕ) → ℕ
sum_slots n f = sum_below 3 (λ a. sum_below n (λ v. sum_below v (λ u. f a u v)))

-- how many relations are left
unfoldable pub relations : Domains → ℕ → ℕ → ℕ → ℕ
relations k a u v = cond (may_overlap k a u v) 1 0 + (cond (may_before k a u v) 1 0 + cond (may_before k a v u) 1 0)

unfoldable pub weight : Problem → Domains → ℕ
weight p k = sum_slots p.items (λ a u v. pred (relations k a u v))
