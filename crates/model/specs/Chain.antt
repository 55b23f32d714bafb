-- Chains as lists of items (document 01, rule 5): what `longest` is the greatest total of.
use Rattle.std.specs.Prelude.{◌∷◌, ◌≡◌, ◌+◌, ◌<◌}
use Rattle.prelude.specs.Names.{Bool, true, false, List, [], ℕ}
use Rattle.model.specs.Problem.{Problem}
use Rattle.model.specs.Domains.{Domains, fixed_before}
use Rattle.model.specs.Rules.{listed, joined}

module _ (p : Problem) (linked : ℕ → ℕ → Bool) where
  -- "a row of distinct pieces, each known before the next"
  pub data Chain : List ℕ → Type 0 where
    alone : {u : ℕ} → u < p.items → Chain (u ∷ [])
    link : {u v : ℕ} {l : List ℕ} → u < p.items → linked u v ≡ true → listed u (v ∷ l) ≡ false → Chain (v ∷ l) → Chain (u ∷ v ∷ l)

-- "its total the sum of measures", with what lies between neighbours (proofs/Chain shows that it is `measure_sum` and `gap_sum`)
module _ (p : Problem) (a : ℕ) (on : ℕ → ℕ → ℕ → ℕ) where
  abbrev pub total_from : ℕ → List ℕ → ℕ
  total_from u [] = p.size a u
  total_from u (v ∷ l) = on u v (total_from v l)

-- a chain from its first item on, and its total
abbrev pub Starting : Problem → Domains → ℕ → List ℕ → Type 0
Starting p k a = Chain p (λ u v. fixed_before k a u v)

abbrev pub starting_total : Problem → ℕ → ℕ → List ℕ → ℕ
starting_total p a = total_from p a (λ u v rest. joined p a u v (p.size a u) rest)

-- a chain from its last item back, and its total
abbrev pub Ending : Problem → Domains → ℕ → List ℕ → Type 0
Ending p k a = Chain p (λ u v. fixed_before k a v u)

abbrev pub ending_total : Problem → ℕ → ℕ → List ℕ → ℕ
ending_total p a = total_from p a (λ u v rest. joined p a v u rest (p.size a u))

abbrev pub measure_sum : Problem → ℕ → List ℕ → ℕ
measure_sum p a [] = 0
measure_sum p a (u ∷ l) = p.size a u + measure_sum p a l

abbrev pub gap_sum : (ℕ → ℕ → ℕ) → List ℕ → ℕ
gap_sum between [] = 0
gap_sum between (u ∷ []) = 0
gap_sum between (u ∷ v ∷ l) = between u v + gap_sum between (v ∷ l)
