-- The five rules as document 01 words them. proofs/Obeys shows that domains obey them exactly where no rule, seen from the relation that it removes,
-- asks for a relation that is left.
use Rattle.std.specs.Prelude.{◌∷◌, ◌≡◌, ◌<◌}
use Rattle.prelude.specs.Names.{false, List, ℕ}
use Rattle.model.specs.Problem.{Problem}
use Rattle.model.specs.Domains.{Domains, may_before}
use Rattle.model.specs.Rules.{joined}
use Rattle.model.specs.Chain.{Ending, ending_total, Starting, starting_total}
use Rattle.model.specs.Order.{Proper}
use Rattle.model.specs.Clauses.{Obeyed}

pub record Obeys (p : Problem) (k : Domains) : Type 0 where
  -- 1 to 4
  pub rules : Obeyed p.items k
  -- "5. If the greatest chain ending in u and the greatest starting in v add up to more than the hall, strike 'u before v' (C2)."
  pub c2 : (a u v : ℕ) (c d : List ℕ) → Proper p.items a u v → Ending p k a (u ∷ c) → Starting p k a (v ∷ d)
      → p.capacity a < joined p a u v (ending_total p a u c) (starting_total p a v d) → may_before k a u v ≡ false
