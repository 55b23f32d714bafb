-- The clauses that have a pair in a premise.
use Rattle.std.specs.Prelude.{◌∷◌, ◌⊎◌}
use Rattle.prelude.specs.Names.{List, [], ℕ}
use Rattle.model.specs.Facts.{Fact}
use Rattle.model.specs.Clauses.{Rule}
use Rattle.domains.specs.Queue.{SamePair}
use Rattle.rules.specs.Worked.{Clauses}

-- one of the facts is of u and v on the axis a, in one order or the other
abbrev pub Mentions : ℕ → ℕ → ℕ → List Fact → Type 0
Mentions a u v [] = ⊥
Mentions a u v (c ∷ cs) = SamePair a u v c.axis c.u c.v ⊎ Mentions a u v cs

-- all clauses with a premise of u and v on the axis a
abbrev pub Mentioning : ℕ → ℕ → ℕ → Clauses
Mentioning a u v ps c = Rule 10 ps c × Mentions a u v ps
