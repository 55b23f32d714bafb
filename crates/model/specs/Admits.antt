-- The packings that domains admit: the terms in which soundness is stated.
use Rattle.std.specs.Prelude.{◌≡◌, ◌≤◌, ◌<◌}
use Rattle.prelude.specs.Names.{false, Mem, ℕ, zero, suc}
use Rattle.model.specs.Problem.{Problem, Precedence, Positions, EndsBefore, time}
use Rattle.model.specs.Domains.{Domains, gone}
use Rattle.model.specs.Order.{Proper}

-- what every sheet that is not refused says: at most 10 items, measures of at least 1, orders of two distinct items
pub record Sound (p : Problem) : Type 0 where
  pub limited : p.items ≤ 10
  pub positive : (a u : ℕ) → a < 3 → u < p.items → 1 ≤ p.size a u
  pub named : (o : Precedence) → Mem o p.precedences → Proper p.items time o.predecessor o.successor

-- neither is before the other
unfoldable pub Overlaps : Problem → Positions → ℕ → ℕ → ℕ → Type 0
Overlaps p q a u v = (EndsBefore p q a u v → ⊥) × (EndsBefore p q a v u → ⊥)

-- the packing q realises the relation x of u and v
abbrev pub Realises : Problem → Positions → ℕ → ℕ → ℕ → ℕ → Type 0
Realises p q zero a u v = Overlaps p q a u v
Realises p q (suc zero) a u v = EndsBefore p q a u v
Realises p q (suc (suc x)) a u v = EndsBefore p q a v u

-- every relation that the packing q realises is left
pub record Admits (p : Problem) (k : Domains) (q : Positions) : Type 0 where
  pub realised : (x a u v : ℕ) → x < 3 → Proper p.items a u v → Realises p q x a u v → gone k x a u v ≡ false
