-- What is used of "ends before" and of the total of two chains joined: whatever lies between neighbours enters here and nowhere above.
use Rattle.std.specs.Prelude.{◌⊎◌, ◌+◌, ◌≤◌}
use Rattle.prelude.specs.Names.{inl, inr, ℕ, dec_le, arith}
use Rattle.model.specs.Problem.{Problem, Positions, EndsBefore, EndsAhead, spacing, gap}
use Rattle.model.specs.Rules.{joined}

module _ (p : Problem) (q : Positions) (a : ℕ) where
  pub ends? : (u v : ℕ) → Dec (EndsBefore p q a u v)
  unfolding EndsBefore EndsAhead
  ends? u v = dec_le _ _

  pub ends_trans : (u v w : ℕ) → EndsBefore p q a u v → EndsBefore p q a v w → EndsBefore p q a u w
  unfolding EndsBefore EndsAhead
  ends_trans u v w d e = omega arith

  -- no two end before each other, where one has a measure
  pub ends_asym : (u v : ℕ) → 1 ≤ p.size a v → EndsBefore p q a u v → EndsBefore p q a v u → ⊥
  unfolding EndsBefore EndsAhead
  ends_asym u v h d e = omega arith

  -- of two that end before two others one ends before the other's
  pub ends_cross : (x y u v : ℕ) → EndsBefore p q a x y → EndsBefore p q a u v → EndsBefore p q a x v ⊎ EndsBefore p q a u y
  unfolding EndsBefore EndsAhead
  ends_cross x y u v d e = elim (dec_le (q a x + p.size a x + spacing p a) (q a v)) [ yes l ↦ inl l | no l ↦ inr (omega arith) ]

  -- where u ends ahead of v by what lies between them: a chain with room up to the end of u goes on with one that has room from the start of v
  pub joined-room : (u v x y c : ℕ) → EndsAhead p q a (gap p a u v) u v → x ≤ q a u + p.size a u → q a v + y ≤ c → joined p a u v x y ≤ c
  unfolding joined EndsAhead
  joined-room u v x y c e h g = omega arith

  pub joined-from : (u v y c : ℕ) → EndsAhead p q a (gap p a u v) u v → q a v + y ≤ c → q a u + joined p a u v (p.size a u) y ≤ c
  unfolding joined EndsAhead
  joined-from u v y c e g = omega arith

  -- and the other way round, where the ends have room for the chain
  pub joined_ends : (u v x y : ℕ) → q a u + p.size a u ≤ x → y ≤ q a v + p.size a v → joined p a u v x (p.size a v) ≤ y
      → EndsAhead p q a (gap p a u v) u v
  unfolding joined EndsAhead
  joined_ends u v x y h g e = omega arith

pub joined_mono : (p : Problem) (a u v : ℕ) {x y x' y' : ℕ} → x ≤ x' → y ≤ y' → joined p a u v x y ≤ joined p a u v x' y'
unfolding joined
joined_mono p a u v h g = omega arith
