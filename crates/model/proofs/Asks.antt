-- What makes rules 1 and 5 ask, and that what is asked for is removed at rest.
use Rattle.std.specs.Prelude.{◌||◌, ◌≢◌, ◌≡◌, ◌<◌}
use Rattle.prelude.specs.Names.{true, false, ℕ, ℕ_discrete, eqb, arith, eq-eqb, lt-ltb, not-true}
use Rattle.model.specs.Problem.{Problem}
use Rattle.model.specs.Domains.{Domains, may_overlap, may_before, gone, fixed_overlap}
use Rattle.model.specs.Rules.{joined, greatest_ending, greatest_starting, rule1, rule2, rule3, rule4, rule5, asks_overlap, asks_before, asks}
use Rattle.model.specs.Order.{Proper, AtRest}
use Rattle.model.proofs.Below.{or_left, or_right, all_of}

-- what is asked for is removed at rest
module _ {p : Problem} {k : Domains} (rest : AtRest p k) (a u v : ℕ) (s : Proper p.items a u v) where
  pub not-before : asks_before p k a u v ≡ true → may_before k a u v ≡ false
  unfolding asks gone
  not-before e = not-true (may_before k a u v) (rest.done 1 a u v (omega arith) s e)

  pub not_overlap : asks_overlap p k a u v ≡ true → may_overlap k a u v ≡ false
  unfolding asks gone
  not_overlap e = not-true (may_overlap k a u v) (rest.done 0 a u v (omega arith) s e)

module _ (p : Problem) (k : Domains) (a : ℕ) where
  -- 1: overlap fixed on the two other axes
  pub rule1-of : (u v : ℕ) → ((b : ℕ) → b < 3 → b ≢ a → fixed_overlap k b u v ≡ true) → rule1 p k a u v ≡ true
  unfolding rule1
  rule1-of u v f = all_of 3 (λ b. eqb b a || fixed_overlap k b u v) (λ b hb. elim (ℕ_discrete b a) [
    | yes e ↦ or_left (fixed_overlap k b u v) (eq-eqb b a e)
    | no d ↦ or_right (eqb b a) (f b hb d)
  ])

  -- 5: the greatest chains are together longer than the container
  pub ask_c2 : (u v : ℕ) → p.capacity a < joined p a u v (greatest_ending p k a u) (greatest_starting p k a v) → asks_before p k a u v ≡ true
  unfolding asks_before rule5
  ask_c2 u v h = or_right (rule2 p k a v u) (or_right (rule3 p k a u v) (or_right (rule4 p k a u v) (lt-ltb _ _ h)))
