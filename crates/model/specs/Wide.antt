-- The problem that the code works on: ten items, whatever the instance's count, those added of measure 0; and no walkway: on x and y each item of the
-- instance is longer by the walkway behind it, and so is the container, since nothing is needed at its wall. proofs/Wide shows that propagation comes to
-- the same, and that each start is the same.
use Rattle.std.specs.Prelude.{◌+◌}
use Rattle.prelude.specs.Names.{cond, ltb}
use Rattle.model.specs.Problem.{Problem, spacing}

unfoldable pub wide : Problem → Problem
wide p = record {
  items = 10;
  size = λ a u. cond (ltb u p.items) (p.size a u + spacing p a) 0;
  capacity = λ a. p.capacity a + spacing p a;
  walkway = 0;
  precedences = p.precedences;
}
