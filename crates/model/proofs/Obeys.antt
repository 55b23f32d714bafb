-- Domains obey the rules as document 01 words them exactly where they are at rest.
use Rattle.std.specs.Prelude.{◌↔◌}
use Rattle.prelude.specs.Names.{le_trans, ltb-true}
use Rattle.model.specs.Problem.{Problem}
use Rattle.model.specs.Domains.{Domains}
use Rattle.model.specs.Rules.{rule5}
use Rattle.model.specs.Order.{AtRest}
use Rattle.model.specs.Obeys.{Obeys}
use Rattle.model.proofs.Ends.{joined_mono}
use Rattle.model.proofs.Chain.{greatest_ending-greatest, greatest_ending_attained, greatest_starting-greatest, greatest_starting_attained}
use Rattle.model.proofs.Asks.{not-before, ask_c2}
use Rattle.model.proofs.Clauses.{rest-obeyed, obeyed-at-rest}

pub rest-is_obedience : (p : Problem) (k : Domains) → AtRest p k ↔ Obeys p k
unfolding rule5
rest-is_obedience p k = (
  λ rest. record {
    rules = rest-obeyed p k rest;
    c2 = λ a u v c d s x y h. not-before rest a u v s
        (ask_c2 p k a u v (le_trans h (joined_mono p a u v (greatest_ending-greatest p k a u c x) (greatest_starting-greatest p k a v d y))));
  },
  λ o. obeyed-at-rest p k o.rules λ a u v s e.
      let (c, x, ec) = greatest_ending_attained p k a u s.item_u in
      let (d, y, ed) = greatest_starting_attained p k a v s.item_v in
      o.c2 a u v c d s x y (rw (ec, ed) (ltb-true _ _ e)),
)
