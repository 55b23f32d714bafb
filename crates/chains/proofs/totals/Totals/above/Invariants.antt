-- Invariant: the set has, of the items below v, those above the limit.
use Rattle.std.specs.Prelude.{◌+◌}
use Rattle.prelude.specs.Names.{ltb, get_or}
use Rattle.domains.specs.Bits.{Gives}
use Rattle.chains.proofs.totals.Totals.above.Given as goal

abbrev pub invariant-loop-v : goal.invariant-loop-v
invariant-loop-v l = Gives l.v l.found (λ w. ltb l.limit (get_or l.self.numbers (l.at + w) 0))
