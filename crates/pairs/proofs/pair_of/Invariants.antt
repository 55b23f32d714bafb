-- u and the number of (0, v) come to the number.
use Rattle.std.specs.Prelude.{◌≡◌, ◌+◌, ◌≤◌}
use Rattle.model.specs.Pairs.{pair_number}
use Rattle.pairs.proofs.pair_of.Given as goal

abbrev pub invariant-loop-v : goal.invariant-loop-v
invariant-loop-v l = (1 ≤ l.v) × (l.u + pair_number 0 l.v ≡ l.number)

abbrev pub decreases-loop-v : goal.decreases-loop-v
decreases-loop-v l = l.u
