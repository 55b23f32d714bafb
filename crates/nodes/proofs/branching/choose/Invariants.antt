-- Outer invariant: every pair from `from` on and before `number` has a known "before", and no place is chosen yet. Inner invariant: no axis of the pair
-- before `axis` has more than one relation left.
use Rattle.std.specs.Prelude.{◌≡◌, ◌+◌, ◌*◌, ◌≤◌, ◌<◌, None}
use Rattle.prelude.specs.Names.{ℕ, true, false, get_or}
use Rattle.nodes.specs.Choice.{several, separated_at}
use Rattle.nodes.proofs.branching.choose.Given as goal

abbrev pub invariant-found : goal.invariant-found
invariant-found l = (l.place ≡ None) × ((j : ℕ) → j < l.number → l.fn.from ≤ j → separated_at l.domains j ≡ true)

abbrev pub invariant-loop-axis : goal.invariant-loop-axis
invariant-loop-axis l = (b : ℕ) → b < l.axis → several (get_or l.domains (3 * l.number + b) 0) ≡ false
