-- Invariant: no item at a place below i is above the container's measure.
use Rattle.std.specs.Prelude.{◌+◌, ◌/◌, ◌≤◌, ◌<◌}
use Rattle.prelude.specs.Names.{ℕ, get_or}
use Rattle.opening.proofs.layout.any_large.Given as goal

abbrev pub invariant-loop-i : goal.invariant-loop-i
invariant-loop-i l = (x : ℕ) → x < l.i → get_or l.t (60 + x) 0 ≤ get_or l.t (90 + x / 10) 0
