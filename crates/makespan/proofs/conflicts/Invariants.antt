-- By bisection. Invariant: the lengths up to `low` have inconsistent opening domains, and the one past `high` has not; `shortened` is the instance but for its
-- shifts. Measure: `high - low`.
use Rattle.std.specs.Prelude.{◌-◌}
use Rattle.makespan.proofs.Bisection.{Between}
use Rattle.makespan.proofs.conflicts.Given as goal

abbrev pub invariant-loop-low : goal.invariant-loop-low
invariant-loop-low l = Between l.fn.valid.instance l.shortened l.low l.high

abbrev pub decreases-loop-low : goal.decreases-loop-low
decreases-loop-low l = l.high - l.low
