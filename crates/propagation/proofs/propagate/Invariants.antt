-- Invariant: the queue is worked off up to the head, and what is still to be done is of pairs from there on. Measure: the places of the queue from
-- the head on.
use Rattle.std.specs.Prelude.{◌-◌}
use Rattle.propagation.proofs.Settling.{Settling}
use Rattle.propagation.proofs.propagate.Given as goal

abbrev pub invariant-loop-head : goal.invariant-loop-head
invariant-loop-head l =
    Settling l.fn.store.domains l.fn.store.rows l.fn.store.queue l.fn.totals.numbers l.store.domains l.store.rows l.store.queue l.totals.numbers l.head

abbrev pub decreases-loop-head : goal.decreases-loop-head
decreases-loop-head l = 946 - l.head
