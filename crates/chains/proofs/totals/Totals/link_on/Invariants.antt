-- Invariant: totals are raised along links alone, and go on along that from u to v and those from every item that grew, but from the items of `todo`.
-- Measure: how much the totals may still grow, and then `todo` as a number.
use Rattle.std.specs.Prelude.{◌+◌, ◌*◌}
use Rattle.chains.proofs.ChainMeasure.{room}
use Rattle.chains.proofs.Relaxing.{Progress}
use Rattle.chains.proofs.totals.Totals.link_on.Given as goal

abbrev pub invariant-loop-todo : goal.invariant-loop-todo
invariant-loop-todo l =
    Progress l.rows l.x l.own l.a l.fn.place.u l.fn.place.v l.initial.self.numbers l.initial.grown l.self.numbers l.todo l.grown

abbrev pub decreases-loop-todo : goal.decreases-loop-todo
decreases-loop-todo l = room 10 l.own l.a l.self.numbers * 1024 + l.todo
