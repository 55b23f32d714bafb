use Rattle.makespan.proofs.Bisection.{valid_there, choices_there, between_above, between_below, last_conflict}
use Rattle.makespan.proofs.conflicts.Goals as goal

pub invariant_of-tried : goal.invariant_of-tried
invariant_of-tried c = record { is_valid = valid_there c.loop-low.invariant c.args.valid.is_valid c.loop-low-test.true }

pub in_conflict-requires : goal.in_conflict-requires
in_conflict-requires c = choices_there c.loop-low.invariant c.args.valid.is_valid c.loop-low-test.true c.requires

pub loop-low-preserved-then-in_conflict : goal.loop-low-preserved-then-in_conflict
loop-low-preserved-then-in_conflict c = between_above c.loop-low.invariant c.args.valid.is_valid c.loop-low-test.true c.if-in_conflict.ensures

pub loop-low-preserved : goal.loop-low-preserved
loop-low-preserved c = between_below c.loop-low.invariant c.args.valid.is_valid c.loop-low-test.true c.if-in_conflict.ensures

pub returns : goal.returns
returns c = last_conflict c.loop-low.invariant c.loop-low-test.false
