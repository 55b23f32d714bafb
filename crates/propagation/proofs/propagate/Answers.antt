-- The pair at the head is worked off: the loop goes on, or refutes.
use Rattle.std.proofs.lemmas.Result.{err_from_is_err_and}
use Rattle.propagation.proofs.Settling.{settling_start, settling_next, settling_none, settling_done}
use Rattle.propagation.proofs.propagate.Goals as goal

pub loop-head-init : goal.loop-head-init
loop-head-init c = settling_start c.args.store.now.good c.args.totals.now.tabled

pub returns-in_err-work_off-clause-propagates : goal.returns-in_err-work_off-clause-propagates
returns-in_err-work_off-clause-propagates c =
    let p = err_from_is_err_and c.from_residual.result c.from_residual.ensures.1 in
    λ q ready. rw p.1 (settling_none c.loop-head.invariant c.changed-place.result.proper c.changed-place.ensures (rw (← c.queue_end.ensures) c.loop-head-test.true) c.in_err-work_off.ensures.works_off q ready)

pub loop-head-preserved : goal.loop-head-preserved
loop-head-preserved c =
    let w = c.in_ok-work_off.ensures in
    settling_next c.loop-head.invariant c.changed-place.result.proper c.changed-place.ensures (rw (← c.queue_end.ensures) c.loop-head-test.true) c.work_off.new.store.good c.work_off.new.totals.tabled w.measures w.works_off

pub returns-clause-propagates : goal.returns-clause-propagates
returns-clause-propagates c = λ p ready. settling_done c.loop-head.invariant p ready (rw (← c.queue_end.ensures) c.loop-head-test.false)
