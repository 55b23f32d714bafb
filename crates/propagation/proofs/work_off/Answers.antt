-- The link, then rules 2 and 3, then rules 1 and 4: each refutes, or goes on from where the ones before ended.
use Rattle.std.proofs.lemmas.Result.{err_from_is_err_and}
use Rattle.propagation.proofs.Working.{extended_refuted, worked_all}
use Rattle.propagation.proofs.work_off.Goals as goal

pub returns-in_err-follow-clause-works_off : goal.returns-in_err-follow-clause-works_off
returns-in_err-follow-clause-works_off c =
    let p = err_from_is_err_and c.from_residual-in_err-follow.result c.from_residual-in_err-follow.ensures.1 in
    λ q from h. rw p.1 (extended_refuted h (c.in_ok-work_order.ensures.extends_along q from h) c.in_err-follow.ensures)

pub returns-clause-works_off : goal.returns-clause-works_off
returns-clause-works_off c =
    worked_all c.args.store.now.good.least c.args.place.proper c.in_ok-work_order.ensures.extends_along c.in_ok-follow.ensures
    _ _ _ c.work_overlap.result c.work_overlap.ensures
