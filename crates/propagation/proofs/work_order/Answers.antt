-- Where one order of the pair is known its link is followed; else there is nothing to do.
use Rattle.prelude.specs.Names.{inl, inr}
use Rattle.model.proofs.Below.{and_intro}
use Rattle.propagation.proofs.Working.{row_overlap, row_orders, unordered, in_order_fixed, in_order_charted}
use Rattle.propagation.proofs.work_order.Goals as goal
use Rattle.propagation.proofs.work_order.Goals.{else-has-via-then-has+else-has-2, else-has-via-else-has}

pub apply_link-requires : goal.apply_link-requires
apply_link-requires c =
    let good = c.args.store.now.good in let s = c.args.place.proper in
    let overlap = row_overlap good.laid.mirror s (rw c.row-row.ensures.is at c.has.ensures) c.if-has.true in
    let order = row_orders good.laid.mirror s (rw c.row-row.ensures.is at c.has-then-has.ensures) c.if-has-2.true in
    (in_order_fixed good.laid.mirror s (and_intro overlap order) (rw c.row-row.ensures.is at c.in_order.ensures)).1

pub returns-then-has-2-clause-extends_along : goal.returns-then-has-2-clause-extends_along
returns-then-has-2-clause-extends_along c = λ p from h. c.apply_link.ensures.extends_along p from (in_order_charted h c.in_order.ensures)

pub returns-clause-extends_along : goal.returns-clause-extends_along
returns-clause-extends_along c =
    let good = c.args.store.now.good in let s = c.args.place.proper in
    elim c.else-has.branch [
      | else-has-via-then-has+else-has-2 w ↦ unordered s good c.args.totals.now.tabled (inr (row_orders good.laid.mirror s (rw c.row-row.ensures.is at w.has-then-has.ensures) w.if-has-2.false))
      | else-has-via-else-has w ↦ unordered s good c.args.totals.now.tabled (inl (row_overlap good.laid.mirror s (rw c.row-row.ensures.is at c.has.ensures) w.if-has.false))
    ]
