-- What the row of u says of v is what is known of the pair.
use Rattle.prelude.specs.Names.{inl, inr, arith}
use Rattle.model.specs.Facts.{says}
use Rattle.model.proofs.Below.{and_intro}
use Rattle.propagation.proofs.Working.{row_overlap, row_order, across-all, along-all, overlap_none}
use Rattle.propagation.proofs.work_overlap.Goals as goal
use Rattle.propagation.proofs.work_overlap.Goals.{else-has-2-via-then-has-2+else-has-3, else-has-2-via-else-has-2}

pub returns-then-has : goal.returns-then-has
returns-then-has c =
    let good = c.args.store.now.good in let s = c.args.place.proper in
    across-all good s (row_overlap good.laid.mirror s (rw c.row-row.ensures.is at c.has.ensures) c.if-has.true) _ _ _ c.ring_across.result c.ring_across.ensures

pub overlap-requires : goal.overlap-requires
unfolding says
overlap-requires c =
    let mirror = c.args.store.now.good.laid.mirror in let s = c.args.place.proper in
    and_intro (row_order mirror s 1 (omega arith) (rw c.row-row.ensures.is at c.has-2.ensures) c.if-has-2.true) (row_order mirror s 2 (omega arith) (rw c.row-row.ensures.is at c.has-then-has-2.ensures) c.if-has-3.true)

pub returns-then-has-3 : goal.returns-then-has-3
returns-then-has-3 c =
    let good = c.args.store.now.good in let s = c.args.place.proper in
    along-all good s (row_overlap good.laid.mirror s (rw c.row-row.ensures.is at c.has.ensures) c.if-has.false) _ _ _ c.overlap.result c.overlap.ensures

pub returns : goal.returns
returns c =
    let good = c.args.store.now.good in let s = c.args.place.proper in
    let left = row_overlap good.laid.mirror s (rw c.row-row.ensures.is at c.has.ensures) c.if-has.false in
    elim c.else-has-2.branch [
      | else-has-2-via-then-has-2+else-has-3 w ↦ overlap_none good s left (inr (row_order good.laid.mirror s 2 (omega arith) (rw c.row-row.ensures.is at w.has-then-has-2.ensures) w.if-has-3.false))
      | else-has-2-via-else-has-2 w ↦ overlap_none good s left (inl (row_order good.laid.mirror s 1 (omega arith) (rw c.row-row.ensures.is at c.has-2.ensures) w.if-has-2.false))
    ]
