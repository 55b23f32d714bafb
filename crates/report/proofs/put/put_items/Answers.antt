use Rattle.prelude.specs.Names.{arith, length-append}
use Rattle.report.proofs.Puts.{fronts_joined, items-none, items-next}
use Rattle.report.proofs.put.put_items.Goals as goal

pub loop-u-init : goal.loop-u-init
loop-u-init c = record { put = rw (items-none c.args.packing); at = rw (items-none c.args.packing); short = omega arith }

pub loop-u-preserved : goal.loop-u-preserved
loop-u-preserved c =
    let l = c.loop-u in
    let next = items-next c.args.packing l.u in
    record {
      put = rw next (fronts_joined _ _ c.args.out.now l.invariant.at (omega arith) l.invariant.put c.put_item-at.ensures.out_after);
      at = rw (next, length-append) (omega arith);
      short = omega arith;
    }
