use Rattle.prelude.specs.Names.{arith, length-append}
use Rattle.parts.specs.Parts.{item}
use Rattle.parts.specs.Sizes.{no_item}
use Rattle.writer.proofs.Rows.{row-start, row_more, row_written}
use Rattle.writer.proofs.counted.write_items.Goals as goal

pub loop-item-init : goal.loop-item-init
loop-item-init c =
    row-start item.bytes c.args.items.now _ _ (omega (arith, c.write_byte-k.ensures.value, c.write_byte-k.auto.out, rw length-append at c.requires.1))

pub loop-item-preserved : goal.loop-item-preserved
loop-item-preserved c =
    let w = c.write_item-k in
    row_more c.loop-item.invariant no_item c.loop-item-test.true w.ensures.value w.ensures.out_after w.auto.out

pub returns-clause-out_after : goal.returns-clause-out_after
returns-clause-out_after c =
    let w = c.write_byte-k.ensures in
    (row_written c.loop-item.invariant c.loop-item-test.false c.args.out.now c.args.at _ w.value w.out_after).1
