use Rattle.prelude.specs.Names.{arith, length-append}
use Rattle.parts.specs.Parts.{precedence}
use Rattle.parts.specs.Precedences.{arc_of}
use Rattle.parts.specs.Sizes.{no_precedence}
use Rattle.parts.proofs.Writers.{precedence-bytes}
use Rattle.writer.proofs.Rows.{row-start, row_fits, row_more, row_written, row-held}
use Rattle.writer.proofs.counted.write_precedences.Goals as goal

pub loop-o-init : goal.loop-o-init
loop-o-init c = row-start _ c.args.precedences.now _ _ (rw (row-held precedence.bytes arc_of)
    (omega (arith, c.write_byte-k.ensures.value, c.write_byte-k.auto.out, rw length-append at c.requires.1)))

pub write_precedence-k-requires : goal.write_precedence-k-requires
write_precedence-k-requires c = rw precedence-bytes at (row_fits c.loop-o.invariant no_precedence c.loop-o-test.true)

pub loop-o-preserved : goal.loop-o-preserved
loop-o-preserved c =
    let w = c.write_precedence-k in
    row_more c.loop-o.invariant no_precedence c.loop-o-test.true (rw precedence-bytes w.ensures.value) w.ensures.out_after w.auto.out

pub returns-clause-value : goal.returns-clause-value
returns-clause-value c =
    let w = c.write_byte-k.ensures in
    rw (row-held precedence.bytes arc_of)
    at (row_written c.loop-o.invariant c.loop-o-test.false c.args.out.now c.args.at _ w.value w.out_after).0

pub returns-clause-out_after : goal.returns-clause-out_after
returns-clause-out_after c =
    let w = c.write_byte-k.ensures in
    rw (row-held precedence.bytes arc_of)
    at (row_written c.loop-o.invariant c.loop-o-test.false c.args.out.now c.args.at _ w.value w.out_after).1
