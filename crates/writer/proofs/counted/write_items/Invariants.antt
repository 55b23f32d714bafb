-- After the count the first items are written.
use Rattle.parts.specs.Parts.{item}
use Rattle.writer.proofs.Rows.{Row}
use Rattle.writer.proofs.counted.write_items.Given as goal

abbrev pub invariant-loop-item : goal.invariant-loop-item
invariant-loop-item l = Row item.bytes l.items l.initial.out l.initial.k l.item-index l.out l.k
