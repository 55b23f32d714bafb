-- i items are read and held, and the row reads as they do, followed by what is left of it.
use Rattle.prelude.specs.Names.{[]}
use Rattle.parts.specs.Parts.{item}
use Rattle.parts.specs.Sizes.{no_item}
use Rattle.lists.proofs.Rows.{Along}
use Rattle.lists.proofs.read.read_item_row.Given as goal

abbrev pub invariant-loop-i : goal.invariant-loop-i
invariant-loop-i l =
    Along item (λ (_ : Unit {0}) _. []) (λ x. x) (λ p _. p) tt 10 no_item l.n l.rest.at l.rest.bytes.now tt l.items l.i l.left.at l.left.bytes.now
