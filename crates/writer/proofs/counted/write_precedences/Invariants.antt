-- After the count the first precedences are written.
use Rattle.parts.specs.Parts.{precedence}
use Rattle.parts.specs.Precedences.{arc_of}
use Rattle.writer.proofs.Rows.{Row}
use Rattle.writer.proofs.counted.write_precedences.Given as goal

abbrev pub invariant-loop-o : goal.invariant-loop-o
invariant-loop-o l = Row (λ o. precedence.bytes (arc_of o)) l.precedences l.initial.out l.initial.k l.o-index l.out l.k
