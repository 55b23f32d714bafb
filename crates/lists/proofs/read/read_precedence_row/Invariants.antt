-- i precedences are read and held, and the row reads as they do, followed by what is left of it after `last`.
use Rattle.std.specs.Prelude.{None, Some}
use Rattle.parts.specs.Precedences.{unlagged}
use Rattle.parts.specs.Parts.{precedence, precedence_tests}
use Rattle.parts.specs.Sizes.{no_precedence}
use Rattle.lists.proofs.Rows.{Along}
use Rattle.lists.proofs.read.read_precedence_row.Given as goal

abbrev pub invariant-loop-i : goal.invariant-loop-i
invariant-loop-i l =
    Along precedence (precedence_tests l.n) unlagged (λ _ o. Some o) None 90 no_precedence l.m l.rest.at l.rest.bytes.now l.last l.precedences l.i
    l.left.at l.left.bytes.now
