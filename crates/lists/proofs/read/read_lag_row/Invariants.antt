-- i lags are read and held, and the row reads as they do, followed by what is left of it.
use Rattle.prelude.specs.Names.{[]}
use Rattle.formats.specs.Formats.{byte}
use Rattle.lists.proofs.Rows.{Along}
use Rattle.lists.proofs.read.read_lag_row.Given as goal

abbrev pub invariant-loop-i : goal.invariant-loop-i
invariant-loop-i l =
    Along byte (λ (_ : Unit {0}) _. []) (λ x. x) (λ p _. p) tt 90 0 l.m l.rest.at l.rest.bytes.now tt l.lags l.i l.left.at l.left.bytes.now
