-- Invariant: totals are raised along links from v to the items alone, and go on along those to the items that are no longer left.
use Rattle.chains.proofs.Relaxing.{Partway}
use Rattle.chains.proofs.totals.Totals.link_each.Given as goal

abbrev pub invariant-loop-z : goal.invariant-loop-z
invariant-loop-z l = Partway l.v l.items l.own l.a l.fn.self.numbers l.self.numbers l.z-iterator.left l.grown
