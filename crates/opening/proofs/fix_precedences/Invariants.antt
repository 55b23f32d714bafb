-- Invariant: the precedences below the index are fixed, and fixing the rest comes to fixing all.
use Rattle.opening.proofs.Openings.{Fixing}
use Rattle.opening.proofs.fix_precedences.Given as goal

abbrev pub invariant-loop-o : goal.invariant-loop-o
invariant-loop-o l = Fixing l.precedences l.fn.store.domains l.fn.store.queue l.o-index l.store.domains l.store.rows l.store.queue
