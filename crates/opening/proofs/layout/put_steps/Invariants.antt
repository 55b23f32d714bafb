-- Invariant: the first i rows are put.
use Rattle.opening.specs.Layout.{Stepped}
use Rattle.opening.proofs.layout.put_steps.Given as goal

abbrev pub invariant-loop-i : goal.invariant-loop-i
invariant-loop-i l = Stepped l.i l.fn.t l.t
