-- Invariant: the first u items are laid out, and nothing is above the greatest measure with its walkway.
use Rattle.opening.specs.Layout.{Measures, LaidOut}
use Rattle.opening.proofs.Layouts.{first-items}
use Rattle.opening.proofs.layout.put_items.Given as goal

abbrev pub invariant-loop-u : goal.invariant-loop-u
invariant-loop-u l = LaidOut (first-items l.fn.valid.instance.items l.walkway l.initial.t l.u) l.t × Measures l.t
