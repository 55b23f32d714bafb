-- `packing::axes::Placed::is_apart_from` meets its contract.
use Rattle.packing.specs.Parts.{apart_on}
use Rattle.packing.proofs.axes.Placed.is_apart_from.Goals as goal

pub returns-then-ends_ahead : goal.returns-then-ends_ahead
unfolding apart_on
returns-then-ends_ahead c = rw (← c.spacing_of-space.ensures, ← c.ends_ahead.ensures, c.if-ends_ahead.true)

pub returns-else-ends_ahead : goal.returns-else-ends_ahead
unfolding apart_on
returns-else-ends_ahead c = rw (← c.spacing_of-space.ensures, ← c.ends_ahead.ensures, c.if-ends_ahead.false) c.ends_ahead-else-ends_ahead.ensures
