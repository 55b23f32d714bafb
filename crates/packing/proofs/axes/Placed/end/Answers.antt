-- `packing::axes::Placed::end` meets its contract.
use Rattle.std.proofs.Common.{rules}
use Rattle.packing.specs.Parts.{end_of}
use Rattle.packing.proofs.axes.Placed.end.Goals as goal

pub returns : goal.returns
unfolding end_of
returns c = search rules
