-- `packing::feasible::is_kept` meets its contract.
use Rattle.std.proofs.Common.{◌∙◌}
use Rattle.packing.specs.Parts.{precedence_kept}
use Rattle.packing.proofs.feasible.is_kept.Goals as goal

pub returns : goal.returns
unfolding precedence_kept
returns c = c.ends_ahead.ensures ∙ rw (c.new-first.ensures, c.new-second.ensures, c.from.ensures, c.from-2.ensures)
