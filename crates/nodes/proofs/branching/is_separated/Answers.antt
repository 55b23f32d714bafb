-- The bits of 21 are the domains in which "before" is known.
use Rattle.prelude.specs.Names.{◌∙◌}
use Rattle.nodes.proofs.Choosing.{separates-is}
use Rattle.nodes.proofs.branching.is_separated.Goals as goal

pub returns : goal.returns
returns c = c.has.ensures ∙ separates-is _ c.requires
