-- What is well formed has at most 270 branches, each first or second.
use Rattle.prelude.specs.Names.{sym}
use Rattle.tree_paths.proofs.Checkpoints.{well_formed-bits}
use Rattle.tree_paths.proofs.path.Path.of.Goals as goal

pub invariant_of-result : goal.invariant_of-result
invariant_of-result c = record { bits = well_formed-bits c.args.checkpoint (sym c.if-not-is_well_formed.ensures) }
