use Rattle.prelude.specs.Names.{rules}
use Rattle.buffers.specs.Checkpoints.{checkpoint_in}
use Rattle.buffers.proofs.checkpoints.read_checkpoint.Goals as goal

pub returns : goal.returns
unfolding checkpoint_in
returns c = search rules
