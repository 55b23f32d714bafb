use Rattle.prelude.specs.Names.{rules}
use Rattle.buffers.specs.Bytes.{step_bytes}
use Rattle.buffers.proofs.words.write_steps.Goals as goal

pub returns : goal.returns
unfolding step_bytes
returns c = search rules
