use Rattle.prelude.specs.Names.{arith}
use Rattle.domains.proofs.BitLaws.{taken_out}
use Rattle.domains.proofs.bits.rest.Goals as goal

pub returns : goal.returns
returns c = taken_out c.args.row (omega arith) c.requires.1
