use Rattle.prelude.specs.Names.{refl, arith}
use Rattle.domains.specs.Bits.{lowest_bit}
use Rattle.domains.proofs.BitLaws.{lowest_in}
use Rattle.domains.proofs.bits.lowest.Goals as goal

pub returns : goal.returns
returns c = unfold lowest_bit in let (below, is) = lowest_in 30 c.args.row (omega arith) c.requires.0 c.requires.1 in (refl, below, is)
