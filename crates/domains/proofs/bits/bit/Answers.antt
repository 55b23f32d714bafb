use Rattle.prelude.specs.Names.{arith, pow-lt}
use Rattle.domains.proofs.bits.bit.Goals as goal

pub returns : goal.returns
returns c = let small = pow-lt {i = c.args.i} {j = 30} c.requires in omega (arith, small)
