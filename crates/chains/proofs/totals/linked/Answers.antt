use Rattle.std.specs.Prelude.{◌/◌, ◌*◌, ◌^◌}
use Rattle.prelude.specs.Names.{and-true, arith, bit_and}
use Rattle.domains.proofs.BitLaws.{bit-and, bit_shr, bit_ones, and_small-right}
use Rattle.chains.proofs.totals.linked.Goals as goal

pub returns : goal.returns
returns c = record {
  small = and_small-right 10 (bit_and c.args.row (c.args.row / 2 ^ (c.args.x * 10))) 1023 (omega arith);
  is = λ z h. simp (bit-and, bit_shr, bit_ones 10 z h, and-true);
}
