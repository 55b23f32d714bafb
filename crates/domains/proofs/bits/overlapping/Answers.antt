use Rattle.std.specs.Prelude.{◌/◌, ◌^◌}
use Rattle.prelude.specs.Names.{arith}
use Rattle.domains.proofs.BitLaws.{bit-and, bit_shr, and_small-right}
use Rattle.domains.proofs.bits.overlapping.Goals as goal

pub returns : goal.returns
returns c = let m = c.args.row in
    record { small = and_small-right 10 (m / 2 ^ 10) (m / 2 ^ 20) (omega arith); is = λ v h. simp (bit-and, bit_shr) }
