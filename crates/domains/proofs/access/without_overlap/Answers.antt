use Rattle.std.specs.Prelude.{◌/◌}
use Rattle.prelude.specs.Names.{arith}
use Rattle.model.specs.Domains.{domain, overlap_bit, before_bit, after_bit}
use Rattle.domains.proofs.BitLaws.{weigh}
use Rattle.domains.proofs.access.without_overlap.Goals as goal

pub returns : goal.returns
returns c = unfold domain overlap_bit before_bit after_bit in
    omega (arith, weigh c.args.m 1, weigh (c.args.m / 2) 2, weigh (c.args.m / 4) 4)
