use Rattle.chains.proofs.Cutting.{compared, stepping, too_long}
use Rattle.chains.proofs.totals.Totals.too_long_with_gaps.Goals as goal

pub overflow_sub-limit : goal.overflow_sub-limit
overflow_sub-limit c = compared c.args.self.now.tabled c.requires

pub above_with_gaps-requires : goal.above_with_gaps-requires
above_with_gaps-requires c = stepping c.args.self.now.tabled c.requires

pub returns : goal.returns
returns c = rw c.bit.ensures.0 (too_long c.args.self.now.tabled c.requires c.above_with_gaps.ensures)
