use Rattle.chains.proofs.Cutting.{compared, too_long-plain}
use Rattle.chains.proofs.totals.Totals.too_long_plain.Goals as goal

pub overflow_sub-limit : goal.overflow_sub-limit
overflow_sub-limit c = compared c.args.self.now.tabled c.requires.comparable

pub returns : goal.returns
returns c = rw c.bit.ensures.0 (too_long-plain c.args.self.now.tabled c.requires.comparable c.requires.a_value c.above.ensures)
