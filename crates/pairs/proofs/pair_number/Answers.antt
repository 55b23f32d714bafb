use Rattle.prelude.specs.Names.{arith}
use Rattle.model.proofs.Pairs.{number_split, pair-count-small}
use Rattle.pairs.proofs.pair_number.Goals as goal

pub overflow_add-result : goal.overflow_add-result
overflow_add-result c = omega (arith, c.pair_count.ensures, c.requires, pair-count-small c.args.v)

pub returns : goal.returns
returns c = omega (arith, c.pair_count.ensures, number_split c.args.u c.args.v)
