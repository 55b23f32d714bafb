use Rattle.std.specs.Prelude.{◌+◌, ◌*◌}
use Rattle.prelude.specs.Names.{arith, ap, ℕ}
use Rattle.model.specs.Domains.{index}
use Rattle.model.proofs.Slots.{index-small}
use Rattle.domains.proofs.access.index.Goals as goal

pub overflow_mul-result : goal.overflow_mul-result
unfolding index
overflow_mul-result c = omega (arith, index-small c.requires)

pub overflow_add-result : goal.overflow_add-result
unfolding index
overflow_add-result c = omega (arith, index-small c.requires)

pub returns : goal.returns
unfolding index
returns c = (ap (λ (n : ℕ). n * 3 + c.args.a) c.pair_number.ensures, omega (arith, index-small c.requires))
