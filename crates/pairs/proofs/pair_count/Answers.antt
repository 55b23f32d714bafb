use Rattle.std.specs.Prelude.{◌*◌, ◌≤◌}
use Rattle.prelude.specs.Names.{arith, ℕ}
use native.Mathlib.Nat.{mul-le-mul}
use Rattle.model.specs.Pairs.{pair_number}
use Rattle.model.proofs.Pairs.{square_split}
use Rattle.pairs.proofs.pair_count.Goals as goal

square_small : (n : ℕ) → n ≤ 10 → n * n ≤ 100
square_small n h = mul-le-mul {n₁ = n} {m₁ = n} {n₂ = 10} {m₂ = 10} h h

pub overflow_mul-result : goal.overflow_mul-result
overflow_mul-result c = omega (arith, square_small c.args.n c.requires)

pub overflow_sub-result : goal.overflow_sub-result
overflow_sub-result c = omega (arith, square_split c.args.n)

pub returns : goal.returns
unfolding pair_number
returns c = omega (arith, square_split c.args.n)
