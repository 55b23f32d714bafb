-- `test_values::bytes_at` meets its contract.
use Rattle.std.proofs.Common.{rules}
use Rattle.test_values.proofs.Tables.{table}
use Rattle.test_values.proofs.bytes_at.Goals as goal

pub returns : goal.returns
returns g c = table _ _ _ _ (λ i y q l k. search rules) _ c.from_fn.ensures.items
