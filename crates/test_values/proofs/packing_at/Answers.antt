-- `test_values::packing_at` meets its contract.
use Rattle.std.proofs.Common.{rules, ◌+◌, ◌*◌}
use Rattle.test_values.proofs.Tables.{table}
use Rattle.test_values.specs.Values.{position_in, packing_at}
use Rattle.test_values.proofs.packing_at.Goals as goal

pub returns : goal.returns
unfolding packing_at
returns c =
    let positions = table _ _ (λ u. position_in c.args.s.now (c.args.at + 6 * u)) _ (λ i y q l k. search rules) _ c.from_fn.ensures.items in
    rw (positions, c.bytes_at.ensures)
