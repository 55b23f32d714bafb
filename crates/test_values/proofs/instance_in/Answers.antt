-- `test_values::instance_in` meets its contract.
use Rattle.std.proofs.Common.{rules, ◌+◌, ◌*◌}
use Rattle.test_values.proofs.Tables.{table}
use Rattle.test_values.specs.Values.{item_in, precedence_in, instance_in}
use Rattle.test_values.proofs.instance_in.Goals as goal

pub returns : goal.returns
unfolding instance_in
returns c =
    let s = c.args.s.now in
    let items = table _ _ (λ i. item_in s (14 + 6 * i) (355 + i)) _ (λ i y q l k. search rules) _ c.from_fn.ensures.items in
    let precedences = table _ _ (λ i. precedence_in s (82 + 3 * i)) _ (λ i y q l k. search rules) _ c.from_fn-2.ensures.items in
    rw (c.size_at.ensures, items, c.number_at.ensures, precedences, c.number_at-2.ensures, c.word_at.ensures, c.byte_at.ensures)
