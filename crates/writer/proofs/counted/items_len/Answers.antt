-- The sum is that of the items' lengths, at most seven bytes each.
use Rattle.std.specs.Prelude.{◌≡◌}
use Rattle.prelude.specs.Names.{rules, arith, length, length-append}
use Rattle.std.specs.List.{sum_by}
use Rattle.parts.specs.Parts.{item}
use Rattle.parts.proofs.Writers.{byte_number-count, bit-most}
use Rattle.writer.proofs.Rows.{items-bytes}
use Rattle.writer.proofs.counted.items_len.Goals as goal

pub overflow_add-result : goal.overflow_add-result
overflow_add-result c =
    let e : c.sum-rows.result ≡ sum_by (λ i. length (item.bytes i)) c.args.items.now = search rules in
    grind (arith, bit-most, items-bytes)

pub returns : goal.returns
returns c =
    let e : c.sum-rows.result ≡ sum_by (λ i. length (item.bytes i)) c.args.items.now = search rules in
    grind (arith, bit-most, items-bytes, length-append, byte_number-count)
