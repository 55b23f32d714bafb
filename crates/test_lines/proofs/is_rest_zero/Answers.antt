-- `test_lines::is_rest_zero` meets its contract: each of the two tests comes out as that of all entries past its count.
use Rattle.std.proofs.Common.{rules, ◌≡◌, ◌∙◌, drop}
use Rattle.std.proofs.lemmas.Iterator.{YieldsList-from_slice}
use Rattle.std.proofs.lemmas.Iterator.Adapters.{YieldsList-from_skip}
use Rattle.std.proofs.lemmas.Iterator.Search.{all_from_yields_List}
use borrow.Author.Tests.{tests}
use Rattle.model.specs.Below.{all_in}
use Rattle.test_lines.specs.Rest.{item_zero, precedence_zero}
use Rattle.test_lines.proofs.Rests.{all-in}
use Rattle.test_lines.proofs.is_rest_zero.Goals as goal
use Rattle.test_lines.proofs.is_rest_zero.Goals.{After-all-precedences}

items_tested : (c : After-all-precedences) → c.all-items.result ≡ all_in item_zero (drop c.args.instance.now.item_count c.args.instance.now.items)
items_tested c =
    let i = c.args.instance.now in
    all_from_yields_List item_zero _ _ _ c.all-items.ensures.ran
    (YieldsList-from_skip i.item_count (YieldsList-from_slice i.items cc) c.skip.ensures.count)
    (λ x b q k. search (rules, tests))
    ∙ all-in item_zero (drop i.item_count i.items)

precedences_tested : (c : After-all-precedences) → c.all-precedences.result ≡ all_in precedence_zero (drop c.args.instance.now.precedence_count c.args.instance.now.precedences)
precedences_tested c =
    let i = c.args.instance.now in
    all_from_yields_List precedence_zero _ _ _ c.all-precedences.ensures.ran
    (YieldsList-from_skip i.precedence_count (YieldsList-from_slice i.precedences cc) c.skip-2.ensures.count)
    (λ x b q k. search (rules, tests))
    ∙ all-in precedence_zero (drop i.precedence_count i.precedences)

pub returns-then-items : goal.returns-then-items
returns-then-items c = rw (← items_tested c.before, c.if-items.true, precedences_tested c.before)

pub returns-else-items : goal.returns-else-items
returns-else-items c = rw (← items_tested c.before, c.if-items.false)
