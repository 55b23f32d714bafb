-- `turning::turned` meets its contract: each of the ten items is turned or not, by its mark.
use Rattle.std.proofs.Common.{get_or, rules}
use Rattle.parts.specs.Sizes.{no_item}
use Rattle.turning.specs.Turned.{marks_in, turned_item, turned_instance, turned_items}
use Rattle.turning.proofs.Calls.{made_ten}
use Rattle.turning.proofs.turned.Goals as goal

pub returns : goal.returns
unfolding turned_instance turned_items
returns c =
    let a = c.args in
    rw (made_ten _ _ (λ u. turned_item (marks_in a.marks u) (get_or a.instance.items u no_item)) _ no_item (λ k y q l h. search rules)
    c.from_fn-items.ensures.items)
