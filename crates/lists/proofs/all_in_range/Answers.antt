use Rattle.prelude.specs.Names.{rules, ◌∙◌}
use Rattle.std.proofs.lemmas.Iterator.{YieldsList-from_slice}
use Rattle.std.proofs.lemmas.Iterator.Search.{all_from_yields_List}
use Rattle.parts.specs.Sizes.{size_in_range}
use Rattle.lists.proofs.Valid.{all_in_range-all}
use Rattle.lists.proofs.all_in_range.Goals as goal

pub returns : goal.returns
returns c =
    all_from_yields_List (λ i. size_in_range i.size) _ _ _ c.all.ensures.ran (YieldsList-from_slice c.args.items.now cc) (λ x b q k. search rules)
    ∙ all_in_range-all c.args.items.now
