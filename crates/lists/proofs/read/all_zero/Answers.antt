use Rattle.prelude.specs.Names.{rules, ◌∙◌, eqb}
use Rattle.std.proofs.lemmas.Iterator.{YieldsList-from_slice}
use Rattle.std.proofs.lemmas.Iterator.Search.{all_from_yields_List}
use borrow.Author.Tests.{tests}
use Rattle.lists.proofs.Lags.{lags_zero-all}
use Rattle.lists.proofs.read.all_zero.Goals as goal

pub returns : goal.returns
returns c =
    all_from_yields_List (λ g. eqb g 0) _ _ _ c.all.ensures.ran (YieldsList-from_slice c.args.lags.now cc) (λ x b q k. search (rules, tests))
    ∙ lags_zero-all c.args.lags.now
