-- Each lag is tested.
use Rattle.prelude.specs.Names.{rules, eqb, not, ◌∙◌}
use Rattle.std.proofs.lemmas.Iterator.{YieldsList-from_slice}
use Rattle.std.proofs.lemmas.Iterator.Search.{any_from_yields_List}
use borrow.Author.Tests.{tests}
use Rattle.parts.specs.declared.Precedence.{Precedence}
use Rattle.writer.proofs.Lags.{lags-any}
use Rattle.writer.proofs.counted.has_lags.Goals as goal

pub returns : goal.returns
returns c =
    any_from_yields_List (λ (o : Precedence). not (eqb o.lag 0)) _ _ _ c.any.ensures.ran (YieldsList-from_slice c.args.precedences.now (cc))
    (λ x b q k. search (rules, tests))
    ∙ lags-any c.args.precedences.now
