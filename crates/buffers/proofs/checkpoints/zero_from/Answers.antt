use Rattle.prelude.specs.Names.{◌∙◌, rules, drop, eqb}
use Rattle.std.proofs.Common.{tests}
use Rattle.std.proofs.lemmas.Iterator.{YieldsList-from_slice}
use Rattle.std.proofs.lemmas.Iterator.Adapters.{YieldsList-from_skip}
use Rattle.std.proofs.lemmas.Iterator.Search.{all_from_yields_List}
use Rattle.buffers.proofs.CheckpointBytes.{zero_each}
use Rattle.buffers.proofs.checkpoints.zero_from.Goals as goal

pub returns : goal.returns
returns c =
    all_from_yields_List (λ b. eqb b 0) _ _ _ c.all.ensures.ran
    (YieldsList-from_skip c.args.from (YieldsList-from_slice c.args.s.now (cc)) c.skip.ensures.count) (λ x b q k. search (rules, tests))
    ∙ zero_each (drop c.args.from c.args.s.now)
