use Rattle.prelude.specs.Names.{◌∙◌}
use Rattle.instance.proofs.Sheets.{valid-says}
use Rattle.search.proofs.Series.{infeasible_last, infeasible_early}
use Rattle.search.proofs.choices.repeat_infeasible.Goals as goal

pub last_choice-requires : goal.last_choice-requires
last_choice-requires c = (valid-says _ c.args.valid.is_valid).items-few

pub returns-then-last_choice-checkpoint : goal.returns-then-last_choice-checkpoint
returns-then-last_choice-checkpoint c = λ budget. let a = c.args in
    c.refused.ensures ∙ infeasible_early a.valid.instance a.checkpoint budget (λ e. c.if-last_choice-checkpoint.true (c.last_choice.ensures.0 ∙ e))

pub returns : goal.returns
returns c = λ budget. let a = c.args in
    c.infeasible.ensures ∙ infeasible_last a.valid.instance a.checkpoint budget c.last_choice.ensures.0 c.if-last_choice-checkpoint.false
