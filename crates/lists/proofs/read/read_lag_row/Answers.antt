use Rattle.prelude.specs.Names.{arith, ◌∙◌}
use Rattle.std.proofs.lemmas.Result.{err_from_is_err_and}
use Rattle.formats.specs.Formats.{byte, row}
use Rattle.formats.proofs.Laws.{untested}
use Rattle.parts.specs.Parts.{lag_row}
use Rattle.lists.proofs.Rows.{along-next, along-refused, along-done, read_same, row_same}
use Rattle.lists.proofs.read.read_lag_row.Goals as goal

pub loop-i-preserved : goal.loop-i-preserved
loop-i-preserved c = along-next c.loop-i.invariant c.requires (omega arith) (read_same _ ∙ untested byte _ _ ∙ c.in_ok-lag.ensures)

pub returns-in_err-lag-clause-value : goal.returns-in_err-lag-clause-value
unfolding lag_row row
returns-in_err-lag-clause-value c =
    let p = err_from_is_err_and c.from_residual.result c.from_residual.ensures.1 in
    rw (p.1, p.2) (rw row_same at (along-refused c.loop-i.invariant (omega arith) (read_same _ ∙ untested byte _ _ ∙ c.in_err-lag.ensures)))

pub returns-clause-value : goal.returns-clause-value
unfolding lag_row row
returns-clause-value c = rw row_same at (along-done c.loop-i.invariant c.requires (omega arith)).0

pub returns-clause-padded : goal.returns-clause-padded
returns-clause-padded c = (along-done c.loop-i.invariant c.requires (omega arith)).1
