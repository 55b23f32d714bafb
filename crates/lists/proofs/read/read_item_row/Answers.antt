use Rattle.prelude.specs.Names.{arith, ◌∙◌}
use Rattle.std.proofs.lemmas.Result.{err_from_is_err_and}
use Rattle.formats.proofs.Laws.{untested}
use Rattle.parts.specs.Parts.{item}
use Rattle.lists.proofs.Rows.{along-next, along-refused, along-done, read_same, row_same}
use Rattle.lists.proofs.read.read_item_row.Goals as goal

pub loop-i-preserved : goal.loop-i-preserved
loop-i-preserved c = along-next c.loop-i.invariant c.requires (omega arith) (read_same _ ∙ untested item _ _ ∙ c.in_ok-item.ensures)

pub returns-in_err-item : goal.returns-in_err-item
returns-in_err-item c =
    let p = err_from_is_err_and c.from_residual.result c.from_residual.ensures.1 in
    rw (p.1, p.2) (rw row_same at (along-refused c.loop-i.invariant (omega arith) (read_same _ ∙ untested item _ _ ∙ c.in_err-item.ensures)))

pub returns : goal.returns
returns c = rw row_same at (along-done c.loop-i.invariant c.requires (omega arith)).0
