use Rattle.prelude.specs.Names.{arith}
use Rattle.std.proofs.lemmas.Result.{err_from_is_err_and}
use Rattle.lists.proofs.Rows.{along-start, along-next, along-refused, along-done}
use Rattle.lists.proofs.read.read_precedence_row.Goals as goal

pub loop-i-init : goal.loop-i-init
loop-i-init c = along-start c.no_precedences-precedences.ensures

pub loop-i-preserved : goal.loop-i-preserved
loop-i-preserved c = along-next c.loop-i.invariant c.requires (omega arith) c.in_ok-o.ensures

pub returns-in_err-o : goal.returns-in_err-o
returns-in_err-o c =
    let p = err_from_is_err_and c.from_residual.result c.from_residual.ensures.1 in
    rw (p.1, p.2) (along-refused c.loop-i.invariant (omega arith) c.in_err-o.ensures)

pub returns : goal.returns
returns c = (along-done c.loop-i.invariant c.requires (omega arith)).0
