use Rattle.std.proofs.lemmas.Result.{err_from_is_err_and}
use Rattle.sheet.specs.Sheet.{max_precedences, precedence_list}
use Rattle.lists.proofs.Counted.{list_run, count-within}
use Rattle.lists.proofs.read.read_precedences.Goals as goal

pub returns-in_err-m : goal.returns-in_err-m
unfolding precedence_list
returns-in_err-m c =
    let p = err_from_is_err_and c.from_residual.result c.from_residual.ensures.1 in rw (p.1, p.2, list_run, c.in_err-m.ensures)

pub read_precedence_row-requires : goal.read_precedence_row-requires
read_precedence_row-requires c = count-within max_precedences c.args.present c.args.rest.at c.args.rest.bytes.now c.in_ok-m.ensures

pub returns : goal.returns
unfolding precedence_list
returns c = rw (list_run, c.in_ok-m.ensures) c.read_precedence_row.ensures
