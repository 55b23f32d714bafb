-- `c_api::count_pieces` meets its contract.
use Rattle.prelude.specs.Names.{sym, arith}
use Rattle.std.proofs.lemmas.Result.{err_from_is_err_and}
use Rattle.c_api.proofs.Sheets.{read_few, pieces_read, pieces_refused}
use Rattle.c_api.proofs.count_pieces.Goals as goal

pub returns-in_err-instance : goal.returns-in_err-instance
returns-in_err-instance c =
    let p = err_from_is_err_and c.from_residual.result c.from_residual.ensures.1 in
    rw (p.1, p.2) (sym (pieces_refused c.args.sheet.now c.in_err-instance.ensures))

pub overflow_cast-result : goal.overflow_cast-result
overflow_cast-result c = omega (arith, read_few c.args.sheet.now c.in_ok-instance.ensures (λ j. (c.type_inv.sheet j).fits))

pub returns : goal.returns
returns c = sym (pieces_read c.args.sheet.now c.in_ok-instance.ensures)
