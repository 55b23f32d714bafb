-- `c_api::check_plan` meets its contract.
use Rattle.std.specs.Prelude.{◌≡◌, Ok, Err}
use Rattle.prelude.specs.Names.{sym, ◌∙◌, arith, ne_eqb}
use Rattle.std.proofs.lemmas.Result.{err_from_is_err_and}
use Rattle.packing.specs.Check.{check_answer}
use Rattle.c_api.proofs.Outcomes.{checked-is}
use Rattle.c_api.proofs.Sheets.{yes_or_no, read_few, check_read, check_refused}
use Rattle.c_api.proofs.check_plan.Goals as goal

pub returns-in_err-instance : goal.returns-in_err-instance
returns-in_err-instance c =
    let p = err_from_is_err_and c.from_residual.result c.from_residual.ensures.1 in
    rw (p.1, p.2) (sym (check_refused c.args.sheet.now c.in_err-instance.ensures c.args.plan.now))

pub overflow_mul-n : goal.overflow_mul-n
overflow_mul-n c = omega (arith, read_few c.args.sheet.now c.in_ok-instance.ensures (λ j. (c.type_inv.sheet j).fits))

pub returns-then-plan-n : goal.returns-then-plan-n
returns-then-plan-n c = rw (check_read c.args.sheet.now c.in_ok-instance.ensures c.args.plan.now, ne_eqb _ _ c.if-plan-n.true)

pub read_packing-packing-requires : goal.read_packing-packing-requires
read_packing-packing-requires c = (read_few c.args.sheet.now c.in_ok-instance.ensures (λ j. (c.type_inv.sheet j).fits), c.if-plan-n.false)

pub returns-in_err-fits : goal.returns-in_err-fits
returns-in_err-fits c =
    let p = err_from_is_err_and c.from_residual-in_err-fits.result c.from_residual-in_err-fits.ensures.1 in
    let is : Err c.in_err-fits.field-0.0 ≡ check_answer c.in_ok-instance.instance c.read_packing-packing.result = grind arith in
    rw (p.1, p.2, check_read c.args.sheet.now c.in_ok-instance.ensures c.args.plan.now)
    (checked-is _ c.args.plan.now _ (Err c.in_err-fits.field-0.0) c.if-plan-n.false c.read_packing-packing.ensures is)

pub returns : goal.returns
returns c =
    let is : Ok c.in_ok-fits.fits ≡ check_answer c.in_ok-instance.instance c.read_packing-packing.result = grind arith in
    rw (check_read c.args.sheet.now c.in_ok-instance.ensures c.args.plan.now)
    (c.from.ensures ∙ yes_or_no c.in_ok-fits.fits
    ∙ checked-is _ c.args.plan.now _ (Ok c.in_ok-fits.fits) c.if-plan-n.false c.read_packing-packing.ensures is)
