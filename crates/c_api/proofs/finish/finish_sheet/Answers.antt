-- `c_api::finish::finish_sheet` meets its contract.
use Rattle.std.specs.Prelude.{◌<◌}
use Rattle.prelude.specs.Names.{sym, subst, ◌∙◌}
use Rattle.std.proofs.lemmas.Result.{err_from_is_err_and}
use Rattle.search.specs.Results.{answer_number}
use Rattle.buffers.proofs.Bytes.{fills}
use Rattle.buffers.specs.Bytes.{word_bytes}
use Rattle.makespan.proofs.Claim.{small}
use Rattle.makespan.specs.Results.{finish_refused}
use Rattle.makespan.specs.declared.finish.Finish.{Finish}
use Rattle.c_api.proofs.Finishes.{finish_fits_exactly, wrong_finish, as_finished}
use Rattle.c_api.proofs.Outcomes.{not_refused}
use Rattle.c_api.proofs.Sheets.{read_valid, read_few, items_read, finish_read, finish_sheet_refused}
use Rattle.c_api.proofs.finish.finish_sheet.Goals as goal

pub returns-in_err-instance : goal.returns-in_err-instance
unfolding finish_refused
returns-in_err-instance c =
    let p = err_from_is_err_and c.from_residual.result c.from_residual.ensures.1 in
    let e = finish_sheet_refused c.args.sheet.now c.in_err-instance.ensures c.args.allowance c.args.shifts.now c.args.steps.now c.args.plan.now in
    record { value = rw (p.1, p.2, e); shifts_after = rw e; steps_after = rw e; plan_after = rw e }

pub invariant_of-valid : goal.invariant_of-valid
invariant_of-valid c = record { is_valid = read_valid c.args.sheet.now c.in_ok-instance.ensures (λ j. (c.type_inv.sheet j).fits) }

pub returns-then-not-finish_fits : goal.returns-then-not-finish_fits
unfolding finish_refused
returns-then-not-finish_fits c =
    let a = c.args in
    let e = finish_read a.sheet.now c.in_ok-instance.ensures a.allowance a.shifts.now a.steps.now a.plan.now
    ∙ wrong_finish _ a.shifts.now a.steps.now a.plan.now a.allowance (sym c.finish_fits.ensures ∙ c.if-not-finish_fits.true) in
    record { value = rw e; shifts_after = rw e; steps_after = rw e; plan_after = rw e }

pub put_answer-code-requires : goal.put_answer-code-requires
put_answer-code-requires c =
    let a = c.args in
    let l = (finish_fits_exactly c.in_ok-instance.instance a.shifts.now a.steps.now a.plan.now).0 (sym c.finish_fits.ensures ∙ c.if-not-finish_fits.false) in
    (l.steps_are, l.plan_is, read_few a.sheet.now c.in_ok-instance.ensures (λ j. (c.type_inv.sheet j).fits))

-- the finish is the call's, and is not refused
pub returns : goal.returns
returns c =
    let a = c.args in
    let i = c.in_ok-instance.instance in
    let read = c.in_ok-instance.ensures in
    let fit = sym c.finish_fits.ensures ∙ c.if-not-finish_fits.false in
    let f = c.earliest_finish-finish.result in
    let is = c.earliest_finish-finish.ensures.value in
    let put = c.put_answer-code.ensures in
    let valid_i = read_valid a.sheet.now read (λ j. (c.type_inv.sheet j).fits) in
    let served = subst (λ (g : Finish). answer_number g.answer < 100) (sym is) (small i a.allowance valid_i) in
    let word = c.write_word.ensures ∙ fills (word_bytes f.length) a.shifts.now ((finish_fits_exactly i a.shifts.now a.steps.now a.plan.now).0 fit).length_is in
    let e = finish_read a.sheet.now read a.allowance a.shifts.now a.steps.now a.plan.now
    ∙ as_finished i a.shifts.now a.steps.now a.plan.now a.allowance fit ∙ sym is in
    record {
      value = rw e put.value;
      shifts_after = rw e (word ∙ not_refused f.answer _ _ served);
      steps_after = rw e (put.steps_after ∙ not_refused f.answer _ _ served);
      plan_after = rw (e, items_read a.sheet.now read) put.plan_after;
    }
