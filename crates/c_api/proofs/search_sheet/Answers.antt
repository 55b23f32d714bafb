-- `c_api::search_sheet` meets its contract.
use Rattle.std.proofs.lemmas.Result.{err_from_is_err_and}
use Rattle.search.specs.Results.{result_refused}
use Rattle.c_api.proofs.Sheets.{read_valid, items_read, search_read, search_refused}
use Rattle.c_api.proofs.search_sheet.Goals as goal

pub returns-in_err-instance : goal.returns-in_err-instance
unfolding result_refused
returns-in_err-instance c =
    let p = err_from_is_err_and c.from_residual.result c.from_residual.ensures.1 in
    let e = search_refused c.args.sheet.now c.in_err-instance.ensures c.args.note.now c.args.allowance c.args.steps.now c.args.plan.now in
    record { value = rw (p.1, p.2, e); note_after = rw e; steps_after = rw e; plan_after = rw e }

pub invariant_of-search_instance : goal.invariant_of-search_instance
invariant_of-search_instance c = record { is_valid = read_valid c.args.sheet.now c.in_ok-instance.ensures (λ j. (c.type_inv.sheet j).fits) }

pub returns : goal.returns
returns c =
    let a = c.args in
    let e = search_read a.sheet.now c.in_ok-instance.ensures a.note.now a.allowance a.steps.now a.plan.now in
    let left = c.search_instance.ensures in
    record {
      value = rw e left.value;
      note_after = rw e left.note_after;
      steps_after = rw e left.steps_after;
      plan_after = rw (e, items_read a.sheet.now c.in_ok-instance.ensures) left.plan_after;
    }
