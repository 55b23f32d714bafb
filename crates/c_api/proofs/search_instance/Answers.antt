-- `c_api::search_instance` meets its contract.
use Rattle.std.specs.Prelude.{◌≡◌}
use Rattle.prelude.specs.Names.{sym, ap, ◌∙◌, length}
use Rattle.instance.proofs.Arrays.{length_mapped}
use Rattle.instance.specs.declared.Checkpoint.{Checkpoint}
use Rattle.search.specs.Results.{result_refused, search_result}
use Rattle.c_api.proofs.Outcomes.{lengths_exactly, wrong_lengths, no-checkpoint, as_searched, path_fits}
use Rattle.c_api.proofs.Sheets.{few_items}
use Rattle.c_api.proofs.search_instance.Goals as goal

pub returns-then-not-lengths_fit : goal.returns-then-not-lengths_fit
unfolding result_refused
returns-then-not-lengths_fit c =
    let a = c.args in
    let e = wrong_lengths a.valid.instance a.note.now a.allowance a.steps.now a.plan.now (sym c.lengths_fit.ensures ∙ c.if-not-lengths_fit.true) in
    record { value = rw e; note_after = rw e; steps_after = rw e; plan_after = rw e }

pub returns-then-not-is_checkpoint : goal.returns-then-not-is_checkpoint
unfolding result_refused
returns-then-not-is_checkpoint c =
    let a = c.args in
    let fit = sym c.lengths_fit.ensures ∙ c.if-not-lengths_fit.false in
    let e = no-checkpoint a.valid.instance a.note.now a.allowance a.steps.now a.plan.now fit (sym c.is_checkpoint.ensures ∙ c.if-not-is_checkpoint.true) in
    record { value = rw e; note_after = rw e; steps_after = rw e; plan_after = rw e }

pub hand_over-requires : goal.hand_over-requires
hand_over-requires c =
    let a = c.args in
    let i = a.valid.instance in
    let long : length i.items ≡ 10 = search (length_mapped, c.well_formed) in
    let l = (lengths_exactly i a.note.now a.steps.now a.plan.now).0 (sym c.lengths_fit.ensures ∙ c.if-not-lengths_fit.false) in
    record {
      path_fits = rw c.search-result.ensures.value (path_fits i a.valid.is_valid long c.read_checkpoint-checkpoint.result a.allowance);
      note_len = (l.note_is, l.steps_are, l.plan_is, few_items i a.valid.is_valid);
    }

-- the result of the search is the call's
pub returns : goal.returns
returns c =
    let a = c.args in
    let i = a.valid.instance in
    let fit = sym c.lengths_fit.ensures ∙ c.if-not-lengths_fit.false in
    let held = sym c.is_checkpoint.ensures ∙ c.if-not-is_checkpoint.false in
    let read = ap (λ (x : Checkpoint). search_result i x a.allowance) c.read_checkpoint-checkpoint.ensures in
    let e = as_searched i a.note.now a.allowance a.steps.now a.plan.now a.valid.is_valid fit held ∙ sym (c.search-result.ensures.value ∙ read) in
    let left = c.hand_over.ensures in
    record { value = rw e left.value; note_after = rw e left.note_after; steps_after = rw e left.steps_after; plan_after = rw e left.plan_after }
