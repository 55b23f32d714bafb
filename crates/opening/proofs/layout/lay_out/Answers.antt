-- An item that is too large is one of the problem's; where there is none, the steps and the lags are put.
use Rattle.prelude.specs.Names.{arith}
use Rattle.instance.proofs.Arrays.{length_mapped}
use Rattle.instance.proofs.Sheets.{valid-says}
use Rattle.opening.proofs.Sound.{valid-sound, allowed-wide}
use Rattle.opening.proofs.Roots.{root_tabled}
use Rattle.opening.proofs.Lags.{measures-kept}
use Rattle.opening.proofs.Fitting.{large_item, all-fits}
use Rattle.opening.proofs.layout.lay_out.Goals as goal

pub returns-then-any_large : goal.returns-then-any_large
returns-then-any_large c = large_item _ c.put_items.ensures.0 (rw c.if-any_large.true at c.any_large.ensures)

pub shared_ref_as_front-put_lags : goal.shared_ref_as_front-put_lags
shared_ref_as_front-put_lags c = omega (arith, (valid-says c.args.valid.instance c.args.valid.is_valid).precedences-few)

pub put_lags-requires-clause-allowed : goal.put_lags-requires-clause-allowed
put_lags-requires-clause-allowed c =
    let says = valid-says c.args.valid.instance c.args.valid.is_valid in allowed-wide _ says.items-few _ _ says.precedences-allowed

pub put_lags-requires-clause-measures : goal.put_lags-requires-clause-measures
put_lags-requires-clause-measures c = measures-kept c.put_steps.ensures c.put_items.ensures.1

pub invariant_of-result : goal.invariant_of-result
invariant_of-result c =
    let (out, m) = c.put_items.ensures in
    let (laid, fits) = all-fits c.args.valid.instance out m (rw c.if-any_large.false at c.any_large.ensures) c.put_steps.ensures c.put_lags.ensures in
    record { tabled = root_tabled (valid-sound c.args.valid.instance c.args.valid.is_valid (search length_mapped)) laid fits }

pub returns : goal.returns
returns c =
    let (out, m) = c.put_items.ensures in
    all-fits c.args.valid.instance out m (rw c.if-any_large.false at c.any_large.ensures) c.put_steps.ensures c.put_lags.ensures
