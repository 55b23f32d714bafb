use Rattle.std.specs.Prelude.{◌≡◌, ◌+◌, ◌/◌}
use Rattle.prelude.specs.Names.{true, ap, ◌∙◌, ℕ, arith}
use Rattle.model.specs.Earliest.{earliest_finish}
use Rattle.instance.proofs.Arrays.{length_mapped}
use Rattle.instance.proofs.Sheets.{valid-says}
use Rattle.turning.specs.Turned.{turnable_of}
use Rattle.opening.proofs.Sound.{valid-sound}
use Rattle.model.specs.Admits.{Sound}
use Rattle.instance.specs.Valid.{valid}
use Rattle.instance.specs.declared.Instance.{Instance}
use Rattle.makespan.specs.declared.finish.Finish.{Finish}
use Rattle.makespan.specs.Results.{finish_of, finish_refused, finish_result, spent_finish, choices_of}
use Rattle.makespan.proofs.Lengths.{within_known}
use Rattle.makespan.proofs.earliest_finish.Goals as goal

-- on a valid instance
valid_finish : (i : Instance) (budget : ℕ) → valid i ≡ true → {r : Finish} → r ≡ finish_of (turnable_of i) (earliest_finish (turnable_of i) budget)
    → r ≡ finish_result i budget
unfolding finish_result
valid_finish i budget v e = rw v e

pub returns-in_default-clause-value : goal.returns-in_default-clause-value
unfolding finish_result finish_refused
returns-in_default-clause-value c = rw c.in_default.ensures.0 c.without_packing.ensures

pub last_choice-requires : goal.last_choice-requires
last_choice-requires c = (valid-says _ c.in-Ok.valid.is_valid).items-few

pub returns-then-affordable-from-clause-value : goal.returns-then-affordable-from-clause-value
unfolding spent_finish turnable_of
returns-then-affordable-from-clause-value c =
    let i = c.in-Ok.valid.instance in
    let a = c.args in
    let sound : Sound (turnable_of i).given = valid-sound i c.in-Ok.valid.is_valid (rw c.in-Ok.ensures (search length_mapped)) in
    let choices : c.from-choices.result + 1 ≡ choices_of (turnable_of i) = omega (arith, c.from-choices.ensures, c.last_choice.ensures.0) in
    rw (← c.in-Ok.ensures) (valid_finish i a.budget c.in-Ok.valid.is_valid (c.without_packing-then-affordable-from.ensures
    ∙ within_known (turnable_of i) sound c.conflicts-known.result a.budget c.conflicts-known.ensures _ (ap (λ (w : ℕ). a.budget / w) choices)
    (omega (arith, c.if-affordable-from.true, c.from.ensures))))

pub returns-clause-value : goal.returns-clause-value
returns-clause-value c = rw (← c.in-Ok.ensures) (valid_finish c.in-Ok.valid.instance c.args.budget c.in-Ok.valid.is_valid c.try_lengths.ensures)
