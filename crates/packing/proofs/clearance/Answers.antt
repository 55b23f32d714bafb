-- `packing::clearance` meets its contract.
use Rattle.std.proofs.Common.{◌≡◌, ◌<◌, true, Ok, ap, ◌∙◌, length, arith, lt-ltb, le-ltb}
use Rattle.prelude.specs.Names.{and-false}
use Rattle.std.proofs.lemmas.Result.{err_from_is_err_and}
use Rattle.instance.specs.Valid.{valid}
use Rattle.instance.specs.Meaning.{problem_of}
use Rattle.instance.proofs.Arrays.{length_mapped}
use Rattle.instance.proofs.Sheets.{valid-says}
use Rattle.turning.proofs.Problems.{problem-turned}
use Rattle.packing.specs.Check.{turned_by}
use Rattle.packing.specs.Clearance.{clearance_answer}
use Rattle.packing.proofs.Answers.{answers_by}
use Rattle.packing.proofs.Loops.{axis_number-small}
use mir.Syntax.{w32}
use mir.Val.{to_z, of_z}
use Rattle.packing.proofs.Gaps.{i32_value}
use Rattle.packing.proofs.clearance.Goals as goal
use Rattle.packing.proofs.clearance.Goals.{then-instance-u-via-then-instance-u, then-instance-u-via-else-instance-u+then-instance-v}

pub returns-in_err-valid-clause-value : goal.returns-in_err-valid-clause-value
unfolding clearance_answer
returns-in_err-valid-clause-value c =
    let p = err_from_is_err_and c.from_residual.result c.from_residual.ensures.1 in
    rw (p.1, p.2, c.in_err-valid.ensures.0, c.in_err-valid.ensures.1)

pub returns-in_err-valid-clause-answers : goal.returns-in_err-valid-clause-answers
returns-in_err-valid-clause-answers c = answers_by _ _ _ _ _ _ (returns-in_err-valid-clause-value c)

pub returns-then-instance-u-clause-value : goal.returns-then-instance-u-clause-value
unfolding clearance_answer
returns-then-instance-u-clause-value c =
    let v : valid c.args.instance ≡ true = rw c.in_ok-valid.ensures at c.in_ok-valid.valid.is_valid in
    elim c.then-instance-u.branch [
      | then-instance-u-via-then-instance-u w ↦ rw (v, le-ltb _ _ w.if-instance-u.true)
      | then-instance-u-via-else-instance-u+then-instance-v w ↦ rw (v, le-ltb _ _ w.if-instance-v.true, and-false)
    ]

pub returns-in_err-axis-clause-value : goal.returns-in_err-axis-clause-value
unfolding clearance_answer
returns-in_err-axis-clause-value c =
    let v : valid c.args.instance ≡ true = rw c.in_ok-valid.ensures at c.in_ok-valid.valid.is_valid in
    let p = err_from_is_err_and c.from_residual-in_err-axis.result c.from_residual-in_err-axis.ensures.1 in
    rw (p.1, p.2, v, lt-ltb _ _ c.if-instance-u.false, lt-ltb _ _ c.if-instance-v.false, le-ltb _ _ c.in_err-axis.ensures.1, c.in_err-axis.ensures.0)

pub returns-in_err-turned-clause-value : goal.returns-in_err-turned-clause-value
unfolding clearance_answer
returns-in_err-turned-clause-value c =
    let v : valid c.args.instance ≡ true = rw c.in_ok-valid.ensures at c.in_ok-valid.valid.is_valid in
    let (marked, is) = rw c.in_ok-valid.ensures at c.in_err-turned.ensures in
    let p = err_from_is_err_and c.from_residual-in_err-turned.result c.from_residual-in_err-turned.ensures.1 in
    let s : c.args.axis < 3 = rw c.in_ok-axis.ensures at (axis_number-small c.in_ok-axis.axis) in
    rw (
      p.1,
      p.2,
      v,
      lt-ltb _ _ c.if-instance-u.false,
      lt-ltb _ _ c.if-instance-v.false,
      lt-ltb _ _ s,
      marked,
      is,
    )

pub returns-in_err-turned-clause-answers : goal.returns-in_err-turned-clause-answers
returns-in_err-turned-clause-answers c = answers_by _ _ _ _ _ _ (returns-in_err-turned-clause-value c)

pub clearance_on-requires : goal.clearance_on-requires
clearance_on-requires c =
    let v : valid c.args.instance ≡ true = rw c.in_ok-valid.ensures at c.in_ok-valid.valid.is_valid in
    omega (arith, (valid-says _ v).items-few)

value : (c : goal.After-clearance_on)
    → Ok (to_z w32 (of_z w32 c.clearance_on.result)) ≡ clearance_answer c.args.instance c.args.packing c.args.u c.args.v c.args.axis
unfolding clearance_answer
value c =
    let v : valid c.args.instance ≡ true = rw c.in_ok-valid.ensures at c.in_ok-valid.valid.is_valid in
    let s : c.args.axis < 3 = rw c.in_ok-axis.ensures at (axis_number-small c.in_ok-axis.axis) in
    let long : length c.args.instance.items ≡ 10 = search (length_mapped, c.well_formed) in
    let (marked, is) = rw c.in_ok-valid.ensures at c.in_ok-turned.ensures in
    let p : problem_of c.in_ok-turned.turned.instance ≡ turned_by c.args.instance c.args.packing = rw is (problem-turned _ long _) in
    rw (v, lt-ltb _ _ c.if-instance-u.false, lt-ltb _ _ c.if-instance-v.false, lt-ltb _ _ s, marked)
    (ap Ok (i32_value c.clearance_on.type_inv (c.clearance_on.ensures ∙ rw (p, c.in_ok-axis.ensures))))

pub returns : goal.returns
returns c = record { value = value c; answers = answers_by _ _ _ _ _ _ (value c) }
