-- `packing::check` meets its contract.
use Rattle.std.proofs.Common.{◌≡◌, Bool, true, Ok, ap, ◌∙◌, sym, length}
use Rattle.std.proofs.lemmas.Result.{err_from_is_err_and}
use Rattle.model.proofs.Below.{clash}
use Rattle.model.specs.Problem.{feasible}
use Rattle.instance.specs.declared.Instance.{Instance}
use Rattle.instance.specs.declared.Packing.{Packing}
use Rattle.instance.specs.Valid.{valid}
use Rattle.instance.specs.Meaning.{problem_of, positions_of}
use Rattle.instance.proofs.Arrays.{length_mapped}
use Rattle.turning.specs.Turned.{turned_instance, marks_allowed}
use Rattle.turning.proofs.Problems.{problem-turned}
use Rattle.packing.specs.Check.{turned_by, check_answer}
use Rattle.packing.proofs.Decides.{decides_by}
use Rattle.packing.proofs.check.Goals as goal
use Rattle.packing.proofs.check.Goals.{then-inside, else-inside}

pub returns-then-not-is_valid-clause-value : goal.returns-then-not-is_valid-clause-value
unfolding check_answer
returns-then-not-is_valid-clause-value c = rw (sym c.is_valid.ensures ∙ c.if-not-is_valid.true)

pub returns-then-not-is_valid-clause-decides : goal.returns-then-not-is_valid-clause-decides
returns-then-not-is_valid-clause-decides c = decides_by _ _ _ (returns-then-not-is_valid-clause-value c)

pub invariant_of-valid : goal.invariant_of-valid
invariant_of-valid c = record { is_valid = sym c.is_valid.ensures ∙ c.if-not-is_valid.false }

pub returns-in_err-turned-clause-value : goal.returns-in_err-turned-clause-value
unfolding check_answer
returns-in_err-turned-clause-value c =
    let v : valid c.args.instance ≡ true = sym c.is_valid.ensures ∙ c.if-not-is_valid.false in
    let (marked, is) = c.in_err-turned.ensures in
    let p = err_from_is_err_and c.from_residual.result c.from_residual.ensures.1 in
    rw (p.1, p.2, v, marked, is)

pub returns-in_err-turned-clause-decides : goal.returns-in_err-turned-clause-decides
returns-in_err-turned-clause-decides c = decides_by _ _ _ (returns-in_err-turned-clause-value c)

-- what the three conditions of the turned instance come to is the answer
module _ (i : Instance) (q : Packing) (long : length i.items ≡ 10) (v : valid i ≡ true) {t : Instance}
    (marked : marks_allowed i q.marks ≡ true) (is : t ≡ turned_instance i q.marks) where
  by_conditions : {b : Bool} → b ≡ feasible (problem_of t) (positions_of q) → Ok b ≡ check_answer i q
  unfolding check_answer
  by_conditions e =
      let p : problem_of t ≡ turned_by i q = rw is (problem-turned _ long _) in
      rw (v, marked) (ap Ok (e ∙ rw p))

pub returns-then-apart-clause-value : goal.returns-then-apart-clause-value
unfolding feasible
returns-then-apart-clause-value c =
    let long : length c.args.instance.items ≡ 10 = search (length_mapped, c.well_formed) in
    let (marked, is) = c.in_ok-turned.ensures in
    by_conditions _ _ long (sym c.is_valid.ensures ∙ c.if-not-is_valid.false) marked is elim c.if-inside.branch [
      | then-inside w ↦ rw (← c.inside.ensures, ← w.apart.ensures, w.if-inside.true, sym w.value-is ∙ c.if-apart.true) c.ordered-fits.ensures
      | else-inside w ↦ absurd (clash c.if-apart.true (w.value-is ∙ w.if-inside.false))
    ]

pub returns-then-apart-clause-decides : goal.returns-then-apart-clause-decides
returns-then-apart-clause-decides c = decides_by _ _ _ (returns-then-apart-clause-value c)

pub returns-else-apart-clause-value : goal.returns-else-apart-clause-value
unfolding feasible
returns-else-apart-clause-value c =
    let long : length c.args.instance.items ≡ 10 = search (length_mapped, c.well_formed) in
    let (marked, is) = c.in_ok-turned.ensures in
    by_conditions _ _ long (sym c.is_valid.ensures ∙ c.if-not-is_valid.false) marked is elim c.if-inside.branch [
      | then-inside w ↦ rw (← c.inside.ensures, ← w.apart.ensures, w.if-inside.true, sym w.value-is ∙ c.if-apart.false) c.if-apart.false
      | else-inside w ↦ rw (← c.inside.ensures, w.if-inside.false) c.if-apart.false
    ]

pub returns-else-apart-clause-decides : goal.returns-else-apart-clause-decides
returns-else-apart-clause-decides c = decides_by _ _ _ (returns-else-apart-clause-value c)
