use Rattle.std.specs.Prelude.{◌≡◌, ◌+◌, ◌-◌, ◌≤◌}
use Rattle.prelude.specs.Names.{refl, sym, ap, ◌∙◌, ℕ, arith}
use Rattle.model.specs.Earliest.{steps_before, finish_from}
use Rattle.model.specs.Turning.{Turnable}
use Rattle.instance.proofs.Arrays.{length_mapped}
use Rattle.instance.specs.Meaning.{problem_of}
use Rattle.turning.specs.Turned.{turnable_of}
use Rattle.opening.proofs.Sound.{valid-sound}
use Rattle.makespan.specs.Results.{finish_of, no_finish, packed_finish, spent_finish}
use Rattle.makespan.proofs.Lengths.{with_shifts, past_known}
use Rattle.makespan.proofs.Tries.{tried-here, steps_fit, packed_here, spent_here, none_here, refused-not}
use Rattle.makespan.proofs.try_lengths.Goals as goal

-- no length left
none_left : (t : Turnable) (most length budget left : ℕ) → most ≤ length
    → no_finish (budget - left) ≡ finish_of t (steps_before (budget - left) (finish_from t (most - length) length left))
unfolding finish_of no_finish
none_left t most length budget left h = let zero : most - length ≡ 0 = omega arith in rw zero (ap no_finish (omega arith))

pub loop-length-init : goal.loop-length-init
unfolding turnable_of problem_of
loop-length-init c =
    let a = c.args in
    record {
      same = refl;
      afford = omega arith;
      asked = past_known (turnable_of a.valid.instance) (valid-sound a.valid.instance c.args.valid.is_valid (search length_mapped)) a.known a.budget
          c.requires.2 c.requires.0 c.requires.1;
    }

pub overflow_sub-result : goal.overflow_sub-result
overflow_sub-result c = c.loop-length.invariant.afford

pub overflow_add-result : goal.overflow_add-result
overflow_add-result c =
    let s = c.search-tried.ensures in
    let tried = tried-here c.loop-length.invariant c.args.valid.is_valid c.loop-length-test.true c.opening.ensures s.value s.full in
    omega (arith, steps_fit tried, c.loop-length.invariant.afford)

pub returns-in-Packed : goal.returns-in-Packed
unfolding packed_finish
returns-in-Packed c =
    let s = c.search-tried.ensures in
    let tried = tried-here c.loop-length.invariant c.args.valid.is_valid c.loop-length-test.true c.opening.ensures s.value s.full in
    packed_here tried c.in-Packed.is

pub overflow_sub-left-in-Infeasible : goal.overflow_sub-left-in-Infeasible
overflow_sub-left-in-Infeasible c =
    let s = c.search-tried.ensures in
    let tried = tried-here c.loop-length.invariant c.args.valid.is_valid c.loop-length-test.true c.opening.ensures s.value s.full in
    steps_fit tried

pub returns-in-BudgetSpent : goal.returns-in-BudgetSpent
unfolding spent_finish
returns-in-BudgetSpent c =
    let s = c.search-tried.ensures in
    let tried = tried-here c.loop-length.invariant c.args.valid.is_valid c.loop-length-test.true c.opening.ensures s.value s.full in
    c.without_packing.ensures ∙ spent_here tried c.in-BudgetSpent.is

pub returns-in-Refused : goal.returns-in-Refused
returns-in-Refused c =
    let s = c.search-tried.ensures in
    let tried = tried-here c.loop-length.invariant c.args.valid.is_valid c.loop-length-test.true c.opening.ensures s.value s.full in
    absurd (refused-not tried _ c.in-Refused.is)

pub loop-length-preserved : goal.loop-length-preserved
loop-length-preserved c =
    let l = c.loop-length in
    let s = c.search-tried.ensures in
    let tried = tried-here l.invariant c.args.valid.is_valid c.loop-length-test.true c.opening.ensures s.value s.full in
    record {
      same = ap (λ j. with_shifts j (l.length + 1)) l.invariant.same;
      afford = omega (arith, l.invariant.afford);
      asked = none_here tried c.in-Infeasible.is;
    }

pub overflow_sub-budget : goal.overflow_sub-budget
overflow_sub-budget c = c.loop-length.invariant.afford

pub returns : goal.returns
unfolding no_finish
returns c =
    let a = c.args in
    let l = c.loop-length in
    let t = turnable_of a.valid.instance in
    c.without_packing-2.ensures ∙ (none_left t a.valid.instance.container.shifts l.length a.budget l.left c.loop-length-test.false
    ∙ ap (finish_of t) (sym l.invariant.asked))
