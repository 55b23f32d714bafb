-- The pair at which the loop is left is the first without a known "before"; where the loop ends, all have one.
use Rattle.prelude.specs.Names.{arith, sym, ◌∙◌}
use Rattle.model.specs.FirstBranches.{Passed}
use Rattle.model.proofs.Pairs.{pair-count-small}
use Rattle.nodes.proofs.Loops.{below_more}
use Rattle.nodes.proofs.Choosing.{packed-of, Unseparated, chosen_axis, chosen_none, pair_proper}
use Rattle.nodes.proofs.branching.choose.Goals as goal
use Rattle.nodes.proofs.branching.choose.Goals.{After-pair_of-pair}

pub separated-requires : goal.separated-requires
separated-requires c = (c.requires.0, omega (arith, c.pair_count-number-end.ensures, c.found-test.true, pair-count-small c.args.n c.requires.1))

pub overflow_mul-number : goal.overflow_mul-number
overflow_mul-number c = omega (arith, c.pair_count-number-end.ensures, c.found-test.true, pair-count-small c.args.n c.requires.1)

pub overflow_add-number : goal.overflow_add-number
overflow_add-number c = omega (arith, c.pair_count-number-end.ensures, c.found-test.true, pair-count-small c.args.n c.requires.1)

pub bounds-domains-number : goal.bounds-domains-number
bounds-domains-number c = omega (arith, c.pair_count-number-end.ensures, c.found-test.true, pair-count-small c.args.n c.requires.1)

-- the pair whose axes are looked at
unseparated : (c : After-pair_of-pair) → Passed c.args.domains.now c.args.from
    → Unseparated c.args.domains.now c.args.n c.args.from c.found.number c.pair_of-pair.result
unseparated c passed = record {
  limited = c.requires.1;
  passed = passed;
  below = rw c.pair_count-number-end.ensures at c.found-test.true;
  is = c.pair_of-pair.ensures;
  unseparated = sym c.separated.ensures ∙ c.if-not-separated.true;
  earlier = c.found.invariant.1;
}

pub invariant_of-place : goal.invariant_of-place
invariant_of-place c = record {
  proper = pair_proper c.requires.1 (rw c.pair_count-number-end.ensures at c.found-test.true) c.pair_of-pair.ensures _ c.loop-axis-test.true;
}

pub invariant_of-place-then-not-separated : goal.invariant_of-place-then-not-separated
invariant_of-place-then-not-separated c = record {
  proper = pair_proper c.requires.1 (rw c.pair_count-number-end.ensures at c.found-test.true) c.pair_of-pair.ensures 0 (omega arith);
}

pub found-preserved : goal.found-preserved
found-preserved c = (c.found.invariant.0, below_more _ _ c.found.invariant.1 (λ low. sym c.separated.ensures ∙ c.if-not-separated.false))

pub returns-after-found : goal.returns-after-found
returns-after-found c = rw c.found.invariant.0 (λ passed.
    packed-of _ _ c.requires.1 _ passed (λ j h. c.found.invariant.1 j (omega (arith, c.found-test.false, c.pair_count-number-end.ensures))))

pub returns-then-is_undecided : goal.returns-then-is_undecided
returns-then-is_undecided c = λ passed.
    let f = unseparated (goal.at.returns-then-is_undecided c).After-pair_of-pair passed in
    chosen_axis f _ c.loop-axis-test.true (sym c.is_undecided.ensures ∙ c.if-is_undecided.true) c.loop-axis.invariant
    (pair_proper f.limited f.below f.is _ c.loop-axis-test.true)

pub returns-after-loop-axis : goal.returns-after-loop-axis
returns-after-loop-axis c = λ passed.
    let f = unseparated (goal.at.returns-after-loop-axis c).After-pair_of-pair passed in
    chosen_none f (λ b h. c.loop-axis.invariant b (omega (arith, c.loop-axis-test.false))) (pair_proper f.limited f.below f.is 0 (omega arith))
