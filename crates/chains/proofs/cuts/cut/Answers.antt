use Rattle.prelude.specs.Names.{rules}
use Rattle.chains.proofs.Cutting.{cutting_start, cutting_compared, cutting_given, cutting_refuted, cutting_next, cutting_end}
use Rattle.chains.proofs.cuts.cut.Goals as goal

pub loop-u-init : goal.loop-u-init
loop-u-init g c = search (rules, cutting_start)

pub too_long_of-items-requires-clause-comparable : goal.too_long_of-items-requires-clause-comparable
too_long_of-items-requires-clause-comparable g c = cutting_compared c.loop-u.invariant c.in-Some.ensures.steps.0

pub cut_item-requires : goal.cut_item-requires
cut_item-requires g c = cutting_given c.loop-u.invariant c.in-Some.ensures.steps.0 c.too_long_of-items.ensures

pub returns-in_err-cut_item : goal.returns-in_err-cut_item
returns-in_err-cut_item g c =
    let none = cutting_refuted c.loop-u.invariant c.in-Some.ensures.steps.0 c.too_long_of-items.ensures c.in_err-cut_item.ensures in
    search rules

pub loop-u-preserved : goal.loop-u-preserved
loop-u-preserved g c =
    let (lowest, taken) = c.in-Some.ensures.steps in
    cutting_next c.loop-u.invariant lowest c.too_long_of-items.ensures taken c.in_ok-cut_item.ensures

pub returns : goal.returns
returns g c = cutting_end c.loop-u.invariant c.in-None.ensures.steps.0
