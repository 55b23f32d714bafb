use Rattle.prelude.specs.Names.{rules}
use Rattle.chains.proofs.Relaxing.{partway_start, partway_given, partway_bursts, partway_next, partway_end}
use Rattle.chains.proofs.totals.Totals.link_each.Goals as goal

pub loop-z-init : goal.loop-z-init
loop-z-init c = search (rules, partway_start)

pub link-requires : goal.link-requires
link-requires c = partway_given c.loop-z.invariant c.in-Some.ensures.steps.0

pub returns-in_err-grown : goal.returns-in_err-grown
returns-in_err-grown c = search (rules, partway_bursts)

pub loop-z-preserved : goal.loop-z-preserved
loop-z-preserved c =
    let (lowest, taken) = c.in-Some.ensures.steps in partway_next c.loop-z.invariant lowest taken c.in_ok-grown.ensures

pub returns : goal.returns
returns c = partway_end c.loop-z.invariant c.in-None.ensures.steps.0
