use Rattle.prelude.specs.Names.{arith, rules}
use Rattle.chains.proofs.Relaxing.{first_bursts, progress_start, progress_item, progress_given, progress_bursts}
use Rattle.chains.proofs.Relaxing.{progress_next, progress_falls, progress_end}
use Rattle.chains.proofs.totals.Totals.link_on.Goals as goal

pub returns-in_err-grown : goal.returns-in_err-grown
returns-in_err-grown c = search (rules, first_bursts)

pub loop-todo-init : goal.loop-todo-init
loop-todo-init c = progress_start c.in_ok-grown.ensures c.args.self.now.tabled c.requires

pub bounds-rows-a : goal.bounds-rows-a
bounds-rows-a c = omega (arith, progress_item c.loop-todo.invariant c.lowest-w.ensures)

pub link_each-requires : goal.link_each-requires
link_each-requires c = progress_given c.loop-todo.invariant c.lowest-w.ensures c.linked.ensures

pub returns-in_err-more : goal.returns-in_err-more
returns-in_err-more c =
    let burst = progress_bursts c.loop-todo.invariant c.lowest-w.ensures c.linked.ensures c.in_ok-grown.ensures c.in_err-more.ensures in
    search rules

pub loop-todo-smaller : goal.loop-todo-smaller
loop-todo-smaller c =
    progress_falls c.loop-todo.invariant c.lowest-w.ensures c.linked.ensures c.rest-todo.ensures c.in_ok-more.ensures

pub loop-todo-preserved : goal.loop-todo-preserved
loop-todo-preserved c =
    progress_next c.loop-todo.invariant c.lowest-w.ensures c.linked.ensures c.rest-todo.ensures c.in_ok-more.ensures

pub returns : goal.returns
returns c = progress_end c.in_ok-grown.ensures c.loop-todo.invariant (omega arith)
