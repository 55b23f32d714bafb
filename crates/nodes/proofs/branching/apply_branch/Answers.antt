-- The row tells whether overlap is left, and so what the branch can remove; an empty queue has room for it.
use Rattle.std.specs.Prelude.{◌≡◌}
use Rattle.prelude.specs.Names.{true, false, arith}
use Rattle.domains.specs.Queue.{no_changes, Good}
use Rattle.domains.proofs.Rooms.{good_emptied}
use Rattle.nodes.proofs.BranchRemovals.{lost_one, lost_more, overlap-stays, spare_overlap, spare_order, overlap-is, branched-only}
use Rattle.nodes.proofs.branching.apply_branch.Goals as goal
use Rattle.nodes.proofs.branching.apply_branch.Goals.{After-has-apart}

emptied : (c : After-has-apart) → Good c.args.domains.now c.args.rows.now (no_changes c.args.queue.now)
emptied c = good_emptied c.args.queue.now c.requires.laid c.told-queue

pub remove_relation-requires : goal.remove_relation-requires
remove_relation-requires c = record {
  good = emptied (goal.at.remove_relation-requires c).After-has-apart;
  spare =
      (omega arith, spare_order c.requires.branchable (overlap-is c.requires.laid c.args.place true c.in-true-true.ensures) (omega arith, omega arith));
}

pub remove_relation-requires-in-true-false : goal.remove_relation-requires-in-true-false
remove_relation-requires-in-true-false c = record {
  good = emptied (goal.at.remove_relation-requires-in-true-false c).After-has-apart;
  spare =
      (omega arith, spare_order c.requires.branchable (overlap-is c.requires.laid c.args.place true c.in-true-false.ensures) (omega arith, omega arith));
}

pub remove_order-requires : goal.remove_order-requires
remove_order-requires c = record {
  good = emptied (goal.at.remove_order-requires c).After-has-apart;
  order = (omega arith, omega arith);
  overlap = overlap-is c.requires.laid c.args.place false c.in-false-true.ensures;
}

pub remove_order-requires-in-false-true : goal.remove_order-requires-in-false-true
remove_order-requires-in-false-true c = record {
  good = c.remove_order.ensures.grown.good;
  order = (omega arith, omega arith);
  overlap =
      overlap-stays c.args.place c.requires.laid.well_formed (omega arith, omega arith) c.remove_order.ensures
      (overlap-is c.requires.laid c.args.place false c.in-false-true.ensures);
}

pub remove_relation-requires-in-false-false : goal.remove_relation-requires-in-false-false
remove_relation-requires-in-false-false c = record {
  good = emptied (goal.at.remove_relation-requires-in-false-false c).After-has-apart;
  spare = (omega arith, spare_overlap c.requires.branchable (overlap-is c.requires.laid c.args.place false c.in-false-false.ensures));
}

pub returns-in-true-true : goal.returns-in-true-true
returns-in-true-true c =
    rw c.in-true-true.is-1 (branched-only c.requires.laid c.args.place true c.in-true-true.ensures true (lost_one c.args.place c.remove_relation.ensures))

pub returns-in-true-false : goal.returns-in-true-false
returns-in-true-false c =
    rw c.in-true-false.is-1
    (branched-only c.requires.laid c.args.place true c.in-true-false.ensures false (lost_one c.args.place c.remove_relation-in-true-false.ensures))

pub returns-in-false-true : goal.returns-in-false-true
returns-in-false-true c =
    let good = emptied (goal.at.returns-in-false-true c).After-has-apart in
    rw c.in-false-true.is-1
    (branched-only c.requires.laid c.args.place false c.in-false-true.ensures true
    (lost_more c.args.place (λ y. y ≡ 1) good.least (lost_one c.args.place c.remove_order.ensures) c.remove_order-in-false-true.ensures))

pub returns-in-false-false : goal.returns-in-false-false
returns-in-false-false c =
    rw c.in-false-false.is-1
    (branched-only c.requires.laid c.args.place false c.in-false-false.ensures false (lost_one c.args.place c.remove_relation-in-false-false.ensures))
