-- What is known to overlap still is after each step.
use Rattle.prelude.specs.Names.{arith}
use Rattle.std.proofs.lemmas.Result.{err_from_is_err_and}
use Rattle.model.specs.Facts.{overlaps, Holds}
use Rattle.model.specs.Clauses.{of}
use Rattle.model.proofs.Facts.{holds_mono}
use Rattle.domains.proofs.Narrowed.{refuted_later}
use Rattle.rules.proofs.Handling.{overlapping_worked}
use Rattle.rules.proofs.Cycles.{overlap_turned}
use Rattle.rules.proofs.overlaps.overlap.Goals as goal
use Rattle.rules.proofs.overlaps.overlap.Goals.{In_ok-third_axis-2}

pub third_axis-requires-2-clause-known : goal.third_axis-requires-2-clause-known
third_axis-requires-2-clause-known c = holds_mono _ _ c.in_ok-third_axis.ensures.grown.less _ c.requires

pub returns-in_err-third_axis-2 : goal.returns-in_err-third_axis-2
returns-in_err-third_axis-2 c =
    let p = err_from_is_err_and c.from_residual-in_err-third_axis-2.result c.from_residual-in_err-third_axis-2.ensures.1 in
    rw p.1 (refuted_later c.in_ok-third_axis.ensures c.in_err-third_axis-2.ensures)

-- after rule 1 on both axes
still : (c : In_ok-third_axis-2) → Holds c.third_axis-2.new.store.domains (of overlaps c.args.place.axis c.args.place.u c.args.place.v)
still c = holds_mono _ _ c.in_ok-third_axis-2.ensures.grown.less _ (holds_mono _ _ c.in_ok-third_axis.ensures.grown.less _ c.requires)

pub ring_side-requires : goal.ring_side-requires
ring_side-requires c = still (goal.at.ring_side-requires c).In_ok-third_axis-2

pub returns-in_err-ring_side : goal.returns-in_err-ring_side
returns-in_err-ring_side c =
    let p = err_from_is_err_and c.from_residual-in_err-ring_side.result c.from_residual-in_err-ring_side.ensures.1 in
    rw p.1 (refuted_later c.in_ok-third_axis.ensures (refuted_later c.in_ok-third_axis-2.ensures c.in_err-ring_side.ensures))

pub ring_side-requires-2 : goal.ring_side-requires-2
ring_side-requires-2 c =
    overlap_turned _ (omega arith, omega arith, omega arith)
    (holds_mono _ _ c.in_ok-ring_side.ensures.grown.less _ (still (goal.at.ring_side-requires-2 c).In_ok-third_axis-2))

pub returns : goal.returns
returns c =
    overlapping_worked c.next_axis-b.ensures c.next_axis-c.ensures c.args.store.now.good.least
    c.in_ok-third_axis.ensures c.in_ok-third_axis-2.ensures c.in_ok-ring_side.ensures (omega arith, omega arith, omega arith)
    _ _ _ c.ring_side-2.result c.ring_side-2.ensures
