-- One ring after another, each read from the rows as they are.
use Rattle.std.proofs.lemmas.Result.{err_from_is_err_and}
use Rattle.prelude.specs.Names.{bit_and, bit_xor}
use Rattle.rules.proofs.Cycles.{Neighbours, side_corners, neighbours_now, rings_none, keepable, rings_one, rings_refused, rings_all}
use Rattle.rules.proofs.rings.ring_side.Goals as goal
use Rattle.rules.proofs.rings.ring_side.Goals.{After-bit}

pub loop-s-init : goal.loop-s-init
loop-s-init c =
    let x = side_corners c.args.store.now.good c.args.place.proper c.requires (rw c.row.ensures.is at c.overlapping.ensures) in
    rw c.row-2.ensures.is (x, rings_none c.args.store.now.good x (cc))

near : (c : After-bit) → Neighbours c.args.store.now.domains c.loop-s.store.domains c.args.place.axis c.args.place.u c.args.place.v c.in-Some.s
    (bit_and c.overlapping-in-loop-s.result (bit_xor c.bit.result 1023))
near c =
    let (x, d) = c.loop-s.invariant in
    neighbours_now x d c.in-Some.ensures.steps.0
    (rw (c.row-in-loop-s.ensures.is, c.row-in-loop-s-2.ensures.is) at c.overlapping-in-loop-s.ensures) c.bit.ensures.0

pub keep_overlap-requires : goal.keep_overlap-requires
keep_overlap-requires c =
    let (x, d) = c.loop-s.invariant in keepable x d c.in-Some.ensures.steps.0 (near (goal.at.keep_overlap-requires c).After-bit)

pub loop-s-preserved : goal.loop-s-preserved
loop-s-preserved c =
    let (x, d) = c.loop-s.invariant in
    let (lowest, taken) = c.in-Some.ensures.steps in
    (x, rings_one x d lowest (near (goal.at.loop-s-preserved c).After-bit) taken c.in_ok-keep_overlap.ensures)

pub returns-in_err-keep_overlap : goal.returns-in_err-keep_overlap
returns-in_err-keep_overlap c =
    let (x, d) = c.loop-s.invariant in
    let p = err_from_is_err_and c.from_residual.result c.from_residual.ensures.1 in
    rw p.1 (rings_refused x d c.in-Some.ensures.steps.0 (near (goal.at.returns-in_err-keep_overlap c).After-bit) c.in_err-keep_overlap.ensures)

pub returns : goal.returns
returns c = let (x, d) = c.loop-s.invariant in rings_all x d c.in-None.ensures.steps.0
