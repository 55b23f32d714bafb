-- One ring after another, all read from the rows as they were at the start.
use Rattle.std.proofs.lemmas.Result.{err_from_is_err_and}
use Rattle.prelude.specs.Names.{bit_and, bit_xor}
use Rattle.rules.proofs.Cycles.{Neighbours, diagonal_corners, neighbours_then, rings_none, keepable, rings_one, rings_refused, rings_all}
use Rattle.rules.proofs.rings.ring_across.Goals as goal
use Rattle.rules.proofs.rings.ring_across.Goals.{After-bit}

pub loop-r-init : goal.loop-r-init
loop-r-init c =
    let f = rw (c.row.ensures.is, c.row-2.ensures.is) at c.overlapping-items.ensures in
    let x = diagonal_corners c.args.store.now.good c.args.place.proper c.requires f in
    (f, x, rings_none c.args.store.now.good x (cc))

near : (c : After-bit) → Neighbours c.args.store.now.domains c.loop-r.store.domains c.args.place.axis c.args.place.u c.in-Some.r c.args.place.v
    (bit_and c.overlapping-items.result (bit_xor c.bit.result 1023))
near c =
    let (f, x, d) = c.loop-r.invariant in
    neighbours_then x d c.in-Some.ensures.steps.0 c.args.store.now.good.laid.mirror f c.bit.ensures.0

pub keep_overlap-requires : goal.keep_overlap-requires
keep_overlap-requires c =
    let (_, x, d) = c.loop-r.invariant in keepable x d c.in-Some.ensures.steps.0 (near (goal.at.keep_overlap-requires c).After-bit)

pub loop-r-preserved : goal.loop-r-preserved
loop-r-preserved c =
    let (f, x, d) = c.loop-r.invariant in
    let (lowest, taken) = c.in-Some.ensures.steps in
    (f, x, rings_one x d lowest (near (goal.at.loop-r-preserved c).After-bit) taken c.in_ok-keep_overlap.ensures)

pub returns-in_err-keep_overlap : goal.returns-in_err-keep_overlap
returns-in_err-keep_overlap c =
    let (_, x, d) = c.loop-r.invariant in
    let p = err_from_is_err_and c.from_residual.result c.from_residual.ensures.1 in
    rw p.1 (rings_refused x d c.in-Some.ensures.steps.0 (near (goal.at.returns-in_err-keep_overlap c).After-bit) c.in_err-keep_overlap.ensures)

pub returns : goal.returns
returns c = let (_, x, d) = c.loop-r.invariant in rings_all x d c.in-None.ensures.steps.0
