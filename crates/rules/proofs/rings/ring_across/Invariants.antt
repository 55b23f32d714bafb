-- Of the items known to overlap both q and s some are left, and what the rings of the others ask for is done.
use Rattle.rules.proofs.Cycles.{OverlapBoth, Corners, RingsDone}
use Rattle.rules.proofs.rings.ring_across.Given as goal

abbrev pub invariant-loop-r : goal.invariant-loop-r
invariant-loop-r l =
    OverlapBoth l.fn.store.rows l.a l.q l.s l.items × Corners l.a l.q (λ r. r) (λ _. l.s) l.fn.store.domains l.fn.store.queue l.items
    × RingsDone l.a l.q (λ r. r) (λ _. l.s) l.items l.r-iterator.left l.fn.store.domains l.fn.store.queue
    l.store.domains l.store.rows l.store.queue
