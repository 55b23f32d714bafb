-- Of the items that make a ring with q and r some are left, and what the rings of the others ask for is done.
use Rattle.rules.proofs.Cycles.{Corners, RingsDone}
use Rattle.rules.proofs.rings.ring_side.Given as goal

abbrev pub invariant-loop-s : goal.invariant-loop-s
invariant-loop-s l =
    Corners l.a l.q (λ _. l.r) (λ s. s) l.fn.store.domains l.fn.store.queue l.corners
    × RingsDone l.a l.q (λ _. l.r) (λ s. s) l.corners l.s-iterator.left l.fn.store.domains l.fn.store.queue
    l.store.domains l.store.rows l.store.queue
