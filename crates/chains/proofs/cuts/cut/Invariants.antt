-- Invariant: what is too long is removed of the items that are no longer left, and nothing that has room.
use Rattle.chains.proofs.Cutting.{Cutting}
use Rattle.chains.proofs.cuts.cut.Given as goal

abbrev pub invariant-loop-u : goal.invariant-loop-u
invariant-loop-u g l =
    Cutting l.totals.numbers g.row.X l.a l.grown l.fn.store.domains l.fn.store.queue l.store.domains l.store.rows l.store.queue l.u-iterator.left
