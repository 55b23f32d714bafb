-- The relation is removed with the items that are no longer left, and can be with those left.
use Rattle.domains.proofs.RemoveItems.{Dealing}
use Rattle.domains.proofs.store.Store.remove_items.Given as goal

abbrev pub invariant-loop-v : goal.invariant-loop-v
invariant-loop-v l =
    Dealing l.x l.line.axis l.line.item l.items l.fn.self.domains l.fn.self.queue l.self.domains l.self.rows l.self.queue l.v-iterator.left
