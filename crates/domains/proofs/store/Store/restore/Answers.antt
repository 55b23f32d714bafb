use Rattle.domains.proofs.Rooms.{good_emptied}
use Rattle.domains.proofs.store.Store.restore.Goals as goal

pub invariant_of-self : goal.invariant_of-self
invariant_of-self c = rw c.clear_queue.ensures.queue (record { good = good_emptied c.args.self.now.queue c.requires c.args.self.now.good.long })
