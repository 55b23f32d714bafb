use Rattle.domains.proofs.Rooms.{full_good}
use Rattle.domains.proofs.store.Store.full.Goals as goal

pub invariant_of-result : goal.invariant_of-result
invariant_of-result c = record { good = full_good }
