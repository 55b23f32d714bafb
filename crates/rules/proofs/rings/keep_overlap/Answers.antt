-- Both orders with each item of the set are removed.
use Rattle.rules.proofs.Cycles.{orders_askable, orders_outcome}
use Rattle.rules.proofs.rings.keep_overlap.Goals as goal

pub remove-requires : goal.remove-requires
remove-requires c = let (ha, hu, small, e) = c.requires in orders_askable small ha hu e

pub returns : goal.returns
returns c = orders_outcome c.requires.2 _ _ _ _ _ _ _ c.remove.result c.remove.ensures
