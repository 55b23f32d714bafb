use Rattle.domains.proofs.RemoveItems.{dealing_spare, dealing_one, dealing_all}
use Rattle.domains.proofs.store.Store.remove_items.Goals as goal

pub invariant_of-place : goal.invariant_of-place
invariant_of-place c = record { proper = (dealing_spare c.loop-v.invariant c.in-Some.v c.in-Some.ensures.steps.0.2).0 }

pub loop-v-preserved : goal.loop-v-preserved
loop-v-preserved c = let (lowest, taken) = c.in-Some.ensures.steps in dealing_one c.loop-v.invariant lowest.2 taken c.remove_one.ensures

pub returns : goal.returns
returns c = dealing_all c.loop-v.invariant c.in-None.ensures.steps.0
