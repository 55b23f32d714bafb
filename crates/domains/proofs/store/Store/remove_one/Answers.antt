use Rattle.domains.proofs.store.Store.remove_one.Goals as goal

pub remove_relation-requires-clause-good : goal.remove_relation-requires-clause-good
remove_relation-requires-clause-good c = c.args.self.now.good

pub invariant_of-self : goal.invariant_of-self
invariant_of-self c = record { good = c.remove_relation.ensures.grown.good }
