use Rattle.domains.proofs.RemoveSet.{rest_askable, rest-left, rest-none, rest-outcome}
use Rattle.domains.proofs.store.Store.remove.Goals as goal

pub returns-then-left-eq0 : goal.returns-then-left-eq0
returns-then-left-eq0 c = rest-none c.args.self.now.good c.requires c.if-left-eq0.true

pub remove_each-requires : goal.remove_each-requires
remove_each-requires c = (rest_askable c.args.self.now.good c.requires, rest-left c.args.self.now.good c.requires)

pub returns : goal.returns
returns c = rest-outcome c.args.self.now.good c.requires _ _ _ c.remove_each.result c.remove_each.ensures
