-- The frontier's own fields are what a look is of.
use Rattle.tree_search.proofs.Frontiers.{shown}
use Rattle.tree_search.proofs.frontier.Frontier.look.Goals as goal

pub returns : goal.returns
returns c = λ p path s h. shown h c.look.new.store c.look.new.totals c.look.ensures.measures (c.look.ensures.looked p path)
