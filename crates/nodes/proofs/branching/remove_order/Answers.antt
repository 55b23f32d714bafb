-- The row tells whether the order is left: it is removed already, or can be, since overlap is left.
use Rattle.std.specs.Prelude.{◌≡◌}
use Rattle.prelude.specs.Names.{not, sym, ◌∙◌, ap, arith}
use Rattle.model.specs.Relations.{gone}
use Rattle.domains.proofs.Narrowed.{narrowed_none}
use Rattle.nodes.proofs.branching.remove_order.Goals as goal
use Rattle.nodes.proofs.branching.remove_order.Goals.{After-has}

told : (c : After-has) → c.has.result ≡ gone c.args.domains.now c.args.x c.args.place.axis c.args.place.u c.args.place.v
told c =
    let w = c.args.place.proper in
    c.has.ensures ∙ c.requires.good.laid.mirror.is c.args.x _ _ _ c.requires.order.1 w.axis w.item_u w.item_v

pub remove_relation-requires-clause-spare : goal.remove_relation-requires-clause-spare
unfolding gone
remove_relation-requires-clause-spare c =
    let is = told (goal.at.remove_relation-requires-clause-spare c).After-has in
    (c.requires.order.1, record { left = sym is ∙ c.if-not-has.true; other = (0, omega arith, omega arith, ap not c.requires.overlap) })

pub returns-else-not-has : goal.returns-else-not-has
returns-else-not-has c = narrowed_none c.requires.good (sym (told (goal.at.returns-else-not-has c).After-has) ∙ c.if-not-has.false)
