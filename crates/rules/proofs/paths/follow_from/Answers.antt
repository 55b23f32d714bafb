-- What is reached from u over v is all that rules 2 and 3 ask for.
use Rattle.rules.proofs.Triangles.{pathable, reached_askable, from_worked}
use Rattle.rules.proofs.paths.follow_from.Goals as goal

pub beyond-requires : goal.beyond-requires
beyond-requires c = rw (c.row.ensures.is, c.row-2.ensures.is) (pathable c.args.place.proper c.args.store.now.good.laid)

pub remove-requires : goal.remove-requires
remove-requires c = reached_askable c.args.place.proper c.args.store.now.good.laid (rw (c.row.ensures.is, c.row-2.ensures.is) at c.beyond.ensures)

pub returns : goal.returns
returns c =
    from_worked c.args.place.proper c.args.store.now.good (rw (c.row.ensures.is, c.row-2.ensures.is) at c.beyond.ensures)
    _ _ _ c.remove.result c.remove.ensures
