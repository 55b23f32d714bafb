-- The row says whether the pair is known to overlap on b.
use Rattle.prelude.specs.Names.{sym}
use Rattle.rules.proofs.OnAxes.{third_idle, third_askable, third_worked}
use Rattle.rules.proofs.overlaps.third_axis.Goals as goal

pub remove-requires : goal.remove-requires
remove-requires c =
    third_askable c.requires.axes c.args.place.proper c.args.store.now.good (rw c.row.ensures.is at c.overlapping.ensures)
    c.bit.ensures.0 c.bit.ensures.1

pub returns-then-has : goal.returns-then-has
returns-then-has c =
    third_worked c.requires.axes c.args.place.proper c.args.store.now.good (rw c.row.ensures.is at c.overlapping.ensures)
    c.bit.ensures.0 c.bit.ensures.1 (sym c.if-has.ensures) c.requires.known _ _ _ c.remove.result c.remove.ensures

pub returns-else-has : goal.returns-else-has
returns-else-has c =
    third_idle c.requires.axes c.args.place.proper c.args.store.now.good (rw c.row.ensures.is at c.overlapping.ensures) (sym c.if-has.ensures)
