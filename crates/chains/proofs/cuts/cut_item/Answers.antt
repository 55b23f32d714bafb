use Rattle.prelude.specs.Names.{arith, or_lt}
use Rattle.chains.proofs.Cutting.{askable, cut-none, cut_refuted, cut_spares, cut-done}
use Rattle.chains.proofs.cuts.cut_item.Goals as goal

pub emptied-requires : goal.emptied-requires
emptied-requires c =
    let (d, ha, hu, small, self) = c.requires in
    let g = c.args.store.now.good in
    rw c.row-row.ensures.is (or_lt 30 _ _ (g.laid.mirror.small _) (askable g d ha hu small self).small)

pub returns-then-left-eq0 : goal.returns-then-left-eq0
returns-then-left-eq0 c =
    let (d, ha, hu, small, self) = c.requires in
    cut-none c.args.store.now.good d ha hu small self (rw c.row-row.ensures.is at c.if-left-eq0.true)

pub returns-then-emptied-ne0 : goal.returns-then-emptied-ne0
returns-then-emptied-ne0 c =
    let (d, ha, hu, small, self) = c.requires in
    cut_refuted c.args.store.now.good d ha hu small self (rw c.row-row.ensures.is at c.emptied.ensures) c.if-emptied-ne0.true

pub remove_items-requires : goal.remove_items-requires
remove_items-requires c =
    let (d, ha, hu, small, self) = c.requires in
    let spares = cut_spares c.args.store.now.good d ha hu small self (rw c.row-row.ensures.is at c.emptied.ensures) c.if-emptied-ne0.false in
    (omega (arith, d.most), ha, hu, rw c.row-row.ensures.is spares)

pub returns : goal.returns
returns c =
    let (d, ha, hu, small, self) = c.requires in
    cut-done c.args.store.now.good d ha hu small self (rw c.row-row.ensures.is at c.remove_items.ensures)
