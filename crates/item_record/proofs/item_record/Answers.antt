-- Where the item is found its record ends within the sheet.
use Rattle.prelude.specs.Names.{arith, sym, ◌∙◌}
use Rattle.sheet.specs.Places.{after_item, item_place}
use Rattle.item_record.specs.Record.{item_record}
use Rattle.item_record.proofs.Records.{next_after, found_there}
use Rattle.item_record.proofs.item_record.Goals as goal

pub place_of-start-requires : goal.place_of-start-requires
place_of-start-requires c =
    omega (arith, found_there _ _ (sym c.look_up.ensures ∙ c.in-Ok.is), next_after c.args.bytes.now c.args.k)

pub after_record-end-requires : goal.after_record-end-requires
unfolding item_place
after_record-end-requires c = rw c.place_of-start.ensures (found_there _ _ (sym c.look_up.ensures ∙ c.in-Ok.is))

pub slice_bounds-result-count : goal.slice_bounds-result-count
unfolding after_item
slice_bounds-result-count c = omega arith

pub slice_bounds-result-start : goal.slice_bounds-result-start
unfolding after_item
slice_bounds-result-start c = omega arith

pub slice_bounds-result-end-2 : goal.slice_bounds-result-end-2
unfolding item_place
slice_bounds-result-end-2 c =
    rw (c.after_record-end.ensures, c.place_of-start.ensures) (found_there _ _ (sym c.look_up.ensures ∙ c.in-Ok.is))

pub returns-in_default : goal.returns-in_default
unfolding item_record
returns-in_default c = rw (← c.look_up.ensures, c.in_default.is)

pub returns : goal.returns
unfolding item_record item_place
returns c = rw (← c.look_up.ensures, c.in-Ok.is, c.after_record-end.ensures, c.place_of-start.ensures)
