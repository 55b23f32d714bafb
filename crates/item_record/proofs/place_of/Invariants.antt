-- The place is that of the item with the counter's number.
use Rattle.std.specs.Prelude.{◌≡◌}
use Rattle.sheet.specs.Places.{item_place}
use Rattle.item_record.proofs.place_of.Given as goal

abbrev pub invariant-loop : goal.invariant-loop
invariant-loop l = l.place ≡ item_place l.bytes l.counter
