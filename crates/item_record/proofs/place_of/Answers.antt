use Rattle.prelude.specs.Names.{arith, add-one}
use Rattle.sheet.specs.Places.{container_end, item_place}
use Rattle.sheet.proofs.Faults.{item-before}
use Rattle.item_record.proofs.Records.{place-positive}
use Rattle.item_record.proofs.place_of.Goals as goal

pub bounds-bytes-0 : goal.bounds-bytes-0
bounds-bytes-0 c = omega (arith, place-positive c.args.bytes.now c.args.k)

pub loop-init : goal.loop-init
unfolding item_place container_end
loop-init c = omega arith

pub after_record-place-requires : goal.after_record-place-requires
unfolding item_place
after_record-place-requires c =
    rw c.loop.invariant (omega (arith, item-before c.args.bytes.now c.args.k c.loop.counter (omega arith)))

pub loop-preserved : goal.loop-preserved
unfolding item_place
loop-preserved c = rw (add-one, c.after_record-place.ensures, c.loop.invariant)
