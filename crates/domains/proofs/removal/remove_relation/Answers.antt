-- `removed_one` says that the arrays are what the removal of the relation makes of them, and that they are good.
use Rattle.domains.proofs.RemoveOne.{room_left, removed_one}
use Rattle.domains.proofs.removal.remove_relation.Goals as goal

pub push-requires : goal.push-requires
push-requires c = room_left c.requires.good c.requires.spare.0 c.args.place.proper c.requires.spare.1

pub returns : goal.returns
returns c =
    rw (c.remove_from.ensures, c.bit.ensures.0, c.bit-2.ensures.0, c.converse.ensures, c.push.ensures)
    (removed_one c.requires.good c.requires.spare.0 c.args.place.proper c.requires.spare.1)
