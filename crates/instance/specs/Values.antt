-- Values that the contracts name.
use Rattle.prelude.specs.Names.{replicate}
use Rattle.sheet.specs.Sheet.{max_items, max_branches}
use Rattle.instance.specs.declared.Position.{Position}
use Rattle.instance.specs.declared.Packing.{Packing}
use Rattle.instance.specs.declared.Checkpoint.{Checkpoint}
use Rattle.instance.specs.declared.Status.TheVariants.{Open}

-- "The opening note is open with an empty row"; it "holds 0" as its choice
unfoldable pub opening_checkpoint : Checkpoint
opening_checkpoint = record { status = Open; length = 0; branches = replicate max_branches 0; choice = 0 }

abbrev pub origin : Position
origin = record { x = 0; y = 0; t = 0 }

-- "all ten are 0"; the marks are "0 wherever a position is"
unfoldable pub origin_packing : Packing
origin_packing = record { positions = replicate max_items origin; marks = replicate max_items 0 }
