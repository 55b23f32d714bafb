-- The path of a checkpoint: its branches and how many they are, exactly where the value is a checkpoint.
use Rattle.std.specs.Prelude.{◌≡◌, Option, Some, None}
use Rattle.prelude.specs.Names.{true, false}
use Rattle.instance.specs.declared.Checkpoint.{Checkpoint}
use Rattle.tree_paths.specs.declared.path.Path.{Path}
use Rattle.tree_paths.specs.Checkpoints.{well_formed}

abbrev pub PathOf : Checkpoint → Option Path → Type 0
PathOf c (Some p) = (well_formed c ≡ true) × (p.branches ≡ c.branches) × (p.length ≡ c.length)
PathOf c None = well_formed c ≡ false
