-- What the bytes lent to the search hold (document 01, "Refusals": "A note is 273 bytes .."; the choice: document 02, #106).
use Rattle.std.specs.Prelude.{◌≡◌, ◌*◌}
use Rattle.prelude.specs.Names.{List, ℕ, length}
use Rattle.model.specs.Run.{ChoiceCheckpoint, ChoiceFollows}
use Rattle.model.specs.Turning.{Turnable}
use Rattle.instance.specs.declared.Instance.{Instance}
use Rattle.tree_paths.specs.Checkpoints.{value_of}
use Rattle.buffers.specs.Checkpoints.{checkpoint_bytes}
use Rattle.buffers.specs.Lengths.{note_length, steps_length, piece_length}

-- what 8 asks for: "7 plan bytes a piece and 275 note bytes"; and not "step bytes not 4"
pub record Lengths (i : Instance) (note steps plan : List ℕ) : Type 0 where
  pub note_is : length note ≡ note_length
  pub steps_are : length steps ≡ steps_length
  pub plan_is : length plan ≡ piece_length * i.item_count

-- the note bytes of a checkpoint: state, the row's length, its turns and 0 past them, its choice
unfoldable pub note_bytes : ChoiceCheckpoint → List ℕ
note_bytes s = checkpoint_bytes (value_of s)

-- the note is the bytes of a checkpoint, and that follows its sheet
pub record NoteFollows (t : Turnable) (note : List ℕ) : Type 0 where
  pub checkpoint : ChoiceCheckpoint
  pub bytes : note ≡ note_bytes checkpoint
  pub follows : ChoiceFollows t checkpoint
