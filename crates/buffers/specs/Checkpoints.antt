-- Checkpoints as bytes; a note is a checkpoint, a turn a branch, the row's length that of its path (document 01, "Refusals").
use Rattle.std.specs.Prelude.{◌&&◌, ◌∷◌, ◌++◌, ◌+◌}
use Rattle.prelude.specs.Names.{Bool, true, List, [], ℕ, zero, suc, ltb, eqb, get_or, take, drop}
use Rattle.instance.specs.declared.Checkpoint.{Checkpoint}
use Rattle.instance.specs.declared.Status.{Status}
use Rattle.instance.specs.declared.Status.TheVariants.{Open, Infeasible, Packed}
use Rattle.sheet.specs.Places.{word_at}
use Rattle.sheet.specs.Sheet.{max_branches}
use Rattle.buffers.specs.Bytes.{word_bytes}

-- "state (0 open, 1 none, 2 placed)"
abbrev pub status_byte : Status → ℕ
status_byte Open = 0
status_byte Infeasible = 1
status_byte Packed = 2

abbrev pub status_of : ℕ → Status
status_of zero = Open
status_of (suc zero) = Infeasible
status_of (suc (suc b)) = Packed

-- "A note is 273 bytes: state .., the row's length in 2 bytes, then 270 turns", and the choice, "as 2 bytes more at its end" (document 02, #106)
unfoldable pub checkpoint_bytes : Checkpoint → List ℕ
checkpoint_bytes c = status_byte c.status ∷ (word_bytes c.length ++ (c.branches ++ word_bytes c.choice))

abbrev pub branches_in : List ℕ → List ℕ
branches_in note = take max_branches (drop 3 note)

unfoldable pub checkpoint_in : List ℕ → Checkpoint
checkpoint_in note = record {
  status = status_of (get_or note 0 0);
  length = word_at note 1;
  branches = branches_in note;
  choice = word_at note (3 + max_branches);
}

unfoldable pub all_zero : List ℕ → Bool
all_zero [] = true
all_zero (b ∷ bs) = eqb b 0 && all_zero bs

-- the state is one of the three, and the turns are "0 past the length"; whether path and choice are allowed is tested by the search
unfoldable pub is_checkpoint : List ℕ → Bool
is_checkpoint note = ltb (get_or note 0 0) 3 && all_zero (drop (word_at note 1) (branches_in note))
