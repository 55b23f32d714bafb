-- Note bytes and checkpoints: the bytes of a checkpoint hold it, and bytes that get no 10 are those of a checkpoint that follows.
use Rattle.std.specs.Prelude.{◌↔◌, ◌≡◌, ◌+◌, ◌-◌, ◌≤◌}
use Rattle.prelude.specs.Names.{true, List, [], refl, sym, ap, ◌∙◌, ℕ, arith, ltb, length, get_or, drop, replicate}
use Rattle.prelude.specs.Names.{length-drop, length-take-le, get_or-drop, ltb-true}
use Rattle.model.proofs.Below.{and_both, and_intro}
use Rattle.model.specs.Admits.{Sound}
use Rattle.model.specs.Run.{ChoiceCheckpoint, choice_opening}
use Rattle.model.specs.Turning.{Turnable}
use Rattle.formats.specs.Reading.{Bytes}
use Rattle.tree_paths.proofs.Checkpoints.{branches_length, branches_past, well_formed-bits, well_formed-length, value_again}
use Rattle.search.proofs.Claim.{following_exactly, held-follows}
use Rattle.tree_paths.specs.Checkpoints.{state_of, checkpoint_of, well_formed, following, branches_of, value_at, value_of}
use Rattle.sheet.specs.Places.{word_at}
use Rattle.buffers.specs.Checkpoints.{status_of, checkpoint_bytes, branches_in, checkpoint_in, all_zero, is_checkpoint}
use Rattle.c_api.specs.Calls.{note_follows}
use Rattle.c_api.specs.Notes.{note_bytes, NoteFollows}
use Rattle.model.specs.Search as S
use Rattle.buffers.proofs.CheckpointBytes as B

-- "A search opens with 273 zeros", and two more for its choice
pub opening_zeros : note_bytes choice_opening ≡ replicate 275 0
unfolding note_bytes checkpoint_bytes value_at branches_of
opening_zeros = refl

-- The note bytes of a checkpoint hold it

-- its value has 270 branches, and 0 past its path
value-long : (n : ℕ) (κ : S.Checkpoint) → length (value_at n κ).branches ≡ 270
unfolding value_at
value-long n (S.open_at path) = branches_length path
value-long n S.infeasible = branches_length []
value-long n (S.packed_at path) = branches_length path

value-past : (n : ℕ) (κ : S.Checkpoint) (i : ℕ) → (value_at n κ).length ≤ i → get_or (value_at n κ).branches i 0 ≡ 0
unfolding value_at
value-past n (S.open_at path) = branches_past path
value-past n S.infeasible = branches_past []
value-past n (S.packed_at path) = branches_past path

module _ (s : ChoiceCheckpoint) where
  long : length (value_of s).branches ≡ 270
  long = value-long s.number s.state

  pub note_bytes-length : length (note_bytes s) ≡ 275
  unfolding note_bytes
  note_bytes-length = B.checkpoint-length (value_of s) long

  pub note_holds : is_checkpoint (note_bytes s) ≡ true
  unfolding note_bytes
  note_holds = B.bytes-hold (value_of s) long (value-past s.number s.state)

  pub note_back : checkpoint_in (note_bytes s) ≡ value_of s
  unfolding note_bytes
  note_back = B.checkpoint-back (value_of s) long

-- and bytes that hold a checkpoint are its note bytes
pub note_again : (note : List ℕ) → Bytes note → length note ≡ 275 → is_checkpoint note ≡ true → well_formed (checkpoint_in note) ≡ true
    → note ≡ note_bytes (checkpoint_of (checkpoint_in note))
unfolding is_checkpoint checkpoint_in checkpoint_of state_of note_bytes
note_again note β l h w =
    let (s, z) = and_both (ltb (get_or note 0 0) 3) (all_zero (drop (word_at note 1) (branches_in note))) h in
    let whole : length (branches_in note) ≡ 270 = length-take-le 270 (drop 3 note) (simp length-drop (omega arith)) in
    let v =
    value_again (word_at note 1) (branches_in note) whole (well_formed-bits (checkpoint_in note) w) (past z) (word_at note 273)
    (status_of (get_or note 0 0)) (well_formed-length (checkpoint_in note) w) in
    sym (ap checkpoint_bytes v ∙ B.bytes_again note β l (ltb-true _ _ s))
  where
    past : all_zero (drop (word_at note 1) (branches_in note)) ≡ true → (k : ℕ) → word_at note 1 ≤ k → get_or (branches_in note) k 0 ≡ 0
    past z k h =
        let e : word_at note 1 + (k - word_at note 1) ≡ k = omega arith in
        let at = get_or-drop (word_at note 1) (branches_in note) (k - word_at note 1) 0 in
        rw e at (sym at ∙ B.zero-at _ z (k - word_at note 1))

-- 10 is for any other note than the bytes of a checkpoint that follows
pub note_follows_exactly : (t : Turnable) → Sound t.given → (note : List ℕ) → Bytes note → length note ≡ 275
    → (note_follows t note ≡ true) ↔ NoteFollows t note
unfolding note_follows
note_follows_exactly t σ note β l = (
  (λ h.
      let (k, f) = and_both (is_checkpoint note) (following t (checkpoint_in note)) h in
      let φ = (following_exactly t (checkpoint_in note)).0 f in
      record { checkpoint = checkpoint_of (checkpoint_in note); bytes = note_again note β l k φ.is_well_formed; follows = φ.follows }),
  (λ ν.
      let f = (following_exactly t (value_of ν.checkpoint)).1 (held-follows t σ ν.checkpoint ν.follows) in
      rw (ν.bytes, note_back ν.checkpoint) (and_intro (note_holds ν.checkpoint) f)),
)
