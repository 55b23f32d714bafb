-- Laws of checkpoints as bytes.
use Rattle.std.specs.Prelude.{◌∷◌, ◌++◌, ◌≡◌, ◌+◌, ◌*◌, ◌/◌, ◌%◌, ◌≤◌, ◌<◌}
use Rattle.prelude.specs.Names.{true, List, [], refl, sym, ◌∙◌, ℕ, zero, suc, arith}
use Rattle.prelude.specs.Names.{eqb-true, ltb, eqb, length, get_or, take, drop, set, length-append, drop_of_length-le, sets}
use Rattle.prelude.specs.Names.{drop-cons, get_or-drop, get_or-append-add, take_at}
use lib.ListN.{take-append-drop}
use Rattle.std.specs.List.{list_all}
use lib.Seq.{get_or_at}
use Rattle.model.proofs.Below.{and_both}
use Rattle.formats.specs.Reading.{Bytes}
use Rattle.formats.proofs.Stores.{stores_joined}
use Rattle.sheet.specs.Places.{word_at}
use Rattle.instance.specs.declared.Checkpoint.{Checkpoint}
use Rattle.instance.specs.declared.Status.{Status}
use Rattle.instance.specs.declared.Status.TheVariants.{Open, Infeasible, Packed}
use Rattle.buffers.specs.Bytes.{word_bytes}
use Rattle.buffers.specs.Checkpoints.{status_byte, status_of, checkpoint_bytes, branches_in, checkpoint_in, all_zero, is_checkpoint}
use Rattle.buffers.proofs.Bytes.{word_back, fills}

-- all are 0: by a test of each
pub zero_each : (s : List ℕ) → list_all (λ b. eqb b 0) s ≡ all_zero s
unfolding all_zero
zero_each [] = refl
zero_each (b ∷ s) = rw (zero_each s)

pub zero-all : (s : List ℕ) → ((i : ℕ) → get_or s i 0 ≡ 0) → all_zero s ≡ true
unfolding all_zero
zero-all [] h = refl
zero-all (b ∷ s) h = rw (h 0) (zero-all s (λ i. h (suc i)))

-- a status comes back from its byte
pub status-back : (s : Status) → status_of (status_byte s) ≡ s
status-back Open = refl
status-back Infeasible = refl
status-back Packed = refl

status-small : (s : Status) → ltb (status_byte s) 3 ≡ true
status-small Open = refl
status-small Infeasible = refl
status-small Packed = refl

-- a checkpoint comes back from its bytes
module _ (c : Checkpoint) (long : length c.branches ≡ 270) where
  branches_back : branches_in (checkpoint_bytes c) ≡ c.branches
  unfolding checkpoint_bytes
  branches_back = take_at c.branches (word_bytes c.choice) 270 long

  choice-back : word_at (checkpoint_bytes c) 273 ≡ c.choice
  unfolding checkpoint_bytes
  choice-back =
      let low : get_or (c.branches ++ word_bytes c.choice) 270 0 ≡ c.choice % 256 = get_or_at c.branches _ _ 0 270 long in
      let high : get_or (c.branches ++ word_bytes c.choice) 271 0 ≡ c.choice / 256 =
      let e : 271 ≡ length c.branches + 1 = omega arith in rw e (get_or-append-add c.branches (word_bytes c.choice) 1 0) in
      rw (low, high) (word_back c.choice)

  pub checkpoint-back : checkpoint_in (checkpoint_bytes c) ≡ c
  unfolding checkpoint_in checkpoint_bytes
  checkpoint-back = rw (status-back c.status, word_back c.length, branches_back, choice-back)

  pub checkpoint-length : length (checkpoint_bytes c) ≡ 275
  unfolding checkpoint_bytes
  checkpoint-length = simp length-append (omega arith)

  -- a checkpoint with 0 past its length is held by its bytes
  pub bytes-hold : ((j : ℕ) → c.length ≤ j → get_or c.branches j 0 ≡ 0) → is_checkpoint (checkpoint_bytes c) ≡ true
  unfolding is_checkpoint checkpoint_bytes
  bytes-hold h =
      rw (status-small c.status, word_back c.length, branches_back)
      (zero-all (drop c.length c.branches) (λ i. get_or-drop c.length c.branches i 0 ∙ h (c.length + i) (omega arith)))

  -- the four parts one after the other fill the buffer
  pub checkpoint_fills : (out : List ℕ) → length out ≡ 275
      → sets (sets (sets (set out 0 (status_byte c.status)) 1 (word_bytes c.length)) 3 c.branches) 273 (word_bytes c.choice) ≡ checkpoint_bytes c
  unfolding checkpoint_bytes
  checkpoint_fills out h = at 273 (omega arith)
    where
      at : (k : ℕ) → k ≡ 3 + length c.branches
          → sets (sets (sets (set out 0 (status_byte c.status)) 1 (word_bytes c.length)) 3 c.branches) k (word_bytes c.choice) ≡ checkpoint_bytes c
      at k e =
          rw e (stores_joined out 0 ((status_byte c.status ∷ []) ∷ word_bytes c.length ∷ c.branches ∷ word_bytes c.choice ∷ [])
          ∙ fills (checkpoint_bytes c) out (h ∙ sym checkpoint-length))

-- Bytes that hold a checkpoint are its bytes

pub zero-at : (s : List ℕ) → all_zero s ≡ true → (k : ℕ) → get_or s k 0 ≡ 0
unfolding all_zero
zero-at [] h k = refl
zero-at (b ∷ s) h zero = eqb-true _ _ (and_both (eqb b 0) (all_zero s) h).0
zero-at (b ∷ s) h (suc k) = zero-at s (and_both (eqb b 0) (all_zero s) h).1 k

status_again : (b : ℕ) → b < 3 → status_byte (status_of b) ≡ b
status_again zero h = refl
status_again (suc zero) h = refl
status_again (suc (suc zero)) h = refl
status_again (suc (suc (suc b))) h = absurd (omega arith)

-- the last two bytes are those of the choice
ends_again : (bs : List ℕ) → length bs ≡ 272 → get_or bs 270 0 < 256
    → take 270 bs ++ word_bytes (get_or bs 270 0 + 256 * get_or bs 271 0) ≡ bs
ends_again bs l h =
    let m : (get_or bs 270 0 + 256 * get_or bs 271 0) % 256 ≡ get_or bs 270 0 = omega arith in
    let d : (get_or bs 270 0 + 256 * get_or bs 271 0) / 256 ≡ get_or bs 271 0 = omega arith in
    let two : drop 270 bs ≡ get_or bs 270 0 ∷ get_or bs 271 0 ∷ [] =
    drop-cons bs 270 0 (omega arith) ∙ rw (drop-cons bs 271 0 (omega arith), drop_of_length-le bs {i = 272} (omega arith)) in
    rw (m, d, ← two) (take-append-drop 270 bs)

pub bytes_again : (note : List ℕ) → Bytes note → length note ≡ 275 → get_or note 0 0 < 3 → checkpoint_bytes (checkpoint_in note) ≡ note
unfolding checkpoint_bytes checkpoint_in
bytes_again [] β l h = absurd (omega arith)
bytes_again (s ∷ []) β l h = absurd (omega arith)
bytes_again (s ∷ a ∷ []) β l h = absurd (omega arith)
bytes_again (s ∷ a ∷ b ∷ bs) β l h =
    let x : a < 256 = β 1 in
    let m : (a + 256 * b) % 256 ≡ a = omega arith in
    let d : (a + 256 * b) / 256 ≡ b = omega arith in
    rw (status_again s h, m, d, ends_again bs (omega arith) (β 273))
