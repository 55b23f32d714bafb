-- What one call and every list of calls come to, on bytes, from the contract of `hallplan_search`: the number that it returns and what it
-- leaves in the note, the step bytes and the plan bytes.
use Rattle.std.specs.Prelude.{◌≡◌, ◌+◌, ◌≤◌}
use Rattle.prelude.specs.Names.{Bool, true, false, List, refl, sym, ap, ℕ, arith, length, ne_eqb}
use Rattle.model.proofs.Lists.{all-refused}
use Rattle.model.specs.Lists.{Reaches, call_refused, call_served, Served, Serves, AllRefused}
use Rattle.model.specs.Machine.{steps, taken}
use Rattle.model.specs.Admits.{Sound}
use Rattle.model.specs.Run.{ChoiceCheckpoint, ChoiceFollows, machine, plan_at, search}
use Rattle.model.specs.Series.{stage}
use Rattle.model.specs.Turning.{Turnable}
use Rattle.refusal.specs.Numbers.{number_of}
use Rattle.refusal.specs.declared.Refusal.{Refusal}
use Rattle.formats.specs.Reading.{Bytes}
use Rattle.instance.specs.Sheets.{decode}
use Rattle.instance.specs.Reads.{Reads}
use Rattle.instance.specs.declared.Instance.{Instance}
use Rattle.turning.specs.Turned.{turnable_of}
use Rattle.tree_paths.proofs.Checkpoints.{checkpoint-back}
use Rattle.search.proofs.Claim.{following_exactly, short, held-follows}
use Rattle.tree_paths.specs.Checkpoints.{value_of}
use Rattle.search.specs.declared.answer.SearchResult.{SearchResult}
use Rattle.buffers.proofs.Bytes.{steps_back}
use Rattle.c_api.specs.Calls.{lengths_fit, note_follows, instance_searched, searched, note_left, search_call, search_code}
use Rattle.c_api.specs.Lists.{Lent, Call, own, other, on_bytes}
use Rattle.c_api.specs.Notes.{note_bytes}
use Rattle.c_api.proofs.Faults.{untouched}
use Rattle.c_api.proofs.Notes.{opening_zeros, note_bytes-length, note_holds, note_back}
use Rattle.c_api.proofs.Plans.{reads-sound}
use Rattle.model.specs.Calls as C
use Rattle.model.specs.Search as S
use Rattle.formats.specs.Reading as Reading
use Rattle.search.specs.Results as R

module _ (sheet : List ℕ) (bytes : Bytes sheet) (r : Reads sheet) where
  abbrev i : Instance
  i = r.instance

  abbrev t : Turnable
  t = turnable_of r.instance

  sound : Sound t.given
  sound = reads-sound sheet bytes r

  module _ (c : Lent) (s : ChoiceCheckpoint) where
    -- the call on the note bytes of a checkpoint
    abbrev call : SearchResult
    call = search_call sheet (note_bytes s) c.allowance c.steps c.plan

    -- whether the buffers have the right lengths
    abbrev fit : Bool
    fit = lengths_fit i 275 (length c.steps) (length c.plan)

    -- where they have, it is the model's
    right_lengths : ChoiceFollows t s → fit ≡ true → call ≡ R.result_of t (search t c.allowance s)
    unfolding search_call instance_searched note_follows
    right_lengths f h =
        let g = (following_exactly t (value_of s)).1 (held-follows t sound s f) in
        rw (r.reads, note_bytes-length s, h, note_holds s, note_back s, g, checkpoint-back s (short t sound s f))

    -- and where one has a wrong length it is refused
    wrong_length : fit ≡ false → 100 ≤ R.answer_number call.answer
    unfolding search_call instance_searched R.result_refused
    wrong_length h = rw (r.reads, note_bytes-length s, h) (omega arith)

    -- the note that a result leaves
    abbrev left : SearchResult → List ℕ
    left x = note_left x (note_bytes s)

    reaches : (m n : ℕ) (κ : S.Checkpoint) → m ≡ taken (machine t) c.allowance s
        → call ≡ R.result_of t (record { answer = C.answer_at (machine t) (plan_at t) (stage n κ); steps = m; checkpoint = stage n κ })
        → Reaches (machine t) (on_bytes sheet i) (own c) s (stage n κ)
    unfolding R.result_of note_bytes
    reaches m n (S.open_at path) d e = record { code = rw e; next = ap left e; steps = rw (e, steps_back m) d; plan = rw e }
    reaches m n S.infeasible d e = record { code = rw e; next = ap left e; steps = rw (e, steps_back m) d; plan = rw e }
    reaches m n (S.packed_at path) d e = record { code = rw e; next = ap left e; steps = rw (e, steps_back m) d; plan = rw (r.reads, e) }

    by_lengths : ChoiceFollows t s → (b : Bool) → fit ≡ b → Served (machine t) (on_bytes sheet i) (own c) s
    by_lengths f true h =
        let end = steps (machine t) c.allowance s in
        call_served h (reaches _ end.number end.state refl (right_lengths f h))
    by_lengths f false h =
        call_refused h (wrong_length h) (untouched sheet (note_bytes s) c.steps c.plan c.allowance (wrong_length h)).0

  -- what is asked of one call holds of `hallplan_search`
  pub bytes_serve : Serves (machine t) (on_bytes sheet i) (ChoiceFollows t)
  bytes_serve = record { opens = sym opening_zeros; calls = calls }
    where
      calls : (c : Call sheet) (s : ChoiceCheckpoint) → ChoiceFollows t s → Served (machine t) (on_bytes sheet i) c s
      calls (own c) s f = by_lengths c s f _ refl
      calls (other note c h) s f = call_refused refl h refl

-- a call that is lent a note of another length is refused
pub another_length : (sheet note : List ℕ) (c : Lent) → (length note ≡ 275 → ⊥)
    → 100 ≤ search_code sheet note c.allowance c.steps c.plan
unfolding search_call instance_searched R.result_refused
another_length sheet note c l = go (decode sheet)
  where
    go : (d : Reading.Read Instance) → 100 ≤ R.answer_number (searched d note c.allowance c.steps c.plan).answer
    go (Reading.refused e) = omega arith
    go (Reading.got i at rest) = rw (ne_eqb (length note) 275 l) (omega arith)

-- "on a refused sheet every call is refused, and the note stays the opening one"
pub every_call_refused : (sheet : List ℕ) (e : Refusal) → decode sheet ≡ Reading.refused e → (i : Instance) (calls : List (Call sheet))
    → AllRefused (on_bytes sheet i) (100 + number_of e) calls
unfolding search_call R.result_refused
every_call_refused sheet e d i = all-refused (on_bytes sheet i) (100 + number_of e) (λ c x. rw d) keeps
  where
    keeps : (c : Call sheet) (x : List ℕ) → (on_bytes sheet i).next c x ≡ x
    keeps (own c) x = rw d
    keeps (other note c h) x = refl
