-- What search refuses of the bytes that it is lent: exactly what the table does, and then it leaves the buffers.
use Rattle.std.specs.Prelude.{◌↔◌, ◌⊎◌, ◌≡◌, ◌+◌, ◌≤◌, ◌<◌}
use Rattle.prelude.specs.Names.{Bool, true, false, List, inl, inr, ⊎_elim, refl, sym, ap, ◌∙◌, ℕ, arith}
use Rattle.model.proofs.Below.{and_both, clash, test_false}
use Rattle.model.specs.Run.{ChoiceCheckpoint, ChoiceFollows, machine, plan_at, search}
use Rattle.model.specs.Series.{stage}
use Rattle.model.specs.Turning.{Turnable, Plan}
use Rattle.refusal.specs.Numbers.{number_of}
use Rattle.formats.specs.Reading.{Bytes}
use Rattle.instance.proofs.Readings.{decode_refuses}
use Rattle.instance.specs.Reads.{Reads}
use Rattle.turning.specs.Turned.{turnable_of}
use Rattle.search.proofs.Claim.{following_exactly, answered_small, zero-is-spent}
use Rattle.tree_paths.specs.Checkpoints.{checkpoint_of, following}
use Rattle.search.specs.declared.answer.SearchResult.{SearchResult}
use Rattle.buffers.proofs.Bytes.{steps_back}
use Rattle.buffers.specs.Bytes.{packing_bytes, steps_in}
use Rattle.buffers.specs.Checkpoints.{checkpoint_in, is_checkpoint}
use Rattle.c_api.specs.Calls.{check_code, buffers_fit, note_follows, searched_if, instance_searched, when_packed, search_call}
use Rattle.c_api.specs.Calls.{search_code, note_after, steps_after, plan_after}
use Rattle.c_api.specs.Faults.{SearchBytesFault}
use Rattle.c_api.specs.Notes.{Lengths, NoteFollows}
use Rattle.c_api.proofs.Tables.{refuses_by_table, served_by_table}
use Rattle.c_api.proofs.Notes.{note_follows_exactly}
use Rattle.c_api.proofs.Outcomes.{lengths_exactly, refused-keeps}
use Rattle.c_api.proofs.Plans.{fault_or_reads, reads-sound, placed_checks}
use Rattle.model.proofs.Theorems as T
use Rattle.model.specs.Calls as C
use Rattle.model.specs.Machine as Machine
use Rattle.model.specs.Search as S
use Rattle.search.specs.Results as R

-- the checkpoint that a note holds follows, where the test says so
in_follows : (t : Turnable) (note : List ℕ) → note_follows t note ≡ true → ChoiceFollows t (checkpoint_of (checkpoint_in note))
unfolding note_follows
in_follows t note e =
    let (k, f) = and_both (is_checkpoint note) (following t (checkpoint_in note)) e in
    ((following_exactly t (checkpoint_in note)).0 f).follows

-- A call by the table: a fault's number, or the search's

-- the number of a result
abbrev number : SearchResult → ℕ
number r = R.answer_number r.answer

-- what a call is where nothing is refused: the search from a checkpoint that follows
record Searched (sheet : List ℕ) (allowance : ℕ) (r : SearchResult) : Type 0 where
  reads : Reads sheet
  start : ChoiceCheckpoint
  follows : ChoiceFollows (turnable_of reads.instance) start
  is : r ≡ R.result_of (turnable_of reads.instance) (search (turnable_of reads.instance) allowance start)

module _ (sheet note steps plan : List ℕ) (allowance : ℕ) where
  abbrev call : SearchResult
  call = search_call sheet note allowance steps plan

  abbrev code : ℕ
  code = search_code sheet note allowance steps plan

  abbrev Fault : ℕ → Type 0
  Fault n = SearchBytesFault sheet note steps plan n

  abbrev turnable : Reads sheet → Turnable
  turnable r = turnable_of r.instance

  -- the tests of 8 and 10
  abbrev fit : Reads sheet → Bool
  fit r = buffers_fit r.instance note steps plan

  abbrev follow : Reads sheet → Bool
  follow r = note_follows (turnable_of r.instance) note

  read_is : (r : Reads sheet) {l f : Bool} → fit r ≡ l → follow r ≡ f → call ≡ searched_if l f r.instance note allowance
  unfolding search_call instance_searched
  read_is r d e = rw (r.reads, d, e)

  module _ (bytes : Bytes sheet) (note_is : Bytes note) where
    fit_exactly : (r : Reads sheet) → (fit r ≡ true) ↔ Lengths r.instance note steps plan
    fit_exactly r = lengths_exactly r.instance note steps plan

    follow_exactly : (r : Reads sheet) → Lengths r.instance note steps plan → (follow r ≡ true) ↔ NoteFollows (turnable r) note
    follow_exactly r h = note_follows_exactly (turnable r) (reads-sound sheet bytes r) note note_is h.note_is

    fault-code : {n : ℕ} → Fault n → code ≡ 100 + n
    unfolding search_call R.result_refused
    fault-code (SearchBytesFault.unread e f k) = rw ((decode_refuses sheet e).1 f, k)
    fault-code (SearchBytesFault.eight r h k) = rw k (ap number (read_is r (test_false _ (fit_exactly r) h) refl))
    fault-code (SearchBytesFault.ten r l h k) = rw k (ap number (read_is r ((fit_exactly r).1 l) (test_false _ (follow_exactly r l) h)))

    -- there is a fault, or nothing is refused
    by_table : ((n : ℕ) × Fault n) ⊎ Searched sheet allowance call
    by_table = ⊎_elim (λ (e, f). inl (number_of e, SearchBytesFault.unread e f refl)) (λ r. read r _ _ refl refl) (fault_or_reads sheet)
      where
        read : (r : Reads sheet) (l f : Bool) → fit r ≡ l → follow r ≡ f → ((n : ℕ) × Fault n) ⊎ Searched sheet allowance call
        read r false f d e = inl (8, SearchBytesFault.eight r (λ h. clash ((fit_exactly r).1 h) d) refl)
        read r true false d e =
            let h = (fit_exactly r).0 d in inl (10, SearchBytesFault.ten r h (λ ν. clash ((follow_exactly r h).1 ν) e) refl)
        read r true true d e =
            inr (record { reads = r; start = checkpoint_of (checkpoint_in note); follows = in_follows _ note e; is = read_is r d e })

    small : Searched sheet allowance call → code < 100
    small σ = let t = turnable σ.reads in omega (arith, ap number σ.is, answered_small t (search t allowance σ.start))

    abbrev served : {A : Type 0} → code < 100 → (Searched sheet allowance call → A) → A
    served = served_by_table code Fault by_table (λ n φ. fault-code φ) small

    -- "A call that meets no condition of the table is not refused", and any other gets its number
    pub search_refuses : (n : ℕ) → (code ≡ 100 + n) ↔ Fault n
    search_refuses = refuses_by_table code Fault by_table (λ n φ. fault-code φ) small

    -- placed leaves a plan to which check says yes, whatever note was lent
    pub placed_fits : code ≡ 1 → check_code sheet (plan_after sheet note allowance steps plan) ≡ 1
    unfolding R.result_of
    placed_fits e = served (omega arith) go
      where
        -- the plan bytes that an answer leaves
        left : Reads sheet → C.Answer Plan → List ℕ
        left r a = when_packed (R.answer_of a) plan (packing_bytes r.instance.item_count (R.packing_with (turnable r) a))

        fits : (r : Reads sheet) (n : ℕ) (κ : S.Checkpoint) → ChoiceFollows (turnable r) (stage n κ)
            → let a = C.answer_at (machine (turnable r)) (plan_at (turnable r)) (stage n κ) in
            R.answer_number (R.answer_of a) ≡ 1 → check_code sheet (left r a) ≡ 1
        fits r n (S.open_at path) f e = absurd (omega arith)
        fits r n S.infeasible f e = absurd (omega arith)
        fits r n (S.packed_at path) f e =
            placed_checks sheet bytes r (plan_at (turnable r) (stage n (S.packed_at path))) (T.packed-fits (turnable r) (reads-sound sheet bytes r) n path f)

        go : Searched sheet allowance call → check_code sheet (plan_after sheet note allowance steps plan) ≡ 1
        go σ =
            let t = turnable σ.reads in
            let f = T.reached-follows t (reads-sound sheet bytes σ.reads) allowance σ.start σ.follows in
            let end = Machine.steps (machine t) allowance σ.start in
            rw (σ.reads.reads, σ.is) (fits σ.reads end.number end.state f (sym (ap number σ.is) ∙ e))

    -- "spent has taken exactly the allowance", whatever note was lent
    pub spent_exactly : code ≡ 0 → steps_in (steps_after sheet note allowance steps plan) ≡ allowance
    unfolding R.result_of
    spent_exactly e = served (omega arith) go
      where
        go : Searched sheet allowance call → steps_in (steps_after sheet note allowance steps plan) ≡ allowance
        go σ =
            let t = turnable σ.reads in
            let spent = zero-is-spent (search t allowance σ.start).answer (sym (ap number σ.is) ∙ e) in
            rw (σ.is, spent, steps_back) (T.spent_exactly t allowance σ.start spent)

  -- "Every refusal leaves lent buffers untouched": 100 and above are a refusal's numbers
  pub untouched : 100 ≤ code
      → (note_after sheet note allowance steps plan ≡ note)
      × (steps_after sheet note allowance steps plan ≡ steps)
      × (plan_after sheet note allowance steps plan ≡ plan)
  untouched = refused-keeps call.answer note steps plan _ _ _
