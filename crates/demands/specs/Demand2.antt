-- The mission's second demand, as one theorem: the plan check, and reading and writing sheets.
use Rattle.std.specs.Prelude.{◌++◌, ◌↔◌, ◌≡◌, ◌≤◌}
use Rattle.prelude.specs.Names.{true, List, inl, ℕ, length, take, drop}
use Rattle.model.specs.Problem.{Feasible}
use Rattle.model.specs.Turning.{Fits}
use Rattle.formats.specs.Reading.{Bytes}
use Rattle.instance.specs.Sheets.{decode}
use Rattle.instance.specs.Answers.{read_result, read_values}
use Rattle.instance.specs.Meaning.{positions_of}
use Rattle.instance.specs.Reads.{Full, SameInstance}
use Rattle.instance.specs.Valid.{valid}
use Rattle.instance.specs.declared.Instance.{Instance}
use Rattle.instance.specs.declared.Packing.{Packing}
use Rattle.writer.specs.Answers.{write_answer, write_values, written_room}
use Rattle.turning.specs.Turned.{turnable_of, plan_of, MarksAllowed}
use Rattle.packing.specs.Check.{turned_by, check_answer, check_number}
use Rattle.c_api.specs.Calls.{check_code}
use Rattle.c_api.specs.Plans.{Checkable, PlanFits}

pub record Demand2 : Type 0 where
  -- "The check says yes exactly when the plan is a feasible packing with precedence, in whole numbers." (02, #106: with the marked pieces turned, where
  -- the marks may stand.) In values:
  pub yes : (i : Instance) (q : Packing)
      → (check_number (check_answer i q) ≡ 1) ↔ ((valid i ≡ true) × MarksAllowed i q.marks × Feasible (turned_by i q) (positions_of q))
  pub no : (i : Instance) (q : Packing)
      → (check_number (check_answer i q) ≡ 0) ↔ ((valid i ≡ true) × MarksAllowed i q.marks × (Feasible (turned_by i q) (positions_of q) → ⊥))
  -- so what it says yes to fits
  pub yes_fits : (i : Instance) (q : Packing) → check_number (check_answer i q) ≡ 1 → Fits (turnable_of i) (plan_of q)
  -- in bytes:
  pub yes_in_bytes : (sheet plan : List ℕ) → Bytes sheet
      → (check_code sheet plan ≡ 1) ↔ ((c : Checkable sheet plan) × PlanFits c)
  pub no_in_bytes : (sheet plan : List ℕ) → Bytes sheet
      → (check_code sheet plan ≡ 0) ↔ ((c : Checkable sheet plan) × (PlanFits c → ⊥))
  -- "A written sheet reads back as the same sheet;"
  pub written_reads_back : (i : Instance) → Full i → (room : List ℕ) (n : ℕ) → write_values (write_answer i (length room)) ≡ inl n
      → (j : Instance)
      × (read_values (read_result (decode (take n (written_room i room)))) ≡ inl j)
      × SameInstance i j
  -- "bytes that read as a sheet are written again as those bytes." The room after them stays as it was
  pub read_written_again : (s : List ℕ) → Bytes s → (i : Instance)
      → read_values (read_result (decode s)) ≡ inl i
      → (room : List ℕ) → length s ≤ length room
      → (write_values (write_answer i (length room)) ≡ inl (length s)) × (written_room i room ≡ s ++ drop (length s) room)
