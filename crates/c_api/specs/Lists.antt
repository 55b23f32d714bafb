-- A list of calls on bytes (document 01, "The search": "A list is all in values or all on the screen").
use Rattle.std.specs.Prelude.{◌≤◌}
use Rattle.prelude.specs.Names.{Bool, false, List, ℕ, length, replicate}
use Rattle.model.specs.Lists.{Service}
use Rattle.model.specs.Run.{ChoiceCheckpoint, plan_at}
use Rattle.instance.specs.declared.Instance.{Instance}
use Rattle.turning.specs.Turned.{turnable_of}
use Rattle.search.specs.Results.{packing_of}
use Rattle.buffers.specs.Bytes.{packing_bytes, steps_in}
use Rattle.c_api.specs.Calls.{lengths_fit, search_code, note_after, steps_after, plan_after}
use Rattle.c_api.specs.Notes.{note_bytes}
use Rattle.buffers.specs.Lengths.{note_length}

-- what a call is handed beside the sheet and the note: its allowance, and what the step bytes and the plan bytes hold before it
pub record Lent : Type 0 where
  pub allowance : ℕ
  pub steps : List ℕ
  pub plan : List ℕ

-- a call with the list's note, and step and plan bytes of any length; or any refused call that is lent other bytes as its note
pub data Call (sheet : List ℕ) : Type 0 where
  own : Lent → Call sheet
  other : (note : List ℕ) (c : Lent) → 100 ≤ search_code sheet note c.allowance c.steps c.plan → Call sheet

abbrev pub lent : {sheet : List ℕ} → Call sheet → Lent
lent (own c) = c
lent (other note c refused) = c

-- the bytes that a call is lent as note, where the list's note has the bytes x
abbrev pub lent_note : {sheet : List ℕ} → Call sheet → List ℕ → List ℕ
lent_note (own c) x = x
lent_note (other note c refused) x = note

-- the list's note after a call: as the call leaves it, or as it was where other bytes were lent
abbrev pub own_note : (sheet : List ℕ) → Call sheet → List ℕ → List ℕ
own_note sheet (own c) x = note_after sheet x c.allowance c.steps c.plan
own_note sheet (other note c refused) x = x

-- what 8 asks for: "7 plan bytes a piece and 275 note bytes"; and not "step bytes not 4"
abbrev pub lengths_right : {sheet : List ℕ} → Instance → Call sheet → Bool
lengths_right i (own c) = lengths_fit i note_length (length c.steps) (length c.plan)
lengths_right i (other note c refused) = false

-- "the run's whole plan, on the screen as plan bytes"
abbrev pub plan_bytes : Instance → ChoiceCheckpoint → List ℕ
plan_bytes i s = packing_bytes i.item_count (packing_of (turnable_of i) (plan_at (turnable_of i) s))

-- what `hallplan_search` returns and leaves; i is the instance that the sheet reads as
abbrev pub on_bytes : (sheet : List ℕ) → Instance → Service ChoiceCheckpoint (Call sheet) (List ℕ) (List ℕ)
on_bytes sheet i = record {
  -- "A search opens with 273 zeros"; "the opening note holds 0" as its choice: 275 zeros
  opening = replicate note_length 0;
  budget = λ c. (lent c).allowance;
  admitted = lengths_right i;
  code = λ c x. search_code sheet (lent_note c x) (lent c).allowance (lent c).steps (lent c).plan;
  next = own_note sheet;
  steps = λ c x. steps_in (steps_after sheet (lent_note c x) (lent c).allowance (lent c).steps (lent c).plan);
  plan = λ c x. plan_after sheet (lent_note c x) (lent c).allowance (lent c).steps (lent c).plan;
  hold = note_bytes;
  plan_of = plan_bytes i;
  -- "and the plan bytes only when placed"
  no_plan = λ c. (lent c).plan;
}
