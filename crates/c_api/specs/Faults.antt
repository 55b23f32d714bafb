-- The table's conditions for check and search on bytes, in their order (document 01, "Refusals": "the sheet's refusals come first",
-- "8 before 10"; 13: document 02, #106).
use Rattle.std.specs.Prelude.{◌≡◌, ◌*◌}
use Rattle.prelude.specs.Names.{List, ℕ, length}
use Rattle.refusal.specs.Numbers.{number_of}
use Rattle.refusal.specs.declared.Refusal.{Refusal}
use Rattle.sheet.specs.Faults.{FirstFault}
use Rattle.instance.specs.Reads.{Reads}
use Rattle.turning.specs.Turned.{turnable_of, MarksAllowed}
use Rattle.buffers.specs.Bytes.{packing_in}
use Rattle.c_api.specs.Notes.{Lengths, NoteFollows}
use Rattle.buffers.specs.Lengths.{piece_length}

-- check refuses with the number n
pub data CheckBytesFault (sheet plan : List ℕ) (n : ℕ) : Type 0 where
  -- 1 to 7, 11 and 12: the sheet's first fault
  unread : (e : Refusal) → FirstFault sheet e → n ≡ number_of e → CheckBytesFault sheet plan n
  -- "8 asks for 7 plan bytes a piece"
  eight : (r : Reads sheet) → (length plan ≡ piece_length * r.instance.item_count → ⊥) → n ≡ 8 → CheckBytesFault sheet plan n
  -- 13: "a plan mark above 1, or 1 on a piece that may not turn", "met by check .. after 8"
  thirteen : (r : Reads sheet) → length plan ≡ piece_length * r.instance.item_count
      → (MarksAllowed r.instance (packing_in plan).marks → ⊥) → n ≡ 13 → CheckBytesFault sheet plan n

-- search refuses with the number n
pub data SearchBytesFault (sheet note steps plan : List ℕ) (n : ℕ) : Type 0 where
  -- 1 to 7, 11 and 12: the sheet's first fault
  unread : (e : Refusal) → FirstFault sheet e → n ≡ number_of e → SearchBytesFault sheet note steps plan n
  -- "8 asks for 7 plan bytes a piece and 275 note bytes"; "step bytes not 4"
  eight : (r : Reads sheet) → (Lengths r.instance note steps plan → ⊥) → n ≡ 8 → SearchBytesFault sheet note steps plan n
  -- 10: "a note that doesn't follow its sheet", "a choice beyond the last, or not the last in a none note"
  ten : (r : Reads sheet) → Lengths r.instance note steps plan → (NoteFollows (turnable_of r.instance) note → ⊥) → n ≡ 10
      → SearchBytesFault sheet note steps plan n
