-- Document 01's table for an item's record, in the order of the tests.
use Rattle.std.specs.Prelude.{◌≡◌, ◌≤◌}
use Rattle.prelude.specs.Names.{List, ℕ}
use Rattle.refusal.specs.declared.Refusal.{Refusal}
use Rattle.refusal.specs.declared.Refusal.TheVariants.{BadItem}
use Rattle.sheet.specs.Faults.{FirstFault}
use Rattle.instance.specs.Reads.{Reads}

-- "The label record reads the whole sheet first"
pub data RecordFault (sheet : List ℕ) (k : ℕ) (e : Refusal) : Type 0 where
  -- 1 to 7, 11 and 12, with its place: the sheet is refused
  unread : FirstFault sheet e → RecordFault sheet k e
  -- 5: "a piece not on the sheet"; the place is "0 from clearance and label record"
  missing : (r : Reads sheet) → r.instance.item_count ≤ k → e ≡ BadItem 0 → RecordFault sheet k e
