-- What check looks at: a sheet that reads, plan bytes of the right length, and marks that may stand (document 01, "Fit"; document 02, #106).
use Rattle.std.specs.Prelude.{◌≡◌, ◌*◌}
use Rattle.prelude.specs.Names.{List, ℕ, length}
use Rattle.instance.specs.Reads.{Reads}
use Rattle.turning.specs.Turned.{turnable_of, plan_of, MarksAllowed}
use Rattle.buffers.specs.Bytes.{packing_in}
use Rattle.buffers.specs.Lengths.{piece_length}
use Rattle.model.specs.Turning as M

-- sheet and plan bytes that the table does not refuse: the sheet reads as an instance, there are 7 plan bytes for each piece, and each mark is 0, or 1 on
-- a piece that may turn
pub record Checkable (sheet plan : List ℕ) : Type 0 where
  pub sheet_reads : Reads sheet
  pub plan_is : length plan ≡ piece_length * sheet_reads.instance.item_count
  pub marks_are : MarksAllowed sheet_reads.instance (packing_in plan).marks

-- "A plan fits when": the positions that the plan bytes give are feasible with the pieces turned that they mark
abbrev pub PlanFits : {sheet plan : List ℕ} → Checkable sheet plan → Type 0
PlanFits {plan = plan} c = M.Fits (turnable_of c.sheet_reads.instance) (plan_of (packing_in plan))
