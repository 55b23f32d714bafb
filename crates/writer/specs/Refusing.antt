-- Document 01's table for writing a sheet, in the order of the tests.
use Rattle.std.specs.Prelude.{◌≡◌, ◌<◌}
use Rattle.prelude.specs.Names.{true, false, ℕ, length}
use Rattle.instance.specs.declared.Instance.{Instance}
use Rattle.instance.specs.Valid.{valid}
use Rattle.instance.specs.Sheets.{encode}

-- "9 is tested before 5, 8 and 10 by whoever takes a sheet value"
pub data WriteFault (i : Instance) (room n : ℕ) : Type 0 where
  -- 9: "a sheet value with over 10 pieces, .."
  nine : valid i ≡ false → n ≡ 9 → WriteFault i room n
  -- 8: "lent room shorter than the sheet to be written"
  eight : valid i ≡ true → room < length (encode i) → n ≡ 8 → WriteFault i room n
