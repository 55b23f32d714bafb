-- Bytes that read as a sheet, and when two values are the same sheet.
use Rattle.std.specs.Prelude.{◌≡◌}
use Rattle.prelude.specs.Names.{List, [], ℕ, length}
use Rattle.formats.specs.Reading.{got}
use Rattle.sheet.specs.Sheet.{max_items, max_precedences}
use Rattle.instance.specs.declared.Instance.{Instance}
use Rattle.instance.specs.Valid.{items_of, precedences_of}
use Rattle.instance.specs.Sheets.{decode}

-- "bytes that read as a sheet": the instance, read to the end of the bytes
pub record Reads (sheet : List ℕ) : Type 0 where
  pub instance : Instance
  pub reads : decode sheet ≡ got instance (length sheet) []

-- "10 pieces, 90 orders": a value of the type has that many entries, whatever it counts
pub record Full (i : Instance) : Type 0 where
  pub items_room : length i.items ≡ max_items
  pub precedences_room : length i.precedences ≡ max_precedences

-- "the same sheet": "Entries of a sheet past its counts are no part of it"
pub record SameInstance (i j : Instance) : Type 0 where
  pub container : i.container ≡ j.container
  pub item_count : i.item_count ≡ j.item_count
  pub items : items_of i ≡ items_of j
  pub precedence_count : i.precedence_count ≡ j.precedence_count
  pub precedences : precedences_of i ≡ precedences_of j
  pub yard_number : i.yard_number ≡ j.yard_number
  pub walkway : i.walkway ≡ j.walkway
