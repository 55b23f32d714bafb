-- Rows of parts with their count, and the lags, as they are written.
use Rattle.std.specs.Prelude.{◌++◌}
use Rattle.prelude.specs.Names.{List, map, ℕ, length}
use Rattle.formats.specs.Formats.{row_bytes}
use Rattle.formats.specs.Fields.{optional_bytes}
use Rattle.parts.specs.declared.Item.{Item}
use Rattle.parts.specs.declared.Precedence.{Precedence}
use Rattle.parts.specs.Precedences.{arc_of, lag_of}
use Rattle.parts.specs.Parts.{count_bytes, item, precedence, lag_list}

-- the entries, after their count, which is left out for none
abbrev pub items_bytes : List Item → List ℕ
items_bytes xs = count_bytes (length xs) ++ row_bytes item.bytes xs

abbrev pub precedences_bytes : List Precedence → List ℕ
precedences_bytes xs = count_bytes (length xs) ++ row_bytes precedence.bytes (map arc_of xs)

-- the lags of the precedences: "one byte for each order in its sequence", left out where they are all 0
abbrev pub lags_bytes : List Precedence → List ℕ
lags_bytes xs = optional_bytes (lag_list (length xs)) (map lag_of xs)
