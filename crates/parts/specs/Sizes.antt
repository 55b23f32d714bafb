-- Measures, and blank entries.
use Rattle.std.specs.Prelude.{◌&&◌, ◌∷◌}
use Rattle.prelude.specs.Names.{Bool, true, false, List, [], ℕ, leb}
use Rattle.parts.specs.declared.Size.{Size}
use Rattle.parts.specs.declared.Item.{Item}
use Rattle.parts.specs.declared.Precedence.{Precedence}

-- "Make 4,095 the greatest measure of halls and pieces" (document 02, #104; document 01 has 65,535)
abbrev pub max_measure : ℕ
max_measure = 4095

-- "Measures are 1 to .."
unfoldable pub in_range : ℕ → Bool
in_range v = leb 1 v && leb v max_measure

unfoldable pub size_in_range : Size → Bool
size_in_range s = in_range s.width && (in_range s.depth && in_range s.shifts)

unfoldable pub all_in_range : List Item → Bool
all_in_range [] = true
all_in_range (i ∷ is) = size_in_range i.size && all_in_range is

-- "reading leaves them 0": entries that are no part of an instance. Such an item may not be turned
abbrev pub no_item : Item
no_item = record { size = record { width = 0; depth = 0; shifts = 0 }; may_turn = false }

abbrev pub no_precedence : Precedence
no_precedence = record { predecessor = 0; successor = 0; lag = 0 }
