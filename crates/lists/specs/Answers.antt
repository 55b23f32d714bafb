-- What of a list counts.
use Rattle.prelude.specs.Names.{List, take}
use Rattle.parts.specs.declared.Item.{Item}
use Rattle.parts.specs.declared.Precedence.{Precedence}
use Rattle.lists.specs.declared.Items.{Items}
use Rattle.lists.specs.declared.Precedences.{Precedences}

-- the first entries
abbrev pub items_of : Items → List Item
items_of list = take list.count list.items

abbrev pub precedences_of : Precedences → List Precedence
precedences_of list = take list.count list.precedences
