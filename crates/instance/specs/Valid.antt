-- When a value is an instance (document 01, refusal 9).
use Rattle.std.specs.Prelude.{◌&&◌, None}
use Rattle.prelude.specs.Names.{Bool, List, map, leb, take}
use Rattle.parts.specs.declared.Item.{Item}
use Rattle.parts.specs.declared.Precedence.{Precedence}
use Rattle.parts.specs.Precedences.{arc_of, all_allowed}
use Rattle.parts.specs.Sizes.{size_in_range, all_in_range}
use Rattle.sheet.specs.Sheet.{max_items, max_precedences}
use Rattle.instance.specs.declared.Instance.{Instance}

-- "Entries of a sheet past its counts are no part of it"
abbrev pub items_of : Instance → List Item
items_of i = take i.item_count i.items

abbrev pub precedences_of : Instance → List Precedence
precedences_of i = take i.precedence_count i.precedences

-- none of: "over 10 pieces, over 90 orders, a measure 0, or an order that would get 5 or 6"; nor a measure above 4,095: "9 covers such values too"
unfoldable pub valid : Instance → Bool
valid i =
    leb i.item_count max_items
    && (leb i.precedence_count max_precedences
    && (size_in_range i.container
    && (all_in_range (items_of i)
    && all_allowed i.item_count None (map arc_of (precedences_of i)))))
