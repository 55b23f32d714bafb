-- An instance and what its sheet says; reading and writing it (document 01, "Sheet bytes").
use Rattle.prelude.specs.Names.{List, map, ℕ, length}
use Rattle.formats.specs.Reading.{Read, run, read_as}
use Rattle.formats.specs.Formats.{whole}
use Rattle.parts.specs.Sizes.{no_item, no_precedence}
use Rattle.parts.specs.Precedences.{arc_of, lag_of}
use Rattle.sheet.specs.Sheet.{Sheet, sheet, max_items, max_precedences}
use Rattle.lists.specs.Lists.{padded, with_lags}
use Rattle.instance.specs.declared.Instance.{Instance}
use Rattle.instance.specs.Valid.{items_of, precedences_of}

unfoldable pub instance_of : Sheet → Instance
instance_of s = record {
  container = s.container;
  items = padded max_items no_item s.items;
  item_count = length s.items;
  precedences = padded max_precedences no_precedence (with_lags s.precedences s.lags);
  precedence_count = length s.precedences;
  yard_number = s.yard_number;
  walkway = s.walkway;
}

abbrev pub sheet_of : Instance → Sheet
sheet_of i = record {
  container = i.container;
  items = items_of i;
  precedences = map arc_of (precedences_of i);
  yard_number = i.yard_number;
  lags = map lag_of (precedences_of i);
  walkway = i.walkway;
}

-- the instance that bytes read as, or the first fault from left to right
unfoldable pub decode : List ℕ → Read Instance
decode s = read_as instance_of (run (whole sheet) 0 s)

-- the bytes of an instance
unfoldable pub encode : Instance → List ℕ
encode i = sheet.bytes (sheet_of i)
