-- An instance whose items may be turned, and the marks of a plan (document 02, #106).
use Rattle.std.specs.Prelude.{◌&&◌, ◌||◌, ◌⊎◌, ◌∷◌, ◌≡◌, ◌*◌, ◌/◌, ◌%◌, ◌<◌}
use Rattle.prelude.specs.Names.{Bool, true, false, cond, List, [], map, ℕ, ltb, eqb, get_or}
use Rattle.model.specs.Below.{all_below}
use Rattle.model.specs.Turning.{Turnable, Plan, marks_of}
use Rattle.parts.specs.declared.Size.{Size}
use Rattle.parts.specs.declared.Item.{Item}
use Rattle.parts.specs.Sizes.{no_item}
use Rattle.instance.specs.declared.Instance.{Instance}
use Rattle.instance.specs.declared.Packing.{Packing}
use Rattle.instance.specs.Meaning.{problem_of, positions_of}

-- "Bit 3 of a piece's map .. allows": which items may turn; "Entries of a sheet past its counts are no part of it"
abbrev pub may_turn_of : ℕ → List Item → ℕ → Bool
may_turn_of n items u = ltb u n && (get_or items u no_item).may_turn

abbrev pub may_turn_in : Instance → ℕ → Bool
may_turn_in i = may_turn_of i.item_count i.items

-- what an instance asks for, with the items that may be turned
unfoldable pub turnable_of : Instance → Turnable
turnable_of i = record { given = problem_of i; may_turn = may_turn_in i }

-- a mark: 1 for turned
abbrev pub is_turned : ℕ → Bool
is_turned m = eqb m 1

abbrev pub mark_of : Bool → ℕ
mark_of turned = cond turned 1 0

abbrev pub marks_in : List ℕ → ℕ → Bool
marks_in marks u = is_turned (get_or marks u 0)

-- "A plan holds one mark a piece"
abbrev pub plan_of : Packing → Plan
plan_of q = record { positions = positions_of q; marks = marks_in q.marks }

-- "one mark a piece, ten in all"
unfoldable pub each_of_ten : {A : Type 0} → (ℕ → A) → List A
each_of_ten f = map f (0 ∷ 1 ∷ 2 ∷ 3 ∷ 4 ∷ 5 ∷ 6 ∷ 7 ∷ 8 ∷ 9 ∷ [])

-- the marks of a choice
unfoldable pub choice_marks : Turnable → ℕ → List ℕ
choice_marks t c = each_of_ten (λ u. mark_of (marks_of t.may_turn c u))

-- how many choices there are with an item more
abbrev pub count_with : Bool → ℕ → ℕ
count_with may_turn count = cond may_turn (2 * count) count

-- an item's mark by what is left of a choice, and what is left after it
abbrev pub digit_of : Bool → ℕ → ℕ
digit_of may_turn left = cond may_turn (left % 2) 0

abbrev pub digits_after : Bool → ℕ → ℕ
digits_after may_turn left = cond may_turn (left / 2) left

-- "width and depth .. exchanged"
abbrev pub exchanged : Size → Size
exchanged s = record { width = s.depth; depth = s.width; shifts = s.shifts }

abbrev pub turned_item : Bool → Item → Item
turned_item true i = record { size = exchanged i.size; may_turn = i.may_turn }
turned_item false i = i

unfoldable pub turned_items : List Item → List ℕ → List Item
turned_items items marks = each_of_ten (λ u. turned_item (marks_in marks u) (get_or items u no_item))

-- the instance with its marked items turned
unfoldable pub turned_instance : Instance → List ℕ → Instance
turned_instance i marks = record {
  container = i.container;
  items = turned_items i.items marks;
  item_count = i.item_count;
  precedences = i.precedences;
  precedence_count = i.precedence_count;
  yard_number = i.yard_number;
  walkway = i.walkway;
}

-- 13: "a plan mark above 1, or 1 on a piece that may not turn" does not hold, of one mark
abbrev pub mark_allowed : Bool → ℕ → Bool
mark_allowed may_turn m = eqb m 0 || (eqb m 1 && may_turn)

-- nor of that of any piece on the sheet
unfoldable pub marks_allowed : Instance → List ℕ → Bool
marks_allowed i marks = all_below i.item_count (λ u. mark_allowed (get_or i.items u no_item).may_turn (get_or marks u 0))

-- the same as a statement: the mark of each piece on the sheet is 0, or it is 1 and the piece may turn
abbrev pub MarksAllowed : Instance → List ℕ → Type 0
MarksAllowed i marks = (u : ℕ) → u < i.item_count
    → (get_or marks u 0 ≡ 0) ⊎ ((get_or marks u 0 ≡ 1) × ((get_or i.items u no_item).may_turn ≡ true))
