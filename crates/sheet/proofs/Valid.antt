-- Which sheets may be written, part by part.
use Rattle.std.specs.Prelude.{Option, None, Some, ◌≡◌, ◌&&◌, ◌∷◌}
use Rattle.prelude.specs.Names.{refl, sym, ◌∙◌, Bool, true, false, and-true, and-false, and_assoc, and_comm, List, [], ℕ}
use Rattle.prelude.specs.Names.{leb, eqb, eqb-suc-zero, length}
use lib.Dec.{leb-zero}
use Rattle.formats.specs.Formats.{Format, Test, byte, tested, passes_all, keyed, row_valid, row, count, counted}
use Rattle.formats.specs.Fields.{optional_valid, fields_valid}
use Rattle.formats.proofs.Maps.{with_map-valid}
use Rattle.parts.specs.declared.Item.{Item}
use Rattle.parts.specs.declared.Precedence.{Precedence}
use Rattle.parts.specs.Sizes.{size_in_range, all_in_range}
use Rattle.parts.specs.Precedences.{Arc, unlagged, all_allowed}
use Rattle.parts.specs.Parts.{measures, item, precedence, precedence_tests}
use Rattle.parts.proofs.Laws.{not-ltb, number-valid, byte_number-valid, measure-valid, item-valid, precedence-valid, lag-valid}
use Rattle.sheet.specs.Sheet.{Sheet, max_items, max_precedences, list_of, item_list, precedence_list, yard_number, walkway, sheet_fields, sheet}

-- a list has at most so many parts, each as its row asks
pub list_valid : {P A : Type 0} (part : Format A) (tests : P → A → List Test) (next : P → A → P) (p : P) (limit : ℕ) (xs : List A)
    → optional_valid (list_of part tests next p limit) xs ≡ (leb (length xs) limit && row_valid part tests next p (length xs) xs)
unfolding optional_valid list_of counted count keyed tested passes_all byte row row_valid
list_valid part tests next p limit [] = rw leb-zero
list_valid part tests next p limit (x ∷ xs) = simp (eqb-suc-zero, not-ltb, and-true)

items-valid : (is : List Item) → row_valid item (λ (_ : Unit {0}) _. []) (λ p _. p) tt (length is) is ≡ all_in_range is
unfolding row_valid all_in_range tested passes_all
items-valid [] = refl
items-valid (i ∷ is) = rw (item-valid i, items-valid is, and-true)

precedences-valid : (n : ℕ) (l : List Arc) (last : Option Precedence)
    → row_valid precedence (precedence_tests n) (λ _ a. Some (unlagged a)) last (length l) l ≡ all_allowed n last l
unfolding row_valid all_allowed
precedences-valid n [] last = refl
precedences-valid n (a ∷ l) last = rw (precedence-valid n last a, precedences-valid n l (Some (unlagged a)))

and_left_comm : (a b c : Bool) → (a && (b && c)) ≡ (b && (a && c))
and_left_comm true b c = refl
and_left_comm false b c = sym (and-false b)

-- not "over 10 pieces, over 90 orders, a measure 0, or an order that would get 5 or 6", nor a measure above 4,095; and there is a lag for each order
pub sheet-valid : (x : Sheet) → sheet.valid x
    ≡ (leb (length x.items) max_items && (leb (length x.precedences) max_precedences && (eqb (length x.lags) (length x.precedences)
    && (size_in_range x.container && (all_in_range x.items && all_allowed (length x.items) None x.precedences)))))
unfolding sheet sheet_fields measures item_list precedence_list yard_number walkway fields_valid size_in_range
sheet-valid x =
    with_map-valid sheet_fields x
    ∙ simp (
      number-valid,
      byte_number-valid,
      measure-valid,
      list_valid,
      items-valid,
      precedences-valid,
      lag-valid,
      leb-zero,
      and-true,
      and_assoc,
      and_left_comm,
      and_comm,
    )
