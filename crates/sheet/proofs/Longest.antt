-- "The longest sheet is 352 bytes": no valid sheet is longer, and one has that length.
use Rattle.std.specs.Prelude.{◌≡◌, ◌∷◌, ◌++◌, ◌+◌, ◌*◌, ◌≤◌}
use Rattle.prelude.specs.Names.{refl, sym, ◌∙◌, true, false, cond, List, [], ℕ, zero, suc, arith, eqb, leb, length}
use Rattle.prelude.specs.Names.{length-append, replicate, leb-true, eqb-true}
use native.Mathlib.Nat.{mul-le-mul_left}
use Rattle.formats.specs.Formats.{Format, Test, byte, pair, converted, tested, keyed, row_bytes, row, count, counted}
use Rattle.formats.specs.Fields.{optional_bytes, fields_bytes, fields, map_byte, with_map}
use Rattle.formats.proofs.Laws.{both_true}
use Rattle.parts.specs.declared.Size.{Size}
use Rattle.parts.specs.Precedences.{Arc}
use Rattle.parts.specs.Parts.{measures, item, precedence}
use Rattle.parts.proofs.Laws.{number-most, byte_number-most, measure-most, item-most, lags-most}
use Rattle.sheet.specs.Sheet.{Sheet, max_items, max_precedences, longest_sheet, list_of, item_list, precedence_list, yard_number, walkway}
use Rattle.sheet.specs.Sheet.{sheet_fields, sheet}
use Rattle.sheet.proofs.Valid.{sheet-valid}
use Rattle.sheet.specs.Computing.{sheet_computing}

-- parts of at most k bytes each
module _ {A : Type 0} (part : Format A) (k : ℕ) (most : (x : A) → length (part.bytes x) ≤ k) where
  row-most : (xs : List A) → length (row_bytes part.bytes xs) ≤ k * length xs
  unfolding row_bytes
  row-most [] = omega arith
  row-most (x ∷ xs) = rw length-append (omega (arith, most x, row-most xs))

  pub list_most : {P : Type 0} (tests : P → A → List Test) (next : P → A → P) (p : P) (limit : ℕ) (xs : List A) → length xs ≤ limit
      → length (optional_bytes (list_of part tests next p limit) xs) ≤ 1 + k * limit
  unfolding optional_bytes list_of counted count keyed tested byte row
  list_most tests next p limit xs l =
      elim (eqb (length xs) 0) as (λ b. length {A = ℕ} (cond b [] (length xs ∷ row_bytes part.bytes xs)) ≤ 1 + k * limit)
      [ true ↦ omega arith | false ↦ omega (arith, row-most xs, mul-le-mul_left k l) ]

pub sheet-most : (x : Sheet) → sheet.valid x ≡ true → length (sheet.bytes x) ≤ longest_sheet
unfolding sheet sheet_fields measures item_list precedence_list yard_number walkway precedence converted pair
    with_map map_byte keyed tested byte fields fields_bytes
sheet-most x v =
    let (i, r) = both_true (leb (length x.items) max_items) _ (sym (sheet-valid x) ∙ v) in
    let (o, q) = both_true (leb (length x.precedences) max_precedences) _ r in
    let (g, _) = both_true (eqb (length x.lags) (length x.precedences)) _ q in
    let is : length (optional_bytes item_list x.items) ≤ 71 = list_most item 7 item-most _ _ _ max_items _ (leb-true _ _ i) in
    let os : length (optional_bytes (precedence_list (length x.items)) x.precedences) ≤ 181 =
    list_most precedence 2 (λ o. omega arith) _ _ _ max_precedences _ (leb-true _ _ o) in
    simp length-append (omega (
      arith,
      measure-most x.container.width,
      measure-most x.container.depth,
      measure-most x.container.shifts,
      number-most 0 x.yard_number,
      lags-most (length x.precedences) x.lags,
      eqb-true (length x.lags) _ g,
      leb-true (length x.precedences) _ o,
      byte_number-most x.walkway,
    ))

-- such a sheet: ten items with three written measures each, a precedence for every two of them, a yard number, a lag above 0, and a walkway
abbrev two : Size
two = record { width = 2; depth = 2; shifts = 2 }

-- item u before each other one of the n items from v on
abbrev before_others : ℕ → ℕ → ℕ → List Arc
before_others u v zero = []
before_others u v (suc n) = cond (eqb u v) [] (record { predecessor = u; successor = v } ∷ []) ++ before_others u (v + 1) n

-- each of the n items from u on before each other one
abbrev all-before : ℕ → ℕ → List Arc
all-before u zero = []
all-before u (suc n) = before_others u 0 max_items ++ all-before (u + 1) n

pub longest : Sheet
longest = record {
  container = two;
  items = replicate max_items (record { size = two; may_turn = false });
  precedences = all-before 0 max_items;
  yard_number = 1;
  lags = 1 ∷ replicate 89 0;
  walkway = 1;
}

pub longest-valid : sheet.valid longest ≡ true
unfolding sheet_computing longest
longest-valid = refl

pub longest-length : length (sheet.bytes longest) ≡ longest_sheet
unfolding sheet_computing longest
longest-length = refl
