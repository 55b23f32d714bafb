-- What validity says of an instance, part by part; and that its sheet may be written.
use Rattle.std.specs.Prelude.{◌≡◌, ◌&&◌, ◌≤◌, ◌<◌, ◌∷◌, ◌≢◌, Option, Some, None}
use Rattle.prelude.specs.Names.{sym, ◌∙◌, true, map, ℕ, zero, suc, arith, leb, ltb, length, get_or, length-take-le, leb-true, ltb-true}
use Rattle.prelude.specs.Names.{eq-eqb, eqb-false, not-true, List, [], le_of_suc-le-suc}
use lib.ListN.{length-map}
use Rattle.formats.proofs.Laws.{both_true}
use Rattle.parts.specs.Precedences.{arc_of, lag_of, unlagged, all_allowed, names_items, rises}
use Rattle.parts.specs.Sizes.{size_in_range, all_in_range, no_precedence}
use Rattle.sheet.specs.Sheet.{max_items, max_precedences, longest_sheet, sheet}
use Rattle.sheet.proofs.Longest.{sheet-most}
use Rattle.sheet.proofs.Valid.{sheet-valid}
use Rattle.instance.specs.declared.Instance.{Instance}
use Rattle.instance.specs.Valid.{valid, items_of, precedences_of}
use Rattle.instance.specs.Sheets.{sheet_of, encode}
use Rattle.parts.specs.declared.Precedence.{Precedence}
use Rattle.instance.specs.Reads.{Full}

pub record IsValid (i : Instance) : Type 0 where
  pub items-few : i.item_count ≤ max_items
  pub precedences-few : i.precedence_count ≤ max_precedences
  pub container-in_range : size_in_range i.container ≡ true
  pub items_in_range : all_in_range (items_of i) ≡ true
  pub precedences-allowed : all_allowed i.item_count None (map arc_of (precedences_of i)) ≡ true

pub valid-says : (i : Instance) → valid i ≡ true → IsValid i
unfolding valid
valid-says i h =
    let (a, b) = both_true (leb i.item_count max_items) _ h in
    let (c, d) = both_true (leb i.precedence_count max_precedences) _ b in
    let (e, f) = both_true (size_in_range i.container) _ d in
    let (g, k) = both_true (all_in_range (items_of i)) _ f in
    record { items-few = leb-true _ _ a; precedences-few = leb-true _ _ c; container-in_range = e; items_in_range = g; precedences-allowed = k }

pub items-few : (i : Instance) → valid i ≡ true → i.item_count ≤ max_items
items-few i h = (valid-says i h).items-few

pub precedences-few : (i : Instance) → valid i ≡ true → i.precedence_count ≤ max_precedences
precedences-few i h = (valid-says i h).precedences-few

-- each of the precedences that are allowed names two items below n
pub allowed_at : (n : ℕ) (last : Option Precedence) (os : List Precedence) → all_allowed n last (map arc_of os) ≡ true → (k : ℕ) → k < length os
    → let o = get_or os k no_precedence in (o.predecessor < n) × (o.successor < n) × (o.predecessor ≢ o.successor)
unfolding all_allowed names_items
allowed_at n last [] e k h = absurd (omega arith)
allowed_at n last (o ∷ os) e zero h =
    let first = (both_true (names_items n (arc_of o)) _ (both_true (names_items n (arc_of o) && rises last (arc_of o)) _ e).0).0 in
    let (a, r) = both_true (ltb o.predecessor n) _ first in
    let (b, d) = both_true (ltb o.successor n) _ r in
    (ltb-true _ _ a, ltb-true _ _ b, eqb-false _ _ (not-true _ d))
allowed_at n last (o ∷ os) e (suc k) h =
    allowed_at n (Some (unlagged (arc_of o))) os (both_true (names_items n (arc_of o) && rises last (arc_of o)) _ e).1 k (le_of_suc-le-suc h)

-- a valid value of the type has as many entries as it counts
module _ (i : Instance) (h : valid i ≡ true) (full : Full i) where
  pub items-counted : length (items_of i) ≡ i.item_count
  items-counted = length-take-le i.item_count i.items (omega (arith, full, valid-says i h))

  pub precedences-counted : length (precedences_of i) ≡ i.precedence_count
  precedences-counted = length-take-le i.precedence_count i.precedences (omega (arith, full, valid-says i h))

  -- its sheet may be written
  pub sheet_of-valid : sheet.valid (sheet_of i) ≡ true
  unfolding valid
  sheet_of-valid =
      let os = precedences_of i in
      let p = length-map os arc_of ∙ precedences-counted in
      sheet-valid (sheet_of i) ∙ rw (items-counted, eq-eqb (length (map lag_of os)) _ (length-map os lag_of ∙ sym (length-map os arc_of)), p) h

  pub encode-most : length (encode i) ≤ longest_sheet
  unfolding encode
  encode-most = sheet-most (sheet_of i) sheet_of-valid
