-- What a sheet's reading gives, field by field; and the instance that its fields make.
use Rattle.std.specs.Prelude.{◌≡◌, ◌∷◌}
use Rattle.prelude.specs.Names.{refl, sym, ap, ap₂, ◌∙◌, List, [], map, cond, leb, ℕ, length, take}
use lib.ListN.{length-map}
use Rattle.refusal.specs.declared.Refusal.TheVariants.{UnknownBit}
use Rattle.formats.specs.Reading.{Read, done, end, got, refused, run, ◌>>=◌, read_as}
use Rattle.formats.specs.Formats.{byte, testing, tested, keyed, whole}
use Rattle.formats.specs.Fields.{optional_reading, is_set, fields_reading, fields, map_byte, with_map}
use Rattle.formats.proofs.Run.{Next, after, after_after, run-then, read_as_after, read_as-cond}
use Rattle.parts.specs.declared.Size.{Size}
use Rattle.parts.specs.declared.Item.{Item}
use Rattle.parts.specs.declared.Precedence.{Precedence}
use Rattle.parts.specs.Sizes.{no_item, no_precedence}
use Rattle.parts.specs.Precedences.{Arc, arc_of, unlagged}
use Rattle.parts.specs.Parts.{number, byte_number, measures, size_fields, lag_list}
use Rattle.sheet.specs.Sheet.{Sheet, sheet_fields, sheet, max_items, max_precedences, item_list, precedence_list, yard_number, walkway}
use Rattle.instance.specs.declared.Instance.{Instance}
use Rattle.instance.specs.Sheets.{instance_of, decode}
use Rattle.lists.specs.Lists.{padded, Padded, with_lags}
use Rattle.lists.proofs.Counted.{padded-count}
use Rattle.lists.proofs.Lags.{arcs_read, lagged-padded}

-- the fields by their bits of the map, and the end of the sheet; orders are read as precedences without lags
abbrev pub fields_read : ℕ → ℕ → List ℕ → Read Instance
fields_read m at rest =
    after (run (fields_reading size_fields m 1) at rest) λ c at₁ rest₁.
    after (run (optional_reading item_list (is_set m 8)) at₁ rest₁) λ is at₂ rest₂.
    after (read_as (map unlagged) (run (optional_reading (precedence_list (length is)) (is_set m 16)) at₂ rest₂)) λ os at₃ rest₃.
    after (run (optional_reading (number 0) (is_set m 32)) at₃ rest₃) λ y at₄ rest₄.
    after (run (optional_reading (lag_list (length os)) (is_set m 64)) at₄ rest₄) λ gs at₅ rest₅.
    after (run (optional_reading byte_number (is_set m 128)) at₅ rest₅) λ w at₆ rest₆.
    after (run (end (done (tt {0}))) at₆ rest₆) λ _ at₇ rest₇.
    got (instance_of (record { container = c; items = is; precedences = map arc_of os; yard_number = y; lags = gs; walkway = w })) at₇ rest₇

-- orders with no lag yet are orders
unlagged-run : {B : Type 0} (r : Read (List Arc)) (next : Next (List Arc) B)
    → after r next ≡ after (read_as (map unlagged) r) λ os at rest. next (map arc_of os) at rest
unlagged-run {B} (got l at rest) next = ap (λ (r : Read (List Arc)). after {B = B} r next) (arcs_read (got l at rest) refl)
unlagged-run (refused e) next = refl

-- the end of the bytes, whatever was read
end-run : (x : Sheet) (at : ℕ) (rest : List ℕ)
    → read_as instance_of (run (end (done x)) at rest) ≡ after (run (end (done (tt {0}))) at rest) λ _ at₁ rest₁. got (instance_of x) at₁ rest₁
unfolding run
end-run x at [] = refl
end-run x at (b ∷ rest) = refl

-- the fields without their map byte
fields-run : (m at : ℕ) (rest : List ℕ) → read_as instance_of (run (fields_reading sheet_fields m 1 >>= λ x. end (done x)) at rest) ≡ fields_read m at rest
unfolding fields_reading sheet_fields size_fields measures yard_number walkway run
fields-run m at rest = simp (run-then, after_after, read_as_after, end-run, unlagged-run, length-map)

-- a map byte first
pub sheet-run : (s : List ℕ) → decode s
    ≡ after (run byte.reading 0 s) λ m at rest. cond (leb 256 m) (refused (UnknownBit 0)) (fields_read m at rest)
unfolding decode whole sheet with_map map_byte keyed tested testing byte fields run ◌>>=◌
sheet-run [] = refl
sheet-run (x ∷ rest) =
    read_as-cond instance_of (leb 256 x) (UnknownBit 0) _ ∙ ap (cond (leb 256 x) (refused (UnknownBit 0))) (fields-run x 1 rest)

-- What was read of a list is padded: the instance has it as it is.
module _ (container : Size) (items : List Item) (n : ℕ) (ι : Padded max_items no_item n items)
    (os : List Precedence) (m : ℕ) (π : Padded max_precedences no_precedence m os)
    (yard : ℕ) (lags : List ℕ) (φ : Padded max_precedences 0 m lags) (walkway : ℕ) where
  as_many : length (take m lags) ≡ length (take m os)
  as_many = padded-count _ _ _ _ φ ∙ sym (padded-count _ _ _ _ π)

  lagged_are : with_lags (map arc_of os) lags ≡ padded max_precedences no_precedence (with_lags (map arc_of (take m os)) (take m lags))
  lagged_are =
      ap₂ (λ (os : List Precedence) gs. with_lags (map arc_of os) gs) π.same φ.same
      ∙ lagged-padded max_precedences (take m os) _ as_many

  pub instance-is : instance_of (record {
    container = container;
    items = take n items;
    precedences = map arc_of (take m os);
    yard_number = yard;
    lags = take m lags;
    walkway = walkway;
  })
      ≡ record {
        container = container;
        items = items;
        item_count = n;
        precedences = with_lags (map arc_of os) lags;
        precedence_count = m;
        yard_number = yard;
        walkway = walkway;
      }
  unfolding instance_of
  instance-is =
      rw (← ι.same, padded-count _ _ _ _ ι, ← lagged_are, length-map (take m os) arc_of, padded-count _ _ _ _ π)

-- what the reader's proof cites
pub ruleset readings = (sheet-run, padded-count, instance-is)
