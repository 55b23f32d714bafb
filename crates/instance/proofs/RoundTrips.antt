-- Reading and writing undo one another.
use Rattle.std.specs.Prelude.{◌≡◌}
use Rattle.prelude.specs.Names.{true, List, [], refl, sym, ap, ◌∙◌, ℕ, arith, leb, eqb, eqb-true, eq-eqb}
use Rattle.prelude.specs.Names.{length, length-append, length-replicate, take-append_seam}
use lib.ListN.{length-map}
use Rattle.formats.specs.Reading.{Bytes, got, run}
use Rattle.formats.specs.Formats.{whole}
use Rattle.formats.proofs.Run.{read_as-got}
use Rattle.formats.proofs.Laws.{both_true}
use Rattle.parts.specs.Precedences.{arc_of}
use Rattle.parts.specs.Sizes.{no_precedence}
use Rattle.lists.specs.Lists.{with_lags}
use Rattle.lists.proofs.Counted.{padded-first}
use Rattle.lists.proofs.Lags.{lagged-count, lagged_arcs, lagged-lags, lagged-back}
use Rattle.sheet.specs.Sheet.{Sheet, sheet, max_items, max_precedences}
use Rattle.sheet.proofs.Valid.{sheet-valid}
use Rattle.instance.specs.declared.Instance.{Instance}
use Rattle.instance.specs.Valid.{valid, precedences_of}
use Rattle.instance.specs.Sheets.{instance_of, sheet_of, decode, encode}
use Rattle.instance.specs.Reads.{Full, SameInstance}
use Rattle.instance.proofs.Sheets.{valid-says, items-counted, precedences-counted, sheet_of-valid}
use Rattle.sheet.proofs.Laws as Laws

-- the precedences of a sheet's instance are its orders with their lags
precedences_are : (x : Sheet) → precedences_of (instance_of x) ≡ with_lags x.precedences x.lags
unfolding instance_of
precedences_are x = padded-first max_precedences _ no_precedence _ (lagged-count x.precedences x.lags)

-- a sheet that may be written has a lag for each order
lags-counted : (x : Sheet) → sheet.valid x ≡ true → length x.lags ≡ length x.precedences
lags-counted x v =
    let (_, a) = both_true (leb (length x.items) max_items) _ (sym (sheet-valid x) ∙ v) in
    let (_, b) = both_true (leb (length x.precedences) max_precedences) _ a in
    eqb-true _ _ (both_true (eqb (length x.lags) (length x.precedences)) _ b).0

-- the instance of a sheet says what the sheet says
sheet-back : (x : Sheet) → sheet.valid x ≡ true → sheet_of (instance_of x) ≡ x
unfolding instance_of
sheet-back x v = rw (take-append_seam, precedences_are x, lagged_arcs, lagged-lags _ _ (lags-counted x v))

instance-valid : (x : Sheet) → sheet.valid x ≡ true → valid (instance_of x) ≡ true
unfolding valid instance_of
instance-valid x v =
    rw (take-append_seam, precedences_are x, lagged_arcs) (rw (eq-eqb _ _ (lags-counted x v)) at (sym (sheet-valid x) ∙ v))

-- its arrays are full
filled_full : (x : Sheet) → valid (instance_of x) ≡ true → Full (instance_of x)
unfolding instance_of
filled_full x v =
    let σ = valid-says (instance_of x) v in
    record {
      items_room = simp (length-append, length-replicate) (omega arith);
      precedences_room = simp (length-append, length-replicate, lagged-count) (omega arith);
    }

module _ (s : List ℕ) {i : Instance} {at : ℕ} {rest : List ℕ} (h : decode s ≡ got i at rest) where
  -- the sheet that was read
  pub read_sheet : (x : Sheet) × (run (whole sheet) 0 s ≡ got x at rest) × (instance_of x ≡ i)
  unfolding decode
  read_sheet = read_as-got instance_of (run (whole sheet) 0 s) h

  -- what was read is valid, and its arrays are full
  pub read_valid : Bytes s → valid i ≡ true
  read_valid b = let (x, r, e) = read_sheet in rw (← e) (instance-valid x (Laws.read_valid s b r))

  pub read_full : Bytes s → Full i
  read_full b = let (x, r, e) = read_sheet in rw (← e) (filled_full x (instance-valid x (Laws.read_valid s b r)))

  -- "bytes that read as a sheet are written again as those bytes"
  pub decode_encodes : Bytes s → encode i ≡ s
  unfolding encode
  decode_encodes b = let (x, r, e) = read_sheet in rw (← e) (ap sheet.bytes (sheet-back x (Laws.read_valid s b r)) ∙ Laws.read_written s b r)

-- the instance with its entries past the counts blank
abbrev pub blanked : Instance → Instance
blanked i = instance_of (sheet_of i)

-- "A written sheet reads back as the same sheet"
pub encode_decodes : (i : Instance) → valid i ≡ true → Full i → decode (encode i) ≡ got (blanked i) (length (encode i)) []
unfolding decode encode
encode_decodes i v full = rw (Laws.written_read (sheet_of i) (sheet_of-valid i v full))

pub same_blanked : (i : Instance) → valid i ≡ true → Full i → SameInstance i (blanked i)
unfolding instance_of
same_blanked i v full = record {
  container = refl;
  item_count = sym (items-counted i v full);
  items = rw take-append_seam;
  yard_number = refl;
  walkway = refl;
  precedence_count = sym (length-map (precedences_of i) arc_of ∙ precedences-counted i v full);
  precedences = sym (precedences_are (sheet_of i) ∙ lagged-back (precedences_of i));
}
