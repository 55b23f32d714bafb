-- "Reading goes left to right and gives the first fault; at one place the lower number": what reading a sheet gives, by the faults of its bytes.
use Rattle.std.specs.Prelude.{Option, None, Some, ◌≡◌, ◌⊎◌, ◌↔◌, ◌+◌, ◌*◌, ◌≤◌, ◌<◌}
use Rattle.prelude.specs.Names.{refl, sym, ◌∙◌, Bool, true, false, not, cond, false≢true, and-false, not-not, List, [], inl, inr}
use Rattle.prelude.specs.Names.{iff_refl, ℕ, zero, suc, arith, dec_le, dec_lt, add-zero, add_assoc, eq-or-lt_of_le, eqb, leb, ltb, length}
use Rattle.prelude.specs.Names.{get_or, drop, eqb-true, eq-eqb, ne_eqb, lt-ltb, ltb-true, le-ltb, leb-true, le-leb}
use lib.Seq.{drop-length}
use Rattle.refusal.specs.declared.Refusal.{Refusal}
use Rattle.refusal.specs.declared.Refusal.TheVariants.{UnknownBit, WrittenDefault, BadItem, NotRising, NoLag, TooLarge}
use Rattle.formats.specs.Reading.{Bytes, Reading, got, refused, run, ◌>>=◌}
use Rattle.formats.specs.Formats.{up_to, Format, Test, byte, word, presence, pair, converted, tested, keyed, row, count, counted, whole}
use Rattle.formats.specs.Fields.{Optional, optional_reading, Fields, is_set, fields_reading, fields, map_byte, with_map}
use Rattle.formats.proofs.Laws.{both_true}
use Rattle.formats.proofs.Spans.{length-up_to, getD_up_to, Gives, gives_as, first-given, none-given, given-none, Spans, spans_as}
use Rattle.formats.proofs.Spans.{default-before_large, spans_two_tests}
use Rattle.formats.proofs.Spans.{first-inside, no_lag-inside, spans_done, spans_byte, spans_two_bytes, spans_then, spans_one_test}
use Rattle.formats.proofs.Spans.{spans_untested, Unknown, spans_map, Miscounted, spans_count, Parts, spans_row, OrTrailing, gives_whole}
use Rattle.parts.specs.declared.Size.{Size}
use Rattle.parts.specs.declared.Precedence.{Precedence}
use Rattle.parts.specs.Parts.{number_as, number, byte_number, measure, measures, may_turn, item_fields, item, precedence, precedence_tests}
use Rattle.parts.specs.Parts.{lags_zero, lag_row, lag_list}
use Rattle.parts.specs.Precedences.{Arc, unlagged, names_items, above, rises}
use Rattle.parts.specs.Sizes.{max_measure, no_item}
use Rattle.parts.proofs.Laws.{lag_laws}
use Rattle.sheet.specs.Sheet.{Sheet, max_items, max_precedences, list_of, item_list, precedence_list, sheet_fields, sheet}
use Rattle.sheet.specs.Places.{two_if, measures_length, byte_at, word_at, precedence_at, has, container_end, items_on, after_item, item_place}
use Rattle.sheet.specs.Places.{items_end, precedences_on, precedence_place, precedences_end, yard_number_end, lags_end, sheet_end}
use Rattle.sheet.specs.Faults.{MeasureAt, width, depth, shifts, Misnames, Fault, FirstFault, ends_early, unknown_bit, item_unknown_bit}
use Rattle.sheet.specs.Faults.{container_measure, item_measure, yard_number, walkway, item_count, precedence_count, bad_item, not_rising}
use Rattle.sheet.specs.Faults.{trailing_bytes, no_lag, container_too_large, item_too_large}
use Rattle.sheet.specs.Contents.{size_at, item_at, items_at, sheet_at}
use Rattle.sheet.specs.Sheet as S

-- the tests of a precedence, and what they test
misnames : (n u v : ℕ) → (not (names_items n (record { predecessor = u; successor = v })) ≡ true) ↔ ((n ≤ u) ⊎ ((n ≤ v) ⊎ (u ≡ v)))
unfolding names_items
misnames n u v = (
  λ h. elim (dec_le n u) [
    | yes l ↦ inl l
    | no i ↦ elim (dec_le n v) [
      | yes l ↦ inr (inl l)
      | no j ↦
          inr (inr (eqb-true u v (simp (lt-ltb u n (omega arith), lt-ltb v n (omega arith), not-not) at h)))
    ]
  ],
  elim [ inl l ↦ rw (le-ltb u n l) | inr (inl l) ↦ simp (le-ltb v n l, and-false) | inr (inr q) ↦ simp (eq-eqb u v q, and-false) ],
)

not-above : (a b c d : ℕ) → (not (above (record { predecessor = a; successor = b }) (record { predecessor = c; successor = d })) ≡ true)
    ↔ ((c < a) ⊎ ((c ≡ a) × (d ≤ b)))
unfolding above
not-above a b c d = (
  λ h. elim (dec_lt c a) [
    | yes l ↦ inl l
    | no i ↦
        let j : ¬ (a < c) = λ l. false≢true (simp (lt-ltb a c l) at h) in
        let k : ¬ (b < d) = λ l. false≢true (simp (le-ltb a c (omega arith), eq-eqb a c (omega arith), lt-ltb b d l) at h) in
        inr (omega arith, omega arith)
  ],
  elim [
    | inl l ↦ rw (le-ltb a c (omega arith), ne_eqb a c (omega arith))
    | inr (q, l) ↦ rw (le-ltb a c (omega arith), eq-eqb a c (sym q), le-ltb b d l)
  ],
)

-- no lag of so many is above 0
no-lags : (n : ℕ) (x : ℕ → ℕ) → (lags_zero (up_to n x) ≡ true) ↔ ((i : ℕ) → i < n → x i ≡ 0)
unfolding lags_zero
no-lags zero x = (λ _ i l. absurd (omega arith), λ _. refl)
no-lags (suc n) x =
    let (to, from) = no-lags n (λ k. x (suc k)) in (
      λ h.
          let (a, b) = both_true (eqb (x 0) 0) (lags_zero (up_to n (λ k. x (suc k)))) h in
          elim [ zero ↦ λ _. eqb-true _ _ a | suc i ↦ λ l. to b i (omega arith) ],
      λ h. rw (eq-eqb (x 0) 0 (h 0 (omega arith))) (from (λ i l. h (suc i) (omega arith))),
    )

-- lags that are left out
left_out-lags : (m : ℕ) → (lag_list m).default ≡ up_to m (λ _. 0)
unfolding lag_list
left_out-lags m = (lag_laws m).only _ (rw (eq-eqb _ m (length-up_to {A = ℕ} m (λ _. 0))) ((no-lags m (λ _. 0)).1 (λ i l. refl)))

module _ (s : List ℕ) where
  -- a field is read where its bit is set
  spans_optional : {A : Type 0} (o : Optional A) (bit : Bool) (at size : ℕ) {x : A} {W : Refusal → Type 0} → Spans s o.written.reading at x (at + size) W
      → Spans s (optional_reading o bit) at (cond bit x o.default) (at + cond bit size 0) (λ e. (bit ≡ true) × W e)
  spans_optional o true at size σ = spans_as s σ (λ e. (λ w. (refl, w), λ (_, w). w))
  spans_optional o false at size σ =
      rw add-zero (spans_as s (spans_done s o.default at) (λ e. (λ w. absurd w, λ (q, _). absurd (false≢true q))))

  -- 3 at a number v
  abbrev Low : ℕ → ℕ → ℕ → ℕ → Refusal → Type 0
  Low default v at stop e = (stop ≤ length s) × (v ≤ default) × (e ≡ WrittenDefault at)

  spans_number_as : (f : Format ℕ) (default : ℕ) {at v stop : ℕ} → at < stop → Spans s f.reading at v stop (λ e. ⊥)
      → Spans s (number_as f default).written.reading at v stop (Low default v at stop)
  spans_number_as f default l σ = spans_one_test s f (λ v. leb v default) WrittenDefault (first-inside s refl (omega arith)) (leb-true _ _, le-leb _ _) σ

  spans_number : (default : ℕ) (bit : Bool) (at : ℕ) → Spans s (optional_reading (number default) bit) at (cond bit (word_at s at) default)
      (at + two_if bit) (λ e. (bit ≡ true) × Low default (word_at s at) at (at + 2) e)
  unfolding number word
  spans_number default bit at =
      spans_optional (number default) bit at 2 (spans_number_as word default (omega arith) (spans_two_bytes s (λ low high. low + 256 * high) at))

  spans_byte_number : (bit : Bool) (at : ℕ) → Spans s (optional_reading byte_number bit) at (cond bit (byte_at s at) 0)
      (at + cond bit 1 0) (λ e. (bit ≡ true) × Low 0 (byte_at s at) at (at + 1) e)
  unfolding byte_number
  spans_byte_number bit at = spans_optional byte_number bit at 1 (spans_number_as byte 0 (omega arith) (spans_byte s at))

  -- 3 or 12 at a measure
  abbrev Misfit : ℕ → Refusal → Type 0
  Misfit at e = (at + 2 ≤ length s) × (((word_at s at ≤ 1) × (e ≡ WrittenDefault at)) ⊎ ((max_measure < word_at s at) × (e ≡ TooLarge at)))

  spans_measure : (bit : Bool) (at : ℕ)
      → Spans s (optional_reading measure bit) at (cond bit (word_at s at) 1) (at + two_if bit) (λ e. (bit ≡ true) × Misfit at e)
  unfolding measure word
  spans_measure bit at =
      let σ = spans_two_bytes s (λ low high. low + 256 * high) at in
      spans_optional measure bit at 2 (spans_two_tests s word (λ v. leb v 1) (λ v. ltb max_measure v) WrittenDefault TooLarge
      (first-inside s refl (omega arith)) (first-inside s refl (omega arith)) (default-before_large at) (leb-true _ _, le-leb _ _) (ltb-true _ _, lt-ltb _ _) σ)

  -- at one of the container or item whose map byte is at m
  abbrev MeasureFault : ℕ → Refusal → Type 0
  MeasureFault m e = (p : ℕ) × MeasureAt s m p × Misfit p e

  spans_measures : {S : Type 0} {n : ℕ} (size : S → Size) (rest : Size → Fields S n) (m : ℕ) {x : S} {stop : ℕ} {W : Refusal → Type 0}
      → Spans s (fields_reading (rest (size_at s m)) (byte_at s m) 8) (m + 1 + measures_length (byte_at s m)) x stop W
      → Spans s (fields_reading (measures size rest) (byte_at s m) 1) (m + 1) x stop (λ e. MeasureFault m e ⊎ W e)
  unfolding measures fields_reading measures_length
  spans_measures size rest m {W = W} σ =
      let a = two_if (is_set (byte_at s m) 1) in
      let b = two_if (is_set (byte_at s m) 2) in
      spans_as s
      (spans_then s _ _ (spans_measure (is_set (byte_at s m) 1) (m + 1))
      (spans_then s _ _ (spans_measure (is_set (byte_at s m) 2) (m + 1 + a))
      (spans_then s _ _ (spans_measure (is_set (byte_at s m) 4) (m + 1 + a + b)) (rw (← add_assoc, ← add_assoc) at σ))))
      (λ e. (
        elim [
          | inl (t, w) ↦ inl (_, width t, w)
          | inr (inl (t, w)) ↦ inl (_, depth t, w)
          | inr (inr (inl (t, w))) ↦ inl (_, shifts t, w)
          | inr (inr (inr w)) ↦ inr w
        ],
        elim [
          | inl (p, i, w) ↦ (elim i as (λ p i. Misfit p e → ((is_set (byte_at s m) 1 ≡ true) × Misfit (m + 1) e)
              ⊎ (((is_set (byte_at s m) 2 ≡ true) × Misfit (m + 1 + a) e)
              ⊎ (((is_set (byte_at s m) 4 ≡ true) × Misfit (m + 1 + a + b) e) ⊎ W e)))
              [ width t ↦ λ w. inl (t, w) | depth t ↦ λ w. inr (inl (t, w)) | shifts t ↦ λ w. inr (inr (inl (t, w))) ]) w
          | inr w ↦ inr (inr (inr w))
        ],
      ))

  -- whether it may be turned is in the bit alone
  spans_turn : {A : Type 0} (k : Bool → Reading A) (bit : Bool) {at : ℕ} {x : A} {stop : ℕ} {W : Refusal → Type 0} → Spans s (k bit) at x stop W
      → Spans s (optional_reading may_turn bit >>= k) at x stop W
  unfolding may_turn presence ◌>>=◌
  spans_turn k true σ = σ
  spans_turn k false σ = σ

  -- the faults of the item at m
  abbrev ItemFault : ℕ → Refusal → Type 0
  ItemFault m e = Unknown s 4 m e ⊎ (MeasureFault m e ⊎ ⊥)

  spans_item : (m : ℕ) → Spans s item.reading m (item_at s m) (after_item s m) (ItemFault m)
  unfolding item item_fields with_map keyed fields fields_reading after_item
  spans_item m =
      spans_then s (map_byte 4).reading _ (spans_map s 4 m)
      (spans_measures (λ i. i.size) _ m (spans_turn _ (is_set (byte_at s m) 8) (spans_done s (item_at s m) (after_item s m))))

  -- precedence k and the one before it, and its faults
  abbrev nth : ℕ → Arc
  nth k = precedence_at s (precedence_place s k)

  abbrev previous : ℕ → Option Precedence
  previous zero = None
  previous (suc k) = Some (unlagged (nth k))

  abbrev PrecedenceFault : ℕ → Refusal → Type 0
  PrecedenceFault k e =
      let p = precedence_place s k in
      (precedence_place s (suc k) ≤ length s)
      × ((Misnames s p × (e ≡ BadItem p)) ⊎ ((not (rises (previous k) (nth k)) ≡ true) × (e ≡ NotRising p)))

  spans_precedence : (k : ℕ) → Spans s (tested precedence (precedence_tests (items_on s) (previous k))).reading
      (precedence_place s k) (nth k) (precedence_place s (suc k)) (PrecedenceFault k)
  unfolding precedence converted pair byte ◌>>=◌ precedence_place
  spans_precedence k =
      let p : precedence_place s k + 2 ≡ precedence_place s (suc k) = omega arith in
      spans_two_tests s precedence (λ a. not (names_items (items_on s) a)) (λ a. not (rises (previous k) a)) BadItem NotRising
      (first-inside s refl (omega arith)) (first-inside s refl (omega arith)) (inr (refl, omega arith)) (misnames _ _ _) iff_refl
      (rw p at (spans_two_bytes s {A = Arc} (λ u v. record { predecessor = u; successor = v }) (precedence_place s k)))

  -- a counted row where its bit is set
  spans_list : {P A : Type 0} {part : Format A} {tests : P → A → List Test} {next : P → A → P} {state : ℕ → P} {place : ℕ → ℕ} {x : ℕ → A}
      {W : ℕ → Refusal → Type 0} (limit : ℕ) (bit : Bool) (at : ℕ) → at + 1 ≡ place 0 → Parts s part tests next state place x W
      → Spans s (optional_reading (list_of part tests next (state 0) limit) bit) at (up_to (cond bit (byte_at s at) 0) x)
      (cond bit (place (cond bit (byte_at s at) 0)) at)
      (λ e. ((bit ≡ true) × Miscounted s limit at e) ⊎ ((k : ℕ) × (k < cond bit (byte_at s at) 0) × W k e))
  unfolding list_of counted keyed row
  spans_list limit true at q π =
      spans_as s (spans_then s (count limit).reading _ (spans_count s limit at) (rw (← q) at (spans_row s (byte_at s at) π)))
      (λ e. (elim [ inl w ↦ inl (refl, w) | inr w ↦ inr w ], elim [ inl (_, w) ↦ inl w | inr w ↦ inr w ]))
  spans_list limit false at q π =
      spans_as s (spans_done s [] at) (λ e. (λ w. absurd w, elim [ inl (f, _) ↦ absurd (false≢true f) | inr (k, l, w) ↦ omega arith ]))

  abbrev ItemsFault : Refusal → Type 0
  ItemsFault e = ((has s 8 ≡ true) × Miscounted s max_items (container_end s) e) ⊎ ((k : ℕ) × (k < items_on s) × ItemFault (item_place s k) e)

  spans_items : Spans s (optional_reading item_list (has s 8)) (container_end s) (items_at s) (items_end s) ItemsFault
  unfolding item_list items_on items_end item_place
  spans_items =
      spans_list max_items (has s 8) (container_end s) refl (record { known = λ k. refl; each = λ k. spans_untested s item (spans_item (item_place s k)) })

  abbrev PrecedencesFault : Refusal → Type 0
  PrecedencesFault e = ((has s 16 ≡ true) × Miscounted s max_precedences (items_end s) e) ⊎ ((k : ℕ) × (k < precedences_on s) × PrecedenceFault k e)

  spans_precedences : (n : ℕ) → n ≡ items_on s
      → Spans s (optional_reading (precedence_list n) (has s 16)) (items_end s) (up_to (precedences_on s) nth) (precedences_end s) PrecedencesFault
  unfolding precedence_list precedences_on precedences_end precedence_place
  spans_precedences n q =
      rw q (spans_list {state = previous} max_precedences (has s 16) (items_end s) (omega arith) (record { known = λ k. refl; each = spans_precedence }))

  -- bytes as lags have no fault of their own
  spans_lag_row : (m at : ℕ) → Spans s (lag_row m).reading at (up_to m (λ i. byte_at s (at + i))) (at + m) (λ e. ⊥)
  unfolding lag_row row
  spans_lag_row m at =
      let next : (k : ℕ) → at + k + 1 ≡ at + suc k = λ k. omega arith in
      let π : Parts s byte (λ (_ : Unit {0}) _. []) (λ p _. p) (λ _. tt) (λ k. at + k) (λ k. byte_at s (at + k)) (λ k e. ⊥)
      = record { known = λ k. refl; each = λ k. rw (next k) at (spans_untested s byte (spans_byte s (at + k))) } in
      spans_as s (rw add-zero at (spans_row s m π)) (λ e. (λ (k, l, w). w, λ w. absurd w))

  -- 11 at the lags of m orders
  abbrev LagsFault : ℕ → Bool → ℕ → Refusal → Type 0
  LagsFault m bit at e =
      (bit ≡ true) × ((at + cond bit m 0 ≤ length s) × ((i : ℕ) → i < m → byte_at s (at + i) ≡ 0) × (e ≡ NoLag at))

  spans_lags : (m : ℕ) (bit : Bool) (at : ℕ) → Spans s (optional_reading (lag_list m) bit) at (up_to m (λ i. cond bit (byte_at s (at + i)) 0))
      (at + cond bit m 0) (LagsFault m bit at)
  unfolding lag_list
  spans_lags m true at =
      spans_as s (spans_one_test s (lag_row m) lags_zero NoLag (no_lag-inside s (omega arith)) (no-lags m _) (spans_lag_row m at))
      (λ e. (λ w. (refl, w), λ (_, w). w))
  spans_lags m false at =
      rw (add-zero, ← (left_out-lags m)) (spans_as s (spans_done s _ at) (λ e. (λ w. absurd w, λ (q, _). absurd (false≢true q))))

  abbrev YardNumberFault : Refusal → Type 0
  YardNumberFault e = let at = precedences_end s in (has s 32 ≡ true) × Low 0 (word_at s at) at (at + 2) e

  abbrev WalkwayFault : Refusal → Type 0
  WalkwayFault e = let at = lags_end s in (has s 128 ≡ true) × Low 0 (byte_at s at) at (at + 1) e

  -- the fields after the map byte
  abbrev FieldsFault : Refusal → Type 0
  FieldsFault e = MeasureFault 0 e ⊎ (ItemsFault e ⊎ (PrecedencesFault e ⊎ (YardNumberFault e
      ⊎ (LagsFault (precedences_on s) (has s 64) (yard_number_end s) e ⊎ (WalkwayFault e ⊎ ⊥)))))

  spans_fields : Spans s (fields_reading sheet_fields (byte_at s 0) 1) 1 (sheet_at s) (sheet_end s) FieldsFault
  unfolding sheet_fields fields_reading container_end yard_number_end lags_end sheet_end S.yard_number S.walkway
  spans_fields =
      spans_measures (λ (x : Sheet). x.container) _ 0
      (spans_then s _ _ spans_items
      (spans_then s _ _ (spans_precedences (length (items_at s)) (length-up_to (items_on s) _))
      (spans_then s _ _ (spans_number 0 (has s 32) (precedences_end s))
      (spans_then s _ _ (rw (length-up_to (precedences_on s) nth) (spans_lags (precedences_on s) (has s 64) (yard_number_end s)))
      (spans_then s _ _ (spans_byte_number (has s 128) (lags_end s))
      (spans_done s (sheet_at s) (sheet_end s)))))))

  spans_sheet : Spans s sheet.reading 0 (sheet_at s) (sheet_end s) (λ e. Unknown s 8 0 e ⊎ FieldsFault e)
  unfolding sheet with_map keyed fields
  spans_sheet = spans_then s (map_byte 8).reading _ (spans_map s 8 0) spans_fields

  -- what reading meets are the faults of the table
  item_to-fault : (k : ℕ) → k < items_on s → {e : Refusal} → ItemFault (item_place s k) e → Fault s e
  item_to-fault k l (inl (a, c, q)) = rw q (item_unknown_bit k l (omega arith) c)
  item_to-fault k l (inr (inl (p, m, (a, inl (c, q))))) = rw q (item_measure k l p m a c)
  item_to-fault k l (inr (inl (p, m, (a, inr (c, q))))) = rw q (item_too_large k l p m a c)
  item_to-fault k l (inr (inr w)) = absurd w

  precedence-to-fault : (k : ℕ) → k < precedences_on s → {e : Refusal} → PrecedenceFault k e → Fault s e
  unfolding precedence_place
  precedence-to-fault k l (a, inl (c, q)) = rw q (bad_item k l (omega arith) c)
  precedence-to-fault zero l (a, inr (c, q)) = absurd (false≢true c)
  precedence-to-fault (suc k) l (a, inr (c, q)) = rw q (not_rising k l (omega arith) ((not-above _ _ _ _).0 c))

  to-fault : {e : Refusal} → OrTrailing s sheet spans_sheet e → Fault s e
  unfolding lags_end
  to-fault (inr (l, q)) = rw q (trailing_bytes l)
  to-fault (inl (inr (l, q))) = rw q (ends_early l)
  to-fault (inl (inl (inl (l, c, q)))) = rw q (unknown_bit (omega arith) c)
  to-fault (inl (inl (inr (inl (p, m, (l, inl (c, q))))))) = rw q (container_measure p m l c)
  to-fault (inl (inl (inr (inl (p, m, (l, inr (c, q))))))) = rw q (container_too_large p m l c)
  to-fault (inl (inl (inr (inr (inl (inl (t, (l, c, q)))))))) = rw q (item_count t (omega arith) c)
  to-fault (inl (inl (inr (inr (inl (inr (k, l, w))))))) = item_to-fault k l w
  to-fault (inl (inl (inr (inr (inr (inl (inl (t, (l, c, q))))))))) = rw q (precedence_count t (omega arith) c)
  to-fault (inl (inl (inr (inr (inr (inl (inr (k, l, w)))))))) = precedence-to-fault k l w
  to-fault (inl (inl (inr (inr (inr (inr (inl (t, (l, c, q))))))))) = rw q (yard_number t l (omega arith))
  to-fault (inl (inl (inr (inr (inr (inr (inr (inl (t, (l, c, q)))))))))) = rw q (no_lag t l c)
  to-fault (inl (inl (inr (inr (inr (inr (inr (inr (inl (t, (l, c, q))))))))))) = rw q (walkway t (omega arith) (omega arith))
  to-fault (inl (inl (inr (inr (inr (inr (inr (inr (inr w))))))))) = absurd w

  from-fault : {e : Refusal} → Fault s e → OrTrailing s sheet spans_sheet e
  unfolding precedence_place lags_end
  from-fault (ends_early l) = inl (inr (l, refl))
  from-fault (unknown_bit l c) = inl (inl (inl (omega arith, c, refl)))
  from-fault (item_unknown_bit k l a c) = inl (inl (inr (inr (inl (inr (k, l, inl (omega arith, c, refl)))))))
  from-fault (container_measure p m l c) = inl (inl (inr (inl (p, m, (l, inl (c, refl))))))
  from-fault (item_measure k l p m a c) = inl (inl (inr (inr (inl (inr (k, l, inr (inl (p, m, (a, inl (c, refl))))))))))
  from-fault (yard_number t l q) = inl (inl (inr (inr (inr (inr (inl (t, (l, omega arith, refl))))))))
  from-fault (walkway t l q) = inl (inl (inr (inr (inr (inr (inr (inr (inl (t, (omega arith, omega arith, refl))))))))))
  from-fault (item_count t l c) = inl (inl (inr (inr (inl (inl (t, (omega arith, c, refl)))))))
  from-fault (precedence_count t l c) = inl (inl (inr (inr (inr (inl (inl (t, (omega arith, c, refl))))))))
  from-fault (bad_item i l a c) = inl (inl (inr (inr (inr (inl (inr (i, l, (omega arith, inl (c, refl)))))))))
  from-fault (not_rising i l a c) = inl (inl (inr (inr (inr (inl (inr (suc i, l, (omega arith, inr ((not-above _ _ _ _).1 c, refl)))))))))
  from-fault (trailing_bytes l) = inr (l, refl)
  from-fault (no_lag t l c) = inl (inl (inr (inr (inr (inr (inr (inl (t, (l, c, refl)))))))))
  from-fault (container_too_large p m l c) = inl (inl (inr (inl (p, m, (l, inr (c, refl))))))
  from-fault (item_too_large k l p m a c) = inl (inl (inr (inr (inl (inr (k, l, inr (inl (p, m, (a, inr (c, refl))))))))))

  -- every bit of the sheet's map byte has a meaning: 2 is met at a piece's alone
  pub map_known : Bytes s → Fault s (UnknownBit 0) → ⊥
  map_known b φ = elim (from-fault φ) [
    | inl (inl (inl (l, c, q))) ↦ omega (arith, b 0)
    | inl (inl (inr w)) ↦ omega (arith, (spans_fields.within (UnknownBit 0) w).0)
    | inl (inr (l, q)) ↦ let z : ◌≡◌ {A = ℕ} 0 1 = cc in omega arith
    | inr (l, q) ↦ let z : ◌≡◌ {A = ℕ} 0 1 = cc in omega arith
  ]

  sheet_gives : Gives s (sheet_at s) (sheet_end s) (Fault s) (run (whole sheet) 0 s)
  sheet_gives = gives_as s (gives_whole s sheet spans_sheet) (λ e. (to-fault, from-fault))

  -- "Reading goes left to right and gives the first fault; at one place the lower number"
  pub refused-first : (e : Refusal) → (run (whole sheet) 0 s ≡ refused e) ↔ FirstFault s e
  refused-first e =
      let (to, from) = first-given s sheet_gives e in
      (λ h. record { fault = (to h).0; first = (to h).1 }, λ φ. from (φ.fault, φ.first))

  -- a sheet with no fault ends after its last field
  faultless_ends : ((e : Refusal) → Fault s e → ⊥) → sheet_end s ≡ length s
  faultless_ends none =
      let a : ¬ (length s < sheet_end s) = λ l. none _ (ends_early l) in
      let b : ¬ (sheet_end s < length s) = λ l. none _ (trailing_bytes l) in omega arith

  -- and reads as its bytes say
  pub faultless_got : ((e : Refusal) → Fault s e → ⊥) → run (whole sheet) 0 s ≡ got (sheet_at s) (length s) []
  faultless_got none = let q = faultless_ends none in none-given s sheet_gives none ∙ rw (q, drop-length)

  -- what has no fault is read
  pub faultless_reads : ((x : Sheet) × (run (whole sheet) 0 s ≡ got x (length s) [])) ↔ ((e : Refusal) → Fault s e → ⊥)
  faultless_reads = (λ (x, h). given-none s sheet_gives h, λ none. ((sheet_at s), faultless_got none))

  -- where the items are
  pub item-before : (n k : ℕ) → k < n → item_place s (suc k) ≤ item_place s n
  unfolding item_place
  item-before zero k l = absurd (omega arith)
  item-before (suc n) k l =
      let next = (spans_item (item_place s n)).onward in
      elim (eq-or-lt_of_le l) [ inl q ↦ let p : k ≡ n = omega arith in rw p (omega arith) | inr m ↦ omega (arith, item-before n k (omega arith)) ]

  item-inside : (k : ℕ) → k < items_on s → item_place s (suc k) ≤ items_end s
  unfolding items_on items_end
  item-inside k =
      let n = byte_at s (container_end s) in
      elim (has s 8) as (λ bit. k < cond bit n 0 → item_place s (suc k) ≤ cond bit (item_place s (cond bit n 0)) (container_end s))
      [ true ↦ item-before n k | false ↦ λ l. absurd (omega arith) ]

  module _ {x : Sheet} {at : ℕ} {rest : List ℕ} (h : run (whole sheet) 0 s ≡ got x at rest) where
    none : (e : Refusal) → Fault s e → ⊥
    none = given-none s sheet_gives h

    -- every item was read at its place
    pub item_read_there : (length x.items ≡ items_on s) × ((k : ℕ) → k < items_on s → (item_place s (suc k) ≤ length s)
        × (run item.reading (item_place s k) (drop (item_place s k) s)
        ≡ got (get_or x.items k no_item) (item_place s (suc k)) (drop (item_place s (suc k)) s)))
    unfolding item_place yard_number_end lags_end sheet_end
    item_read_there = let q : x ≡ (sheet_at s) = cc (faultless_got none) in rw q (
      length-up_to (items_on s) _,
      λ k l.
          let σ = spans_item (item_place s k) in
          let i : item_place s (suc k) ≤ length s = omega (arith, item-inside k l, (spans_precedences (items_on s) refl).onward, faultless_ends none) in
          (i, rw getD_up_to (none-given s (σ.gives (omega arith)) (λ e. elim [ inl w ↦ none e (item_to-fault k l w) | inr (m, _) ↦ omega arith ]))),
    )
