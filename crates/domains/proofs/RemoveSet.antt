-- Removing what stands in a set, as in the row of u: refused where it leaves nothing of a pair, else one relation after another; and what is left of
-- the set where the row has some of it.
use Rattle.std.specs.Prelude.{◌&&◌, ◌||◌, ◌≢◌, ◌≡◌, ◌+◌, ◌*◌, ◌≤◌, ◌<◌}
use Rattle.std.specs.Prelude.{Result}
use Rattle.prelude.specs.Names.{true, false, not, List, inl, inr, sym, ◌∙◌, ℕ, zero, suc, ℕ_discrete}
use Rattle.prelude.specs.Names.{arith, bit_or, bit_and, bit_xor, not-true}
use Rattle.model.specs.Domains.{Domains}
use Rattle.model.specs.Order.{Proper, WellFormed, ◌⊑◌}
use Rattle.model.specs.Relations.{gone, without}
use Rattle.model.proofs.Below.{and_intro, and_both, or_case, or_neither, clash}
use Rattle.model.proofs.Facts.{gone_mono}
use Rattle.model.proofs.Domains.{gone-distinct}
use Rattle.model.proofs.Order.{below_refl, below_trans}
use Rattle.model.proofs.Without.{without-less, without-well_formed, without_gone, without_other}
use Rattle.domains.specs.Bits.{bit_at, Gives}
use Rattle.domains.specs.Rows.{row_at}
use Rattle.domains.specs.Queue.{Good}
use Rattle.domains.specs.Narrowed.{Narrowed, Refuted, RemovedOnly, RemovedIf, Each, Spares, All, Asked, Askable, Left}
use Rattle.domains.specs.declared.store.Conflict.{Conflict}
use Rattle.domains.proofs.BitLaws.{bit-zero, bit-or, bit-first, has-bit, gives_in, true_or_false, bit-and, bit_not, and_small}
use Rattle.domains.proofs.Narrowed.{narrowed_none, narrowed-then, narrowed_as, outcome_as}
use Rattle.domains.proofs.RemoveItems.{still_left}

module _ {k : Domains} (wf : WellFormed k) {x a u : ℕ} (items : ℕ) (hx : x < 3) (other : bit_at items u ≡ false) {y v : ℕ} (hy : y < 3)
    (z : Proper 10 a u v) (ne : y ≡ x → bit_at items v ≡ true → ⊥) (e : gone k y a u v ≡ false) where
  -- domains in which the relation x of u is removed with the items of a set below n, and y of u and v is left
  stripped : (n : ℕ) → n ≤ 10
      → (f : Domains) × WellFormed f × (f ⊑ k) × ((v : ℕ) → v < n → bit_at items v ≡ true → gone f x a u v ≡ true) × (gone f y a u v ≡ false)
  stripped zero h = (k, wf, below_refl k, (λ v l e. absurd (omega arith)), e)
  stripped (suc n) h =
      let (f, wf, less, done, kept) = stripped n (omega arith) in
      let g = without f x a u n in
      let below = without-less f x a u n in
      elim (true_or_false (bit_at items n)) [
        | inl b ↦ let w : Proper 10 a u n = record { axis = z.axis; item_u = z.item_u; item_v = h; distinct = λ p. clash b (rw (← p) other) } in (
          g,
          without-well_formed f x a u n wf,
          below_trans g f k below less,
          (λ v l i. elim (ℕ_discrete v n) [ yes p ↦ rw p (without_gone f x wf w) | no d ↦ gone_mono g f below x a u v (done v (omega arith) i) ]),
          without_other f x y hx hy wf w z (record { near = λ p _ _ q. ne p (rw q b); far = λ _ _ p _. w.distinct p }) ∙ kept,
        )
        | inr b ↦ (f, wf, less, (λ v l i. elim (ℕ_discrete v n) [ yes p ↦ absurd (clash i (rw p b)) | no d ↦ done v (omega arith) i ]), kept)
      ]

  -- so y of u and v is left after narrowing to that
  others_left : {D : Domains → Type 0} {q : List ℕ} {j : Domains} {rows r : List ℕ} → Narrowed (Each x a u items) D k q j rows r
      → gone j y a u v ≡ false
  others_left n = let (f, _, less, done, kept) = stripped 10 (omega arith) in still_left n f done less y a u v kept

module _ {k : Domains} {rows q : List ℕ} {a u set : ℕ} (g : Good k rows q) (ask : Askable a u set) where
  abbrev pub all_of : ℕ
  all_of = bit_or (row_at rows a u) set

  module _ (x v : ℕ) (hx : x < 3) (hv : v < 10) where
    all-is : bit_at all_of (x * 10 + v) ≡ (gone k x a u v || bit_at set (x * 10 + v))
    all-is = cc (bit-or (row_at rows a u) set (x * 10 + v), g.laid.mirror.is x a u v hx ask.axis ask.item hv)

    -- a bit of the row or of the set
    asked_gone : (f : Domains) → Asked a u set f → f ⊑ k → bit_at all_of (x * 10 + v) ≡ true → gone f x a u v ≡ true
    asked_gone f h b e = elim (or_case (gone k x a u v) (bit_at set (x * 10 + v)) (sym all-is ∙ e)) [
      | inl p ↦ gone_mono f k b x a u v p
      | inr p ↦ h.all x v hx hv p
    ]

  abbrev pub Emptied : ℕ → Type 0
  Emptied r = Gives 10 r (λ v. bit_at all_of v && (bit_at all_of (10 + v) && bit_at all_of (20 + v)))

  -- Nothing would be left of a pair
  pub nothing_left : {r : ℕ} → Emptied r → r ≢ 0 → Refuted (Asked a u set) k
  nothing_left {r} e ne f h b =
      let (v, hv, i) = has-bit 10 r (omega arith) e.small ne in
      let (e0, w) = and_both (bit_at all_of v) (bit_at all_of (10 + v) && bit_at all_of (20 + v)) (sym (e.is v hv) ∙ i) in
      let (e1, e2) = and_both (bit_at all_of (10 + v)) (bit_at all_of (20 + v)) w in
      let o = asked_gone 0 v (omega arith) hv f h b (bit-first all_of v ∙ e0) in
      clash (and_intro o (and_intro (asked_gone 1 v (omega arith) hv f h b e1) (asked_gone 2 v (omega arith) hv f h b e2)))
      (h.filled a u v (record { axis = ask.axis; item_u = ask.item; item_v = hv; distinct = gone-distinct f 0 a u v o }))

  -- Something is left of each
  something_left : {r : ℕ} → Emptied r → r ≡ 0 → (v : ℕ) → v < 10 → (y : ℕ) × (y < 3) × (bit_at all_of (y * 10 + v) ≡ false)
  something_left {r} e z v hv = elim (true_or_false (bit_at all_of v)) [
    | inr p ↦ (0, omega arith, bit-first all_of v ∙ p)
    | inl p ↦ elim (true_or_false (bit_at all_of (10 + v))) [ inr o ↦ (1, omega arith, o) | inl o ↦ (2, omega arith, cc (e.is v hv, bit-zero v)) ]
  ]

  -- The relations below n are removed, and all others of u are left
  pub record Steps (n : ℕ) (j : Domains) (rows' r : List ℕ) : Type 0 where
    pub narrowed : Narrowed (Asked a u set) (λ f. (x v : ℕ) → x < n → v < 10 → bit_at set (x * 10 + v) ≡ true → gone f x a u v ≡ true) k q j rows' r
    pub still : (y v : ℕ) → y < 3 → v < 10 → v ≢ u → (y < n → bit_at set (y * 10 + v) ≡ true → ⊥) → gone k y a u v ≡ false → gone j y a u v ≡ false

  pub steps-none : Steps 0 k rows q
  steps-none = record { narrowed = narrowed_none g (λ x v h. absurd (omega arith)); still = λ y v hy hv d ne e. e }

  module _ {n : ℕ} {j : Domains} {rows' r : List ℕ} (st : Steps n j rows' r) (hn : n < 3)
      {items : ℕ} (p : Gives 10 items (λ v. bit_at set (n * 10 + v))) where
    -- the next relation can be removed with its items
    pub next_spares : {e : ℕ} → Emptied e → e ≡ 0 → Left k a u set → Spares j n a u items
    next_spares em z left = record {
      small = p.small;
      spare = λ v hv i.
          let b : bit_at set (n * 10 + v) ≡ true = (gives_in p v i).1 in
          let d : v ≢ u = λ q. clash b (rw q (ask.other n hn)) in
          let (y, hy, e) = something_left em z v hv in
          let (l, out) = or_neither (gone k y a u v) (bit_at set (y * 10 + v)) (sym (all-is y v hy hv) ∙ e) in (
            d,
            record {
              left = st.still n v hn hv d (λ h _. omega arith) (left n v hn hv b);
              other = (y, hy, (λ q. clash b (rw (sym q) out)), st.still y v hy hv d (λ _ c. clash c out) l);
            },
          );
    }

    -- and when it is, one more is done
    pub steps_one : {l : Domains} {rows'' s : List ℕ} → RemovedOnly (Each n a u items) j r l rows'' s → Steps (suc n) l rows'' s
    steps_one {l} o = record {
      narrowed = narrowed-then {E = Each n a u items} g.least st.narrowed
          (narrowed_as (λ f h b v hv i. h.all n v hn hv (gives_in p v i).1) (λ _ h. h) o)
          (λ b old new x v hx hv i. elim (ℕ_discrete x n) [
            | yes q ↦ rw q (new v hv (p.is v hv ∙ rw (← q) i))
            | no d ↦ gone_mono l j b x a u v (old x v (omega arith) hv i)
          ]);
      still = λ y v hy hv d ne e.
          others_left st.narrowed.grown.good.laid.well_formed items hn (p.is u ask.item ∙ ask.other n hn) hy
          (record { axis = ask.axis; item_u = ask.item; item_v = hv; distinct = λ q. d (sym q) })
          (λ q i. ne (omega arith) (rw q (gives_in p v i).1)) (st.still y v hy hv d (λ h i. ne (omega arith) i) e) o;
    }

  -- What is left of the set: its bits that the row does not have
  abbrev pub rest : ℕ
  rest = bit_and set (bit_xor (row_at rows a u) 1073741823)

  module _ (x v : ℕ) (hx : x < 3) (hv : v < 10) where
    rest_at : bit_at rest (x * 10 + v) ≡ (bit_at set (x * 10 + v) && not (gone k x a u v))
    rest_at =
        let is = g.laid.mirror.is x a u v hx ask.axis ask.item hv in
        cc (bit-and set (bit_xor (row_at rows a u) 1073741823) (x * 10 + v), bit_not 30 (row_at rows a u) (x * 10 + v) (omega arith))

    -- a bit of it is one of the set, and left
    in_set : bit_at rest (x * 10 + v) ≡ true → (bit_at set (x * 10 + v) ≡ true) × (gone k x a u v ≡ false)
    in_set e = let p = and_both (bit_at set (x * 10 + v)) (not (gone k x a u v)) (sym rest_at ∙ e) in (p.0, not-true (gone k x a u v) p.1)

  pub rest_askable : Askable a u rest
  rest_askable = record {
    axis = ask.axis;
    item = ask.item;
    small = and_small 30 set (bit_xor (row_at rows a u) 1073741823) ask.small;
    other = λ x hx. cc (rest_at x u hx ask.item, ask.other x hx);
  }

  pub rest-left : Left k a u rest
  rest-left x v hx hv e = (in_set x v hx hv e).1

  -- all of the set is gone where all of the rest is
  rest_all : (j : Domains) → j ⊑ k → All a u rest j → All a u set j
  rest_all j b h x v hx hv e = elim (true_or_false (gone k x a u v)) [
    | inl p ↦ gone_mono j k b x a u v p
    | inr p ↦ h x v hx hv (cc (rest_at x v hx hv))
  ]

  pub rest-none : rest ≡ 0 → Narrowed (Asked a u set) (All a u set) k q k rows q
  rest-none z = narrowed_none g (rest_all k (below_refl k) (λ x v hx hv e. absurd (clash e (rw z (bit-zero (x * 10 + v))))))

  pub rest-outcome : (j : Domains) (rows' r : List ℕ) (b : Result (Unit {0}) Conflict) → RemovedIf (All a u rest) k q j rows' r b → RemovedIf (All a u set) k q j rows' r b
  rest-outcome j rows' r b =
      outcome_as _ _ _ _ k q j rows' r b
      (λ f h _. record { all = λ x v hx hv e. h.all x v hx hv (in_set x v hx hv e).0; filled = h.filled }) (rest_all j)
