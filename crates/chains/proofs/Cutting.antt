-- What the totals find too long: the set of items, and removing it for the items of a set.
use Rattle.std.specs.Prelude.{◌&&◌, ◌≢◌, ◌≡◌, ◌+◌, ◌-◌, ◌*◌, ◌/◌, ◌%◌, ◌^◌, ◌≤◌, ◌<◌}
use Rattle.std.specs.Prelude.{Result}
use Rattle.prelude.specs.Names.{Bool, true, false, not, or-false, and-false, List, ⊎_elim, refl, sym, ◌∙◌, ap, ℕ}
use Rattle.prelude.specs.Names.{ℕ_discrete, eq-or-lt_of_le, arith, bit_and, bit_or, bit_xor, or_lt, eqb, ltb, pow-lt, eqb-true, lt-ltb, le-ltb}
use Rattle.prelude.specs.Names.{ltb-true, ltb-false, eq-eqb, ne_eqb, eqb-false, not-true}
use Rattle.model.specs.Domains.{Domains}
use Rattle.model.specs.Order.{◌⊑◌}
use Rattle.model.specs.Relations.{gone, converse}
use Rattle.model.specs.Toward.{Direction}
use Rattle.model.proofs.Below.{and_both, and_intro, clash, fails, stays}
use Rattle.model.proofs.Facts.{gone_mono}
use Rattle.model.proofs.Order.{below_refl}
use Rattle.model.proofs.Toward.{by_direction}
use Rattle.domains.specs.Bits.{bit_at, Gives, Lowest, TakenOut}
use Rattle.domains.specs.Rows.{row_at}
use Rattle.domains.specs.Queue.{queue_end, Good}
use Rattle.domains.specs.declared.store.Conflict.{Conflict}
use Rattle.domains.specs.Narrowed.{Narrowed, Refuted, NarrowedIf, FilledWith, RemovedOnly, Each, Spares, All, Askable}
use Rattle.chains.specs.Totals.{table_start, measure_at, capacity_at, gapped_at, step_at, gap_at, Tabled}
use Rattle.chains.specs.Links.{total_at}
use Rattle.chains.specs.Cuts.{above_both, exceeds, Stepping, Comparable, CutFrom, CutAll, CutBoth, CutOf, CutAround}
use Rattle.domains.proofs.BitLaws.{bit-and, bit-or, bit_not, bit_power, bit-above, bit_below, bit-zero, bit_shr, bit_shl, shl_small, and_small}
use Rattle.domains.proofs.Narrowed.{narrowed_none, narrowed_as, narrowed-then, refuted_later, outcome_as, outcome-then}
use Rattle.domains.proofs.RemoveSet.{Emptied, nothing_left, next_spares}
use Rattle.domains.proofs.Through.{Through, through_none, through_one, through_all}
use Rattle.chains.proofs.Relaxing.{total-within}

-- A set made up from the lowest place on
pub gives_none : (f : ℕ → Bool) → Gives 0 0 f
gives_none f = record { small = omega arith; is = λ i h. absurd (omega arith) }

module _ (f : ℕ → Bool) (n m : ℕ) (g : Gives n m f) where
  up_one : 2 ^ n < 2 ^ (n + 1)
  up_one = pow-lt (omega arith)

  next : (r : ℕ) → r < 2 ^ (n + 1) → bit_at r n ≡ f n → ((i : ℕ) → i < n → bit_at r i ≡ bit_at m i) → Gives (n + 1) r f
  next r h top old = record {
    small = h;
    is = λ i l. ⊎_elim (λ e. rw e top) (λ l. old i l ∙ g.is i l) (eq-or-lt_of_le {n = i} {m = n} (omega arith));
  }

  gives_put : f n ≡ true → Gives (n + 1) (bit_or m (2 ^ n)) f
  gives_put e = next (bit_or m (2 ^ n)) (or_lt (n + 1) m (2 ^ n) (omega (arith, g.small, up_one)) up_one)
      (rw (bit-or m (2 ^ n) n, bit-above n m n g.small (omega arith), bit_power n n, eq-eqb n n refl, e) refl)
      (λ i l. rw (bit-or m (2 ^ n) i, bit_power n i, ne_eqb i n (λ e. omega arith), or-false) refl)

  -- as the code has it in 16 bits
  pub gives_shifted : n < 16 → f n ≡ true → Gives (n + 1) (bit_or m (1 * 2 ^ n % 65536)) f
  gives_shifted h e = let q : 1 * 2 ^ n % 65536 ≡ 2 ^ n = omega (arith, pow-lt {i = n} {j = 16} h) in rw q (gives_put e)

  pub gives_skip : f n ≡ false → Gives (n + 1) m f
  gives_skip e = next m (omega (arith, g.small, up_one)) (bit-above n m n g.small (omega arith) ∙ sym e) (λ i l. refl)

-- the items too long with u
pub compared : {t : List ℕ} {o r a u : ℕ} → Tabled t → Comparable o r a u → total_at t o a u ≤ capacity_at t a
compared {t} {o} {r} {a} {u} tabled c =
    total-within {t = t} {o = o} {a = a} (record { tabled = tabled; aligned = c.aligned; most = omega (arith, c.other); axis = c.axis }) u c.item

pub too_long : {t : List ℕ} {o r a u m : ℕ} → Tabled t → Comparable o r a u
    → Gives 10 m (λ v. ltb (capacity_at t a - total_at t o a u) (gap_at t o a u v + total_at t r a v))
    → Gives 10 (bit_and m (bit_xor (2 ^ u) 1023)) (λ v. above_both t o r a u v && not (eqb v u))
too_long {t} {o} {r} {a} {u} {m} tabled c g = record {
  small = and_small 10 m (bit_xor (2 ^ u) 1023) g.small;
  is = λ v h. simp (bit-and, g.is v h, moved v (above_both t o r a u v) refl, bit_not 10 (2 ^ u) v h, bit_power);
}
  where
    moved : (v : ℕ) (b : Bool) → above_both t o r a u v ≡ b → ltb (capacity_at t a - total_at t o a u) (gap_at t o a u v + total_at t r a v) ≡ b
    moved v true e = lt-ltb (capacity_at t a - total_at t o a u) _ (omega (arith, compared tabled c, ltb-true (capacity_at t a) _ e))
    moved v false e = le-ltb (capacity_at t a - total_at t o a u) _ (omega (arith, compared tabled c, ltb-false (capacity_at t a) _ e))

-- the steps of u in the table at o are no less than the measures, and just these where nothing lies between items
step_of : {t : List ℕ} {o r a u : ℕ} → Tabled t → Comparable o r a u → (v : ℕ) → v < 10
    → (measure_at t a v ≤ step_at t o a u v) × (gapped_at t a ≡ 0 → step_at t o a u v ≡ measure_at t a v)
step_of {t} {o} {r} {a} {u} tabled c v h = elim (ℕ_discrete o 0) [
  | yes z ↦ rw z (tabled.least 2 a u v (omega arith) c.axis c.item h, tabled.plain 2 a u v (omega arith) c.axis c.item h)
  | no z ↦ let q : o ≡ 30 = omega (arith, c.aligned, c.other) in
      rw q (tabled.least 1 a u v (omega arith) c.axis c.item h, tabled.plain 1 a u v (omega arith) c.axis c.item h)
]

pub stepping : {t : List ℕ} {o r a u : ℕ} → Tabled t → Comparable o r a u → Stepping t (r + a * 10) (96 + (o + a * 10 + u) * 10) (60 + a * 10)
stepping tabled c = record {
  totals = omega (arith, c.axis, c.other);
  room = omega (arith, c.axis, c.item, c.other);
  measures = omega (arith, c.axis);
  least = λ v h. (step_of tabled c v h).0;
}

pub too_long-plain : {t : List ℕ} {o r a u m : ℕ} → Tabled t → Comparable o r a u → gapped_at t a ≡ 0
    → Gives 10 m (λ v. ltb (capacity_at t a - total_at t o a u) (total_at t r a v))
    → Gives 10 (bit_and m (bit_xor (2 ^ u) 1023)) (λ v. above_both t o r a u v && not (eqb v u))
too_long-plain {t} {o} {r} {a} {u} {m} tabled c e g = too_long tabled c (record {
  small = g.small;
  is = λ v h. g.is v h ∙ ap (ltb (capacity_at t a - total_at t o a u)) (omega (arith, (step_of tabled c v h).1 e));
})

-- The relation x of u is removed with the items of a set: with those that are left of it
module _ {k : Domains} {rows q : List ℕ} (g : Good k rows q) {x a u items : ℕ} (d : Direction x) (ha : a < 3) (hu : u < 10)
    (small : items < 2 ^ 10)
    (self : bit_at items u ≡ false) where
  abbrev pub left-of : ℕ
  left-of = bit_and items (bit_xor (row_at rows a u / 2 ^ (x * 10)) 1023)

  -- as bits of the row of u
  abbrev pub asked_of : ℕ
  asked_of = left-of * 2 ^ (x * 10) % 4294967296

  hx : x < 3
  hx = omega (arith, d.most)

  left_at : (v : ℕ) → v < 10 → bit_at left-of v ≡ (bit_at items v && not (gone k x a u v))
  left_at v hv = simp (bit-and, bit_not 10 (row_at rows a u / 2 ^ (x * 10)) v hv, bit_shr, g.laid.mirror.is x a u v hx ha hu hv)

  pub left-small : left-of < 2 ^ 10
  left-small = and_small 10 items (bit_xor (row_at rows a u / 2 ^ (x * 10)) 1023) small

  left_in : (v : ℕ) → v < 10 → bit_at left-of v ≡ true → (bit_at items v ≡ true) × (gone k x a u v ≡ false)
  left_in v hv e = let p = and_both (bit_at items v) (not (gone k x a u v)) (sym (left_at v hv) ∙ e) in (p.0, not-true (gone k x a u v) p.1)

  asked_at : (y v : ℕ) → v < 10 → bit_at asked_of (y * 10 + v) ≡ (eqb y x && bit_at left-of v)
  asked_at y v hv = bit_shl left-of x y v left-small hx hv

  asked_in : (y v : ℕ) → v < 10 → bit_at asked_of (y * 10 + v) ≡ true → (y ≡ x) × (bit_at left-of v ≡ true)
  asked_in y v hv e = let p = and_both (eqb y x) (bit_at left-of v) (sym (asked_at y v hv) ∙ e) in (eqb-true y x p.0, p.1)

  pub askable : Askable a u asked_of
  askable = record {
    axis = ha;
    item = hu;
    small = shl_small left-of x left-small hx;
    other = λ y hy. asked_at y u hu ∙ rw (left_at u hu, self, and-false) refl;
  }

  -- all of them are gone where those left are
  each_left : (j : Domains) → j ⊑ k → Each x a u left-of j → Each x a u items j
  each_left j b h v hv e =
      stays (gone j x a u v) (λ n. clash (h v hv (left_at v hv ∙ rw (e, fails (gone_mono j k b x a u v) n) refl)) n)

  pub cut-none : left-of ≡ 0 → Narrowed (FilledWith (Each x a u items)) (Each x a u items) k q k rows q
  cut-none z = narrowed_none g (each_left k (below_refl k) (λ v hv e. absurd (clash e (rw z (bit-zero v)))))

  pub cut-done : {j : Domains} {rows' r : List ℕ} → RemovedOnly (Each x a u left-of) k q j rows' r
      → Narrowed (FilledWith (Each x a u items)) (Each x a u items) k q j rows' r
  cut-done {j} = narrowed_as (λ f h b v hv e. h.all v hv (left_in v hv e).0) (λ b h. each_left j b h)

  module _ {e : ℕ} (em : Emptied g askable e) where
    pub cut_refuted : e ≢ 0 → Refuted (FilledWith (Each x a u items)) k
    cut_refuted ne f h = nothing_left g askable em ne f (record { all = all; filled = h.filled })
      where
        all : All a u asked_of f
        all y v hy hv i = let (s, l) = asked_in y v hv i in rw s (h.all v hv (left_in v hv l).0)

    pub cut_spares : e ≡ 0 → Spares k x a u left-of
    cut_spares z =
        next_spares g askable
        (record { narrowed = narrowed_none g (λ y v h hv i. absurd (omega (arith, (asked_in y v hv i).0))); still = λ y v hy hv n o l. l }) hx
        (record { small = left-small; is = λ v hv. sym (asked_at x v hv ∙ rw (eq-eqb x x refl) refl) }) em z
        (λ y v hy hv i. let (s, l) = asked_in y v hv i in rw s (left_in v hv l).1)

-- the tables of a direction, by where the code takes them to start
abbrev own : ℕ → ℕ
own x = 30 * (x - 1)

module _ (t : List ℕ) (a u x : ℕ) (d : Direction x) where
  compared_from : Comparable (table_start (converse x)) (table_start x) a u → Comparable (own x) (30 - own x) a u
  compared_from = by_direction (λ x. Comparable (table_start (converse x)) (table_start x) a u → Comparable (own x) (30 - own x) a u) (λ h. h) (λ h. h) x d

  exceeds-from : {m : ℕ} → Gives 10 m (λ v. above_both t (own x) (30 - own x) a u v && not (eqb v u))
      → Gives 10 m (λ v. exceeds t x a u v && not (eqb v u))
  exceeds-from {m} = by_direction (λ x. Gives 10 m (λ v. above_both t (own x) (30 - own x) a u v && not (eqb v u))
      → Gives 10 m (λ v. exceeds t x a u v && not (eqb v u))) (λ h. h) (λ h. h) x d

-- For the items of a set: those of `left` are still to be dealt with
pub record Cutting (t : List ℕ) (x a items : ℕ) (k : Domains) (q : List ℕ) (j : Domains) (rows r : List ℕ) (left : ℕ) : Type 0 where
  pub tabled : Tabled t
  pub direction : Direction x
  pub axis : a < 3
  pub first : 1 ≤ queue_end q
  pub narrowed : Narrowed (FilledWith (CutAll t x a)) (λ f. Through 10 items left (CutFrom t x a f)) k q j rows r

module _ {t : List ℕ} {x a items : ℕ} {k : Domains} {q : List ℕ} where
  pub cutting_start : {rows : List ℕ} → Good k rows q → Tabled t → Direction x → (a < 3) × (items < 2 ^ 10) → Cutting t x a items k q k rows q items
  cutting_start g s d (ha, h) =
      record { tabled = s; direction = d; axis = ha; first = g.least; narrowed = narrowed_none g (through_none h) }

  pub cutting_end : {j : Domains} {rows r : List ℕ} {left : ℕ} → Cutting t x a items k q j rows r left → left ≡ 0
      → Narrowed (FilledWith (CutAll t x a)) (CutOf t x a items) k q j rows r
  cutting_end {j} h z = narrowed_as (λ f w b. w) (λ _ p. through_all {P = CutFrom t x a j} p z) h.narrowed

  -- u, the lowest of `left`, is taken out, and the relation removed with the items that are too long with it
  module _ {j : Domains} {rows r : List ℕ} {left : ℕ} (h : Cutting t x a items k q j rows r left)
      {u : ℕ} (low : Lowest left u) where
    item : u < 10
    item = bit_below 10 left u h.narrowed.done.small low.2

    pub cutting_compared : Comparable (own x) (30 - own x) a u
    cutting_compared = compared_from t a u x h.direction (record {
      aligned = by_direction (λ x. table_start (converse x) % 30 ≡ 0) refl refl x h.direction;
      other = by_direction (λ x. table_start (converse x) + table_start x ≡ 30) refl refl x h.direction;
      axis = h.axis;
      item = item;
    })

    module _ {m : ℕ} (given : Gives 10 m (λ v. above_both t (own x) (30 - own x) a u v && not (eqb v u))) where
      g : Gives 10 m (λ v. exceeds t x a u v && not (eqb v u))
      g = exceeds-from t a u x h.direction given

      pub cutting_given : Direction x × (a < 3) × (u < 10) × (m < 2 ^ 10) × (bit_at m u ≡ false)
      cutting_given = (h.direction, h.axis, item, g.small, g.is u item ∙ rw (eq-eqb u u refl, and-false) refl)

      asked : (f : Domains) → FilledWith (CutAll t x a) f → FilledWith (Each x a u m) f
      asked f w = record { all = each; filled = w.filled }
        where
          each : Each x a u m f
          each v hv i =
              let (b, c) = and_both (exceeds t x a u v) (not (eqb v u)) (sym (g.is v hv) ∙ i) in
              let ne = eqb-false v u (not-true (eqb v u) c) in
              w.all u v (record { axis = h.axis; item_u = item; item_v = hv; distinct = λ e. ne (sym e) }) b

      pub cutting_refuted : Refuted (FilledWith (Each x a u m)) j → Refuted (FilledWith (CutAll t x a)) k
      cutting_refuted none = refuted_later h.narrowed (λ f w. none f (asked f w))

      pub cutting_next : {l : Domains} {rows' s : List ℕ} {rest : ℕ} → TakenOut left u rest
          → Narrowed (FilledWith (Each x a u m)) (Each x a u m) j r l rows' s → Cutting t x a items k q l rows' s rest
      cutting_next {l} w n = record {
        tabled = h.tabled;
        direction = h.direction;
        axis = h.axis;
        first = h.first;
        narrowed = narrowed-then {E = Each x a u m} h.first h.narrowed (narrowed_as (λ f y _. asked f y) (λ _ e. e) n)
            (λ less p each. through_one p w (λ v i p z y e. gone_mono l j less x a v z (p z y e))
            (λ v y e. each v y.item_v (g.is v y.item_v ∙ and_intro e (ap not (ne_eqb v u (λ b. y.distinct (sym b)))))));
      }

-- First around the items of one set, then around those of the other
module _ (t : List ℕ) (a : ℕ) (k : Domains) where
  one_of : (f : Domains) → FilledWith (CutBoth t a) f → FilledWith (CutAll t 1 a) f × FilledWith (CutAll t 2 a) f
  one_of f h = (record { all = h.all.0; filled = h.filled }, record { all = h.all.1; filled = h.filled })

  pub around_answer : (ends starts : ℕ) {rows q : List ℕ} → Good k rows q → {i : Domains} {rows₁ q₁ : List ℕ}
      → Narrowed (FilledWith (CutAll t 1 a)) (CutOf t 1 a ends) k q i rows₁ q₁ → (j : Domains) (rows₂ r : List ℕ) (b : Result (Unit {0}) Conflict)
      → NarrowedIf (FilledWith (CutAll t 2 a)) (CutOf t 2 a starts) i q₁ j rows₂ r b
      → NarrowedIf (FilledWith (CutBoth t a)) (CutAround t a ends starts) k q j rows₂ r b
  around_answer ends starts g {i} n j rows₂ r b h =
      outcome-then {D = CutOf t 1 a ends} (CutOf t 2 a starts) (CutAround t a ends starts) j rows₂ r b g.least
      (narrowed_as (λ f w _. (one_of f w).0) (λ _ d. d) n)
      (outcome_as _ (FilledWith (CutBoth t a)) _ (CutOf t 2 a starts) i _ j rows₂ r b (λ f w _. (one_of f w).1) (λ _ d. d) h)
      (λ less d e. ((λ u m v c x. gone_mono j i less 1 a u v (d u m v c x)), e))
