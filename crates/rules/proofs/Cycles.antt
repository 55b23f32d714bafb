-- Rule 4: making r overlap each item known to overlap q and s is all that the rings q, r, s ask for.
use Rattle.std.specs.Prelude.{◌&&◌, ◌||◌, ◌∷◌, ◌≢◌, ◌≡◌, ◌+◌, ◌*◌, ◌%◌, ◌^◌, ◌≤◌, ◌<◌, Result}
use Rattle.prelude.specs.Names.{Bool, true, false, not, and-false, or-false, false≢true, List, [], refl, sym, ◌∙◌, ℕ}
use Rattle.prelude.specs.Names.{arith, bit_and, bit_or, bit_xor, or_lt, eqb, eq-eqb, ne_eqb, not-true}
use Rattle.model.specs.Domains.{Domains}
use Rattle.model.specs.Order.{Proper, ◌⊑◌}
use Rattle.model.specs.Relations.{gone}
use Rattle.model.specs.Facts.{overlaps, removed, Fact, says, Holds}
use Rattle.model.specs.Clauses.{of, g1, AllHold, Lawful}
use Rattle.model.proofs.Below.{and_intro, and_both, clash, below_three}
use Rattle.model.proofs.Order.{below_refl}
use Rattle.model.proofs.Facts.{gone_mono, says_mono, holds_mono, overlaps_sym}
use Rattle.domains.specs.Bits.{bit_at, Gives, Lowest, TakenOut}
use Rattle.domains.specs.Rows.{row_at, Mirror}
use Rattle.domains.specs.Queue.{queue_end, Good}
use Rattle.domains.specs.declared.store.Conflict.{Conflict}
use Rattle.domains.specs.Narrowed.{FilledWith, RemovedIf, All, Asked, Askable, Narrowed, Refuted}
use Rattle.rules.specs.Worked.{Handled, Ring, OverlapAll}
use Rattle.domains.proofs.BitLaws.{bit-and, bit-or, bit_not, bit_power, bit_shl, shl_small, and_small, gives_both}
use Rattle.domains.proofs.Mirror.{row_first, OverlapSet, row_overlaps}
use Rattle.domains.proofs.Narrowed.{narrowed_none, narrowed-then, narrowed_as, outcome_as}
use Rattle.domains.proofs.Through.{Through, through_none, through_one, through_all}
use Rattle.rules.proofs.Handling.{lawful_holds}
use Rattle.model.proofs.Domains.{gone-distinct}

-- Both orders with each item of a set
abbrev pub orders : ℕ → ℕ
orders items = bit_or (items * 2 ^ 10 % 2 ^ 32) (items * 2 ^ 20 % 2 ^ 32)

module _ {items : ℕ} (small : items < 2 ^ 10) where
  orders_is : (x v : ℕ) → v < 10 → bit_at (orders items) (x * 10 + v) ≡ ((eqb x 1 && bit_at items v) || (eqb x 2 && bit_at items v))
  orders_is x v hv =
      let before = bit_shl items 1 x v small (omega arith) hv in
      let after = bit_shl items 2 x v small (omega arith) hv in
      cc (bit-or (items * 2 ^ 10 % 2 ^ 32) (items * 2 ^ 20 % 2 ^ 32) (x * 10 + v))

  pub orders_askable : {a u : ℕ} → a < 3 → u < 10 → bit_at items u ≡ false → Askable a u (orders items)
  orders_askable {a} {u} ha hu e = record {
    axis = ha;
    item = hu;
    small = or_lt 30 _ _ (shl_small items 1 small (omega arith)) (shl_small items 2 small (omega arith));
    other = λ x hx. orders_is x u hu ∙ simp (e, and-false);
  }

  pub orders_outcome : (a u : ℕ) (k : Domains) (q : List ℕ) (j : Domains) (rows r : List ℕ) (b : Result (Unit {0}) Conflict)
      → RemovedIf (All a u (orders items)) k q j rows r b → RemovedIf (OverlapAll a u items) k q j rows r b
  unfolding says
  orders_outcome a u k q j rows r b =
      outcome_as (Asked a u (orders items)) (FilledWith (OverlapAll a u items)) (All a u (orders items)) (OverlapAll a u items) k q j rows r b
      (λ f o d. record {
        all = λ x v hx hv e.
            below_three (λ x. ((eqb x 1 && bit_at items v) || (eqb x 2 && bit_at items v)) ≡ true → gone f x a u v ≡ true)
            (λ e. absurd (false≢true e)) (λ e. (and_both (gone f 1 a u v) (gone f 2 a u v) (o.all v hv (sym (or-false (bit_at items v)) ∙ e))).0)
            (λ e. (and_both (gone f 1 a u v) (gone f 2 a u v) (o.all v hv e)).1) x hx (sym (orders_is x v hv) ∙ e);
        filled = o.filled;
      })
      (λ d all v hv e. and_intro (all 1 v (omega arith) hv (orders_is 1 v hv ∙ simp (e, or-false))) (all 2 v (omega arith) hv (orders_is 2 v hv ∙ e)))

-- What the rows say: t is known to overlap both q and s
pub overlap_converse : (k : Domains) (a u v : ℕ) → Holds k (of overlaps a u v) → Holds k (of overlaps a v u)
overlap_converse k a u v h = overlaps_sym k a u v ∙ h

-- of the same pair from its other item
pub overlap_turned : (k : Domains) {a u v d s t : ℕ} → (d ≡ a) × (s ≡ v) × (t ≡ u) → Holds k (of overlaps a u v) → Holds k (of overlaps d s t)
overlap_turned k {a} {u} {v} (x, y, z) h = rw (x, y, z) (overlap_converse k a u v h)

abbrev pub OverlapBoth : List ℕ → ℕ → ℕ → ℕ → ℕ → Type 0
OverlapBoth rows a q s = OverlapSet (bit_and (row_at rows a q) (row_at rows a s))

and_exchange : (a b c d : Bool) → ((a && b) && (c && d)) ≡ ((a && c) && (b && d))
and_exchange false b c d = refl
and_exchange true false c d = sym (and-false c)
and_exchange true true c d = refl

both_gives : {k : Domains} {rows : List ℕ} → Mirror k rows → {a q s l : ℕ} → a < 3 → q < 10 → s < 10 → OverlapBoth rows a q s l
    → Gives 10 l (λ t. says overlaps k a q t && says overlaps k a s t)
unfolding says
both_gives {k} {rows} m {a} {q} {s} ha hq hs g = record {
  small = g.small;
  is = λ t ht.
      let two : (x : ℕ) → x < 3 → bit_at (bit_and (row_at rows a q) (row_at rows a s)) (x * 10 + t) ≡ (gone k x a q t && gone k x a s t) =
      λ x hx. cc (bit-and (row_at rows a q) (row_at rows a s) (x * 10 + t), m.is x a q t hx ha hq ht, m.is x a s t hx ha hs ht) in
      cc (g.is t ht, two 1 (omega arith), two 2 (omega arith), and_exchange (gone k 1 a q t) (gone k 1 a s t) (gone k 2 a q t) (gone k 2 a s t));
}

-- The premises of the ring q, r, s, t
abbrev pub ring_of : ℕ → ℕ → ℕ → ℕ → ℕ → List Fact
ring_of a q r s t = of overlaps a q r ∷ of overlaps a r s ∷ of overlaps a s t ∷ of overlaps a t q ∷ of (removed 0) a q s ∷ []

pub ring_premises : {a q r s : ℕ} (k : Domains) (ps : List Fact) (c : Fact) (ring : Ring a q r s ps c) → AllHold k ps
    → AllHold k (ring_of a q r s ring.0)
ring_premises k ps c ring h = rw ring.4 at h

-- Three items that make a ring with each further one known to overlap q and s
pub record Corner (k : Domains) (a q r s : ℕ) : Type 0 where
  pub axis : a < 3
  pub item_q : q < 10
  pub item_r : r < 10
  pub item_s : s < 10
  pub qr : Holds k (of overlaps a q r)
  pub rs : Holds k (of overlaps a r s)
  pub across : gone k 0 a q s ≡ true

-- Items other than r: each known in j to overlap q and s, and all that are known in k to do so
pub record Neighbours (k j : Domains) (a q r s items : ℕ) : Type 0 where
  pub small : items < 2 ^ 10
  pub other : bit_at items r ≡ false
  pub say : (t : ℕ) → t < 10 → bit_at items t ≡ true → (t ≢ r) × Holds j (of overlaps a q t) × Holds j (of overlaps a s t)
  pub has : (t : ℕ) → t < 10 → t ≢ r → Holds k (of overlaps a q t) → Holds k (of overlaps a s t) → bit_at items t ≡ true

-- read from rows between the two
neighbours : {k i j : Domains} {rows : List ℕ} → Mirror i rows → i ⊑ k → j ⊑ i → {a q r s l b : ℕ} → Corner k a q r s → OverlapBoth rows a q s l
    → b ≡ 2 ^ r → Neighbours k j a q r s (bit_and l (bit_xor b 1023))
neighbours {k} {i} {j} m up down {a} {q} {r} {s} {l} {b} w g power =
    let both = both_gives m w.axis w.item_q w.item_s g in
    let at : (t : ℕ) → t < 10 → bit_at (bit_and l (bit_xor b 1023)) t ≡ (bit_at l t && not (eqb t r)) =
    λ t ht. rw power (cc (bit-and l (bit_xor (2 ^ r) 1023) t, bit_not 10 (2 ^ r) t ht, bit_power r t)) in record {
      small = and_small 10 l (bit_xor b 1023) g.small;
      other = cc (at r w.item_r, eq-eqb r r refl, and-false (bit_at l r));
      say = λ t ht e.
          let (x, d) = and_both (bit_at l t) (not (eqb t r)) (sym (at t ht) ∙ e) in
          let (_, y, z) = gives_both (says overlaps i a q) (says overlaps i a s) both t x in
          (λ p. clash (eq-eqb t r p) (not-true (eqb t r) d), says_mono j i down overlaps a q t y, says_mono j i down overlaps a s t z);
      has = λ t ht d y z. cc (at t ht, both.is t ht, says_mono i k up overlaps a q t y, says_mono i k up overlaps a s t z, ne_eqb t r d);
    }

module _ {k j : Domains} (down : j ⊑ k) {a q r s items : ℕ} (n : Neighbours k j a q r s items) (w : Corner k a q r s) where
  overlap_distinct : (i : Domains) (v w : ℕ) → Holds i (of overlaps a v w) → v ≢ w
  unfolding says
  overlap_distinct i v w h = gone-distinct i 1 a v w (and_both (gone i 1 a v w) (gone i 2 a v w) h).0

  ring_asked : (f : Domains) → Lawful f → f ⊑ j → FilledWith (OverlapAll a r items) f
  unfolding says
  ring_asked f l b = record {
    filled = l.filled;
    all = λ t ht e.
        let (d, qt, st) = n.say t ht e in
        let tq = overlap_converse j a q t qt in
        let qs = gone-distinct k 0 a q s w.across in
        let qr = overlap_distinct k q r w.qr in
        let rs = overlap_distinct k r s w.rs in
        let st' = overlap_distinct j s t st in
        let tq' = overlap_distinct j t q tq in
        lawful_holds j l b (g1 a q r s t (omega arith) (omega arith) (omega arith)) (
          says_mono j k down overlaps a q r w.qr,
          (
            says_mono j k down overlaps a r s w.rs,
            (st, (tq, (gone_mono j k down 0 a q s w.across, tt))),
          ),
        );
  }

  ring_handled : (i : Domains) → OverlapAll a r items i → Handled (Ring a q r s) k i
  ring_handled i all ps c ring h =
      let (_, (_, (st, (tq, _)))) = ring_premises k ps c ring h in
      let (t, _, _, p, _, f) = ring in
      rw f (all t p.item_v (n.has t p.item_v (λ w. p.distinct (sym w)) (overlap_converse k a t q tq) st))

-- Going through the items of a set of which each makes a corner with q: the rings of those that are not left are seen to
abbrev pub RingsDone : ℕ → ℕ → (ℕ → ℕ) → (ℕ → ℕ) → ℕ → ℕ → Domains → List ℕ → Domains → List ℕ → List ℕ → Type 0
RingsDone a q r s items left k u j rows v = Narrowed Lawful (λ j. Through 10 items left (λ t. Handled (Ring a q (r t) (s t)) k j)) k u j rows v

pub record Corners (a q : ℕ) (r s : ℕ → ℕ) (k : Domains) (u : List ℕ) (items : ℕ) : Type 0 where
  pub least : 1 ≤ queue_end u
  pub small : items < 2 ^ 10
  pub corner : (t : ℕ) → bit_at items t ≡ true → Corner k a q (r t) (s t)
  pub all : (t : ℕ) → t < 10 → Holds k (of overlaps a q (r t)) → Holds k (of overlaps a (r t) (s t)) → gone k 0 a q (s t) ≡ true
      → bit_at items t ≡ true

-- all are left
pub rings_none : {a q : ℕ} {r s : ℕ → ℕ} {k : Domains} {rows u : List ℕ} {items left : ℕ} → Good k rows u → Corners a q r s k u items
    → left ≡ items → RingsDone a q r s items left k u k rows u
rings_none {a} {q} {r} {s} {k} {items = items} g x e =
    rw e (narrowed_none g {D = λ j. Through 10 items items (λ t. Handled (Ring a q (r t) (s t)) k j)} (through_none x.small))

module _ {a q : ℕ} {r s : ℕ → ℕ} {k : Domains} {u : List ℕ} {items left : ℕ} {j : Domains} {rows v : List ℕ}
    (c : Corners a q r s k u items) (d : RingsDone a q r s items left k u j rows v) where
  -- each item that is left makes a corner; its neighbours are read from the rows as they are, or as they were
  module _ {t : ℕ} (e : Lowest left t) where
    pub corner_left : Corner k a q (r t) (s t)
    corner_left = c.corner t (d.done.within t e.2)

    pub neighbours_now : {l b : ℕ} → OverlapBoth rows a q (s t) l → b ≡ 2 ^ r t → Neighbours k j a q (r t) (s t) (bit_and l (bit_xor b 1023))
    neighbours_now = neighbours {k = k} {i = j} {j = j} d.grown.good.laid.mirror d.grown.less (below_refl j) corner_left

    pub neighbours_then : {rows' : List ℕ} {l b : ℕ} → Mirror k rows' → OverlapBoth rows' a q (s t) l → b ≡ 2 ^ r t
        → Neighbours k j a q (r t) (s t) (bit_and l (bit_xor b 1023))
    neighbours_then m = neighbours {k = k} {i = k} {j = j} m (below_refl k) d.grown.less corner_left

    -- the ring of t is made: it can be, and the rings of the others stay as they are; where it can't, there are no lawful domains
    module _ {m : ℕ} (n : Neighbours k j a q (r t) (s t) m) where
      pub keepable : (a < 3) × (r t < 10) × (m < 2 ^ 10) × (bit_at m (r t) ≡ false)
      keepable = (corner_left.axis, corner_left.item_r, n.small, n.other)

      asked : (f : Domains) → Lawful f → f ⊑ j → FilledWith (OverlapAll a (r t) m) f
      asked = ring_asked d.grown.less n corner_left

      pub rings_one : {left' : ℕ} → TakenOut left t left' → {i : Domains} {rows' w : List ℕ}
          → Narrowed (FilledWith (OverlapAll a (r t) m)) (OverlapAll a (r t) m) j v i rows' w → RingsDone a q r s items left' k u i rows' w
      rings_one {left'} o {i} h =
          narrowed-then {E = Handled (Ring a q (r t) (s t)) k} {F = λ i. Through 10 items left' (λ t. Handled (Ring a q (r t) (s t)) k i)} c.least d
          (narrowed_as asked (λ _. ring_handled d.grown.less n corner_left i) h)
          (λ y p f. through_one p o (λ l _ z ps cl g q. holds_mono i j y cl (z ps cl g q)) f)

      pub rings_refused : Refuted (FilledWith (OverlapAll a (r t) m)) j → Refuted Lawful k
      rings_refused none f h b = let low = d.low f h b in none f (asked f h low) low

  -- none is left
  pub rings_all : left ≡ 0 → Narrowed Lawful (Handled (λ ps cl. (t : ℕ) × (t < 10) × Ring a q (r t) (s t) ps cl) k) k u j rows v
  unfolding says
  rings_all z =
      narrowed_as (λ f h b. h)
      (λ b p ps cl (t, ht, x) h. let (qr, (rs, (_, (_, (across, _))))) = ring_premises k ps cl x h in
      through_all {n = 10} {P = λ t. Handled (Ring a q (r t) (s t)) k j} p z t (c.all t ht qr rs across) ps cl x h) d

-- with q, r as a side: s is known to overlap r, and not to overlap q
pub side_corners : {a q r : ℕ} {k : Domains} {rows u : List ℕ} → Good k rows u → Proper 10 a q r → Holds k (of overlaps a q r)
    → {l : ℕ} → OverlapSet (row_at rows a r) l → Corners a q (λ _. r) (λ s. s) k u (bit_and l (row_at rows a q))
side_corners {a} {q} {r} {k} {rows} g p qr {l} f =
    let m = g.laid.mirror in
    let far : Gives 10 (bit_and l (row_at rows a q)) (λ s. says overlaps k a r s && gone k 0 a q s) = record {
      small = and_small 10 l (row_at rows a q) f.small;
      is = λ s hs. cc (bit-and l (row_at rows a q) s, row_overlaps m p.axis p.item_v hs f, row_first m p.axis p.item_u hs);
    } in record {
      least = g.least;
      small = far.small;
      corner = λ s e.
          let (hs, rs, across) = gives_both (says overlaps k a r) (λ s. gone k 0 a q s) far s e in
          record { axis = p.axis; item_q = p.item_u; item_r = p.item_v; item_s = hs; qr = qr; rs = rs; across = across };
      all = λ s hs _ rs across. far.is s hs ∙ and_intro rs across;
    }

-- with q, s as the diagonal
pub diagonal_corners : {a q s : ℕ} {k : Domains} {rows u : List ℕ} → Good k rows u → Proper 10 a q s → gone k 0 a q s ≡ true
    → {items : ℕ} → OverlapBoth rows a q s items → Corners a q (λ r. r) (λ _. s) k u items
diagonal_corners {a} {q} {s} {k} g p across f =
    let both = both_gives g.laid.mirror p.axis p.item_u p.item_v f in record {
      least = g.least;
      small = f.small;
      corner = λ r e.
          let (hr, qr, sr) = gives_both (says overlaps k a q) (says overlaps k a s) both r e in
          let rs = overlap_converse k a s r sr in
          record { axis = p.axis; item_q = p.item_u; item_r = hr; item_s = p.item_v; qr = qr; rs = rs; across = across };
      all = λ r hr qr rs _. both.is r hr ∙ and_intro qr (overlap_converse k a r s rs);
    }
