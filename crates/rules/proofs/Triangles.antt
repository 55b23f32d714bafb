-- Rules 2 and 3: the set of relations reached from u over v, computed from two rows by and, or and shifts; removing it is all that they ask for.
use Rattle.std.specs.Prelude.{◌&&◌, ◌||◌, ◌⊎◌, ◌≢◌, ◌≡◌, ◌+◌, ◌*◌, ◌<◌, ◌%◌, ◌^◌, ◌≤◌, Result}
use Rattle.prelude.specs.Names.{Bool, true, or-true, false≢true, false, and-true, and-false, or-false, and_assoc, and_comm, List}
use Rattle.prelude.specs.Names.{inl, inr, ⊎_map, refl, sym, ◌∙◌, ap, ℕ, zero, suc, ℕ_discrete, arith, bit_and}
use Rattle.prelude.specs.Names.{bit_or, or_lt, eqb}
use mathlib.Core.Bool.{or_self}
use Rattle.model.specs.Domains.{Domains}
use Rattle.model.specs.Order.{Proper, ◌⊑◌}
use Rattle.model.specs.Relations.{gone}
use Rattle.model.specs.Facts.{says}
use Rattle.model.specs.Clauses.{Three, Order, d2, d1_far, d1_near, Lawful}
use Rattle.model.proofs.Below.{and_intro, and_both, and_first, or_case, below_three}
use Rattle.model.proofs.Facts.{gone-converse}
use Rattle.domains.specs.Bits.{bit_at, Gives}
use Rattle.domains.specs.Rows.{row_at, Laid}
use Rattle.domains.specs.Queue.{queue_end, Good}
use Rattle.domains.specs.declared.store.Conflict.{Conflict}
use Rattle.domains.specs.Narrowed.{All, Asked, Askable, Narrowed, RemovedIf}
use Rattle.rules.specs.Worked.{Handled, HandledIf, PathsFrom, Paths, Pathable, Reached, reached}
use Rattle.domains.proofs.Narrowed.{outcome_as}
use Rattle.rules.proofs.Handling.{lawful_holds, Either, worked_then}
use Rattle.model.proofs.Domains.{gone-distinct}
use Rattle.domains.proofs.BitLaws.{true_or_false, bit-and, bit-or, bit-zero, bit_shl, shl_small, bit_mask, and_small}
use Rattle.domains.proofs.Mirror.{row_first}

-- an order is one of two
pub either_order : {x : ℕ} → Order x → (x ≡ 1) ⊎ (x ≡ 2)
either_order {x} o = elim (ℕ_discrete x 1) [ yes e ↦ inl e | no d ↦ inr (omega arith) ]

-- of a row only bits of the relation y are set: those of f, where b
pub record Only (y m : ℕ) (b : Bool) (f : ℕ → Bool) : Type 0 where
  pub small : m < 2 ^ 30
  pub is : (x w : ℕ) → x < 3 → w < 10 → bit_at m (x * 10 + w) ≡ (eqb x y && (b && f w))

pub only_none : (y : ℕ) {b : Bool} {f : ℕ → Bool} → b ≡ false → Only y 0 b f
only_none y e = record { small = omega arith; is = λ x w hx hw. rw e (bit-zero (x * 10 + w) ∙ sym (and-false (eqb x y))) }

pub only_shift : (y : ℕ) {b : Bool} {m : ℕ} {f : ℕ → Bool} → y < 3 → b ≡ true → Gives 10 m f → Only y (m * 2 ^ (y * 10) % 2 ^ 32) b f
only_shift y {m = m} hy e g = record {
  small = shl_small m y g.small hy;
  is = λ x w hx hw. rw e (bit_shl m y x w g.small hy hw ∙ ap (λ (c : Bool). eqb x y && c) (g.is w hw));
}

only_overlap : {m : ℕ} {f : ℕ → Bool} → Gives 10 m f → Only 0 m true f
only_overlap {m} {f} g = let e : m * 1 % 4294967296 ≡ m = omega (arith, g.small) in rw e at (only_shift 0 (omega arith) refl g)

module _ {near far v : ℕ} (p : Pathable near far v) where
  -- overlap of v and one order y is removed: the other order is left
  module _ (e : bit_at near v ≡ true) where
    abbrev known : ℕ → ℕ → ℕ → Bool
    known y x w = (bit_at far (x * 10 + w) && eqb x y) || (eqb x 0 && (bit_at far w && bit_at far (y * 10 + w)))

    known_is : (y x w : ℕ) → Order y → x < 3 → bit_at near (y * 10 + v) ≡ true → known y x w ≡ reached near far v x w
    known_is y x w r hx f = elim (either_order r) [
      | inl q ↦ rw q
          (let f = rw q at f in
          let o : bit_at near (20 + v) ≡ false = cc p.left in
          below_three (λ x. known 1 x w ≡ reached near far v x w) (simp (e, f, o, and-false, or-false)) (simp (e, f, and-true, or-false))
          (simp (o, and-false)) x hx)
      | inr q ↦ rw q
          (let f = rw q at f in
          let o : bit_at near (10 + v) ≡ false = cc (p.left, and-true (bit_at near (10 + v))) in
          below_three (λ x. known 2 x w ≡ reached near far v x w) (simp (e, f, o, and-false)) (simp (o, and-false))
          (simp (e, f, and-true, or-false)) x hx)
    ]

    pub reached_known : (y : ℕ) → Order y → bit_at near (y * 10 + v) ≡ true
        → {m : ℕ} → Gives 10 m (λ w. bit_at far w && bit_at far (y * 10 + w)) → Reached near far v (bit_or (bit_and far (1023 * 2 ^ (y * 10))) m)
    reached_known y o f {m} g =
        let all = 1023 * 2 ^ (y * 10) in record {
          small = or_lt 30 (bit_and far all) m (and_small 30 far all p.far_small) (only_overlap g).small;
          is = λ x w hx hw.
              let masked = bit_mask y x w hw in
              let overlap = (only_overlap g).is x w hx hw in
              cc (bit-or (bit_and far all) m (x * 10 + w), bit-and far all (x * 10 + w), known_is y x w o hx f);
        }

    -- both orders are left
    pub reached-none : bit_at near (10 + v) ≡ false → bit_at near (20 + v) ≡ false → Reached near far v 0
    reached-none f g = record {
      small = omega arith;
      is = λ x w hx hw. bit-zero (x * 10 + w)
          ∙ sym (below_three (λ x. reached near far v x w ≡ false) (simp (f, g, and-false)) (simp f) (simp g) x hx);
    }

  -- overlap is left
  pub reached-left : bit_at near v ≡ false → {m l : ℕ} → Only 1 m (bit_at near (10 + v)) (λ w. bit_at far w && bit_at far (10 + w))
      → Only 2 l (bit_at near (20 + v)) (λ w. bit_at far w && bit_at far (20 + w)) → Reached near far v (bit_or m l)
  reached-left e {m} {l} f g =
      let at : (w x : ℕ) → x < 3 → ((eqb x 1 && (bit_at near (10 + v) && (bit_at far w && bit_at far (10 + w))))
      || (eqb x 2 && (bit_at near (20 + v) && (bit_at far w && bit_at far (20 + w))))) ≡ reached near far v x w =
      λ w. below_three _ (simp e) (simp (e, or-false, and_assoc, and_comm)) (simp (e, and_assoc, and_comm)) in record {
        small = or_lt 30 m l f.small g.small;
        is = λ x w hx hw. bit-or m l (x * 10 + w) ∙ simp (f.is x w hx hw, g.is x w hx hw) (at w x hx);
      }

module _ {a u v : ℕ} (s : Proper 10 a u v) {k : Domains} {rows : List ℕ} (g : Laid k rows) where
  near : (x : ℕ) → x < 3 → bit_at (row_at rows a u) (x * 10 + v) ≡ gone k x a u v
  near x hx = g.mirror.is x a u v hx s.axis s.item_u s.item_v

  near_overlap : bit_at (row_at rows a u) v ≡ gone k 0 a u v
  near_overlap = row_first g.mirror s.axis s.item_u s.item_v

  pub pathable : Pathable (row_at rows a u) (row_at rows a v) v
  pathable = record {
    near_small = g.mirror.small (a * 10 + u);
    far_small = g.mirror.small (a * 10 + v);
    item = s.item_v;
    left = cc (near_overlap, near 1 (omega arith), near 2 (omega arith), g.filled a u v s);
  }

  -- no path leads back to u
  no_way_back : {x : ℕ} → Order x → gone k x a u v ≡ true → gone k x a v u ≡ true → (gone k 0 a u v || gone k 0 a v u) ≡ true → ⊥
  no_way_back {x} o i j z =
      let p = gone-converse k 0 a v u (omega arith) in
      let q = gone-converse k x a v u (omega arith) in
      let n = or_self (gone k 0 a u v) in
      false≢true (elim (either_order o) [ inl d ↦ cc (g.filled a u v s) | inr d ↦ cc (g.filled a u v s) ])

  module _ {set : ℕ} (r : Reached (row_at rows a u) (row_at rows a v) v set) where
    module _ (w : ℕ) (hw : w < 10) where
      far : (x : ℕ) → x < 3 → bit_at (row_at rows a v) (x * 10 + w) ≡ gone k x a v w
      far x hx = g.mirror.is x a v w hx s.axis s.item_v hw

      far_overlap : bit_at (row_at rows a v) w ≡ gone k 0 a v w
      far_overlap = row_first g.mirror s.axis s.item_v hw

      -- overlap is removed of u and w where an order is known on both sides, an order where it is known on one
      overlap_is : bit_at set (0 * 10 + w)
          ≡ ((gone k 0 a u v && gone k 0 a v w) && ((gone k 1 a u v && gone k 1 a v w) || (gone k 2 a u v && gone k 2 a v w)))
      overlap_is =
          let first = r.is 0 w (omega arith) hw in
          cc (near_overlap, far_overlap, near 1 (omega arith), far 1 (omega arith), near 2 (omega arith), far 2 (omega arith))

      order_is : (x : ℕ) → Order x → bit_at set (x * 10 + w) ≡ ((gone k x a u v && gone k x a v w) && (gone k 0 a u v || gone k 0 a v w))
      order_is zero o = absurd (omega arith)
      order_is (suc x) o = let h : suc x < 3 = omega arith in cc (r.is (suc x) w h hw, near (suc x) h, far (suc x) h, near_overlap, far_overlap)

      overlap_says : bit_at set (0 * 10 + w) ≡ true
          → (x : ℕ) × Order x × (gone k 0 a u v ≡ true) × (gone k 0 a v w ≡ true) × (gone k x a u v ≡ true) × (gone k x a v w ≡ true)
      overlap_says e =
          let (o, y) = and_both (gone k 0 a u v && gone k 0 a v w) _ (sym overlap_is ∙ e) in
          let (p, q) = and_both (gone k 0 a u v) (gone k 0 a v w) o in
          elim (or_case (gone k 1 a u v && gone k 1 a v w) (gone k 2 a u v && gone k 2 a v w) y) [
            | inl y ↦ let (i, j) = and_both (gone k 1 a u v) (gone k 1 a v w) y in (1, omega arith, p, q, i, j)
            | inr y ↦ let (i, j) = and_both (gone k 2 a u v) (gone k 2 a v w) y in (2, omega arith, p, q, i, j)
          ]

      order_says : {x : ℕ} → Order x → bit_at set (x * 10 + w) ≡ true
          → (gone k x a u v ≡ true) × (gone k x a v w ≡ true) × ((gone k 0 a u v || gone k 0 a v w) ≡ true)
      order_says {x} o e =
          let (y, z) = and_both (gone k x a u v && gone k x a v w) (gone k 0 a u v || gone k 0 a v w) (sym (order_is x o) ∙ e) in
          let (i, j) = and_both (gone k x a u v) (gone k x a v w) y in
          (i, j, z)

      -- by some order in either case, so the three items are distinct
      some_order : (x : ℕ) → x < 3 → bit_at set (x * 10 + w) ≡ true
          → (y : ℕ) × Order y × (gone k y a u v ≡ true) × (gone k y a v w ≡ true) × ((gone k 0 a u v || gone k 0 a v w) ≡ true)
      some_order zero h e = let (y, o, p, q, i, j) = overlap_says e in (y, o, i, j, cc)
      some_order (suc x) h e = let (i, j, z) = order_says (omega arith) e in (suc x, omega arith, i, j, z)

      three : (x : ℕ) → x < 3 → bit_at set (x * 10 + w) ≡ true → Three 10 a u v w
      three x hx e =
          let (y, o, i, j, z) = some_order x hx e in
          let vw = gone-distinct k y a v w j in
          let uw : u ≢ w = λ q. no_way_back o i (cc) (cc) in
          omega arith

    pub reached_askable : Askable a u set
    reached_askable = record {
      axis = s.axis;
      item = s.item_u;
      small = r.small;
      other = λ x hx. elim (true_or_false (bit_at set (x * 10 + u))) [ inl e ↦ absurd ((three u s.item_u x hx e).uw.distinct refl) | inr e ↦ e ];
    }

    -- lawful domains have it removed
    pub reached_asked : (f : Domains) → Lawful f → f ⊑ k → Asked a u set f
    unfolding says
    reached_asked f l b = record { all = asked; filled = l.filled }
      where
        asked : All a u set f
        asked zero w hx hw e =
            let (x, o, p, q, i, j) = overlap_says w hw e in
            and_first (gone f 0 a u w) (gone f x a u w) (lawful_holds k l b (d2 x a u v w o (three w hw 0 hx e)) (and_intro p i, (and_intro q j, tt)))
        asked (suc x) w hx hw e =
            let o : Order (suc x) = omega arith in
            let (i, j, z) = order_says w hw o e in
            elim (or_case (gone k 0 a u v) (gone k 0 a v w) z) [
              | inl p ↦ lawful_holds k l b (d1_far (suc x) a u v w o (three w hw (suc x) hx e)) (and_intro p i, (j, tt))
              | inr q ↦ lawful_holds k l b (d1_near (suc x) a u v w o (three w hw (suc x) hx e)) (i, (and_intro q j, tt))
            ]

    -- and the clauses ask for no more
    pub reached_handled : (j : Domains) → All a u set j → Handled (PathsFrom a u v) k j
    unfolding says
    reached_handled j all ps c (x, o, (w, t, p)) h =
        let hw : w < 10 = t.uw.item_v in
        let hx : x < 3 = omega arith in
        let mid = or-true (gone k 0 a u v) in
        let last = or-true (gone k 1 a u v && gone k 1 a v w) in
        elim p [
          | inl (e, f) ↦
              let (y, (z, _)) = rw e at h in
              let (n, i) = and_both (gone k 0 a u v) (gone k x a u v) y in
              let (m, l) = and_both (gone k 0 a v w) (gone k x a v w) z in
              rw f (and_intro (all 0 w (omega arith) hw (elim (either_order o) [ inl q ↦ cc (overlap_is w hw) | inr q ↦ cc (overlap_is w hw) ]))
              (all x w hx hw (cc (order_is w hw x o))))
          | inr (inl (e, f)) ↦
              let (y, (z, _)) = rw e at h in
              let (n, i) = and_both (gone k 0 a u v) (gone k x a u v) y in
              rw f (all x w hx hw (cc (order_is w hw x o)))
          | inr (inr (e, f)) ↦
              let (y, (z, _)) = rw e at h in
              let (n, i) = and_both (gone k 0 a v w) (gone k x a v w) z in
              rw f (all x w hx hw (cc (order_is w hw x o)))
        ]

pub from_worked : {a u v : ℕ} (s : Proper 10 a u v) {k : Domains} {rows q : List ℕ} (g : Good k rows q) {set : ℕ}
    → Reached (row_at rows a u) (row_at rows a v) v set → (j : Domains) (rows' p : List ℕ) (b : Result (Unit {0}) Conflict)
    → RemovedIf (All a u set) k q j rows' p b → HandledIf (PathsFrom a u v) k q j rows' p b
from_worked {a} {u} {v} s {k} {rows} {q} g {set} r j rows' p b =
    outcome_as (Asked a u set) Lawful (All a u set) (Handled (PathsFrom a u v) k) k q j rows' p b (reached_asked s g.laid r)
    (λ h d. reached_handled s g.laid r j d)

pub paths_worked : {a u v : ℕ} {k : Domains} {q : List ℕ} → 1 ≤ queue_end q
    → {j : Domains} {rows p : List ℕ} → Narrowed Lawful (Handled (PathsFrom a u v) k) k q j rows p
    → {d s t : ℕ} → (d ≡ a) × (s ≡ v) × (t ≡ u) → (l : Domains) (rows' r : List ℕ) (b : Result (Unit {0}) Conflict)
    → HandledIf (PathsFrom d s t) j p l rows' r b → HandledIf (Paths a u v) k q l rows' r b
paths_worked {a} {u} {v} {k} {q} least f (x, y, z) l rows' r b h =
    outcome_as Lawful Lawful (Handled (Either (PathsFrom a u v) (PathsFrom a v u)) k) (Handled (Paths a u v) k) k q l rows' r b (λ i x y. x)
    (λ d e ps c (x, o, m). e ps c (⊎_map (λ h. (x, o, h)) (λ h. (x, o, h)) m))
    (worked_then (PathsFrom a u v) (PathsFrom a v u) l rows' r b least f (rw (x, y, z) at h))
