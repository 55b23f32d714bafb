-- Some relations of one pair are removed: what that leaves is the domains without them. What a branch removes is left, and so is another:
-- so a branch is no conflict, and leaves every pair a relation.
use Rattle.std.specs.Prelude.{◌&&◌, ◌||◌, ◌⊎◌, ◌≡◌, ◌+◌, ◌*◌, ◌^◌, ◌≤◌, ◌<◌, Result, Ok, Err, is_ok}
use Rattle.prelude.specs.Names.{Bool, true, false, not, false≢true, not-eq-not, not-not, List, inl, inr, refl, sym}
use Rattle.prelude.specs.Names.{◌∙◌, ap, ℕ, ℕ_discrete, arith, bit_or, or_lt, eqb-true, eq-eqb}
use Rattle.model.specs.Domains.{Domains, may_overlap, may_before, fix_overlap}
use Rattle.model.specs.Branching.{undecided, Branch, first, second, branch_at}
use Rattle.model.specs.Order.{Proper, WellFormed, ◌⊑◌}
use Rattle.model.specs.Relations.{gone, without, Filled}
use Rattle.model.specs.Facts.{nothing, says}
use Rattle.model.proofs.Below.{and_both, clash, or_case, or_left, or_right}
use Rattle.model.proofs.Facts.{gone_mono, says_mono}
use Rattle.model.proofs.Order.{below_trans, below_eq}
use Rattle.model.proofs.Without.{without-less, without-above, without-well_formed, without_gone}
use Rattle.domains.specs.Bits.{bit_at}
use Rattle.domains.specs.Rows.{row_at, Laid}
use Rattle.domains.specs.Queue.{queue_end, no_changes}
use Rattle.domains.specs.declared.store.Conflict.{Conflict}
use Rattle.domains.specs.Narrowed.{Grown, NarrowedIf, RemovedOnly, One, Spare, All, Asked, Askable}
use Rattle.nodes.specs.Choice.{branch_by, Branchable, Branched, Removed, SetOf}
use Rattle.domains.specs.declared.Place.{Place}
use Rattle.domains.proofs.BitLaws.{bit-or, bit_power}
use Rattle.domains.proofs.Mirror.{parts_same, row_first}
use Rattle.domains.proofs.Narrowed.{narrowed-then, narrowed_as}
use Rattle.domains.proofs.RemoveItems.{still_left}
use Rattle.domains.proofs.RemoveOne.{still_gone, filled-without}

-- of u and v on the axis a the relations of P are removed
abbrev pub Lost : ℕ → ℕ → ℕ → (ℕ → Type 0) → Domains → Type 0
Lost a u v P f = (x : ℕ) → P x → gone f x a u v ≡ true

-- e is what is left of k where they are
pub record Taken (k : Domains) (a u v : ℕ) (P : ℕ → Type 0) (e : Domains) : Type 0 where
  pub well_formed : WellFormed e
  pub less : e ⊑ k
  pub all : Lost a u v P e
  pub above : (f : Domains) → f ⊑ k → Lost a u v P f → f ⊑ e

module _ {k : Domains} {a u v : ℕ} (w : Proper 10 a u v) where
  pub taken_one : WellFormed k → (x : ℕ) → Taken k a u v (λ y. y ≡ x) (without k x a u v)
  taken_one f x = record {
    well_formed = without-well_formed k x a u v f;
    less = without-less k x a u v;
    all = λ y e. rw e (without_gone k x f w);
    above = λ g b h. without-above k x a u v g b (h x refl);
  }

  pub taken_more : {P : ℕ → Type 0} {e : Domains} → Taken k a u v P e → (x : ℕ) → Taken k a u v (λ y. P y ⊎ (y ≡ x)) (without e x a u v)
  taken_more {P} {e} t x = record {
    well_formed = without-well_formed e x a u v t.well_formed;
    less = below_trans (without e x a u v) e k (without-less e x a u v) t.less;
    all = λ y h. elim h [
      | inl p ↦ gone_mono (without e x a u v) e (without-less e x a u v) y a u v (t.all y p)
      | inr q ↦ rw q (without_gone e x t.well_formed w)
    ];
    above = λ g b h. without-above e x a u v g (t.above g b (λ y p. h y (inl p))) (h x (inr refl));
  }

pub set_one : {s v i : ℕ} (x : ℕ) → x < 3 → v < 10 → i ≡ x * 10 + v → (s ≡ 2 ^ i) × (s < 2 ^ 30) → SetOf s v (λ y. y ≡ x)
set_one {s} {v} {i} x hx hv ei (es, small) = record {
  small = small;
  has = λ y e. (omega arith, rw (e, ← ei, es) (bit_power i i ∙ eq-eqb i i refl));
  only = λ y z hz e. parts_same hv hz (eqb-true (y * 10 + z) i (sym (bit_power i (y * 10 + z)) ∙ (rw es at e)) ∙ ei);
}

pub set_more : {s t v : ℕ} {P Q : ℕ → Type 0} → SetOf s v P → SetOf t v Q → SetOf (bit_or s t) v (λ x. Q x ⊎ P x)
set_more {s} {t} {v} {P} {Q} f g = record {
  small = or_lt 30 s t f.small g.small;
  has = λ x h. rw (bit-or s t (x * 10 + v))
      (elim h [
        | inl q ↦ ((g.has x q).0, or_right (bit_at s (x * 10 + v)) (g.has x q).1)
        | inr p ↦ ((f.has x p).0, or_left (bit_at t (x * 10 + v)) (f.has x p).1)
      ]);
  only = λ x y hy e. elim (or_case (bit_at s (x * 10 + y)) (bit_at t (x * 10 + y)) (sym (bit-or s t (x * 10 + y)) ∙ e)) [
    | inl b ↦ let (p, q) = f.only x y hy b in (inr p, q)
    | inr b ↦ let (p, q) = g.only x y hy b in (inl p, q)
  ];
}

pub askable : {a u v s : ℕ} {P : ℕ → Type 0} → Proper 10 a u v → SetOf s v P → Askable a u s
askable {u = u} w h = record {
  axis = w.axis;
  item = w.item_u;
  small = h.small;
  other = λ x hx. not-eq-not.0 (λ e. w.distinct (h.only x u w.item_u e).1);
}

-- domains with more relations have one left of every pair, too
pub filled_more : (j e : Domains) → j ⊑ e → Filled j → Filled e
unfolding says
filled_more j e h f a u v w = not-eq-not.0 (λ q. clash (says_mono j e h nothing a u v q) (f a u v w))

-- all of the set is removed: that leaves e, or e leaves a pair nothing
abbrev pub Exact : Domains → Domains → List ℕ → Domains → List ℕ → List ℕ → Result (Unit {0}) Conflict → Type 0
Exact e k q j rows r (Ok _) = (j ≡ e) × Grown k q j rows r
Exact e k q j rows r (Err _) = Filled e → ⊥

module _ {k e : Domains} {a u v s : ℕ} {P : ℕ → Type 0} (w : Proper 10 a u v) (t : Taken k a u v P e) (h : SetOf s v P) where
  asked : Filled e → Asked a u s e
  asked f = record { all = λ x y hx hy b. let (p, q) = h.only x y hy b in rw q (t.all x p); filled = f }

  pub exact : (q : List ℕ) (j : Domains) (rows r : List ℕ) (b : Result (Unit {0}) Conflict)
      → NarrowedIf (Asked a u s) (All a u s) k q j rows r b → Exact e k q j rows r b
  exact q j rows r (Ok _) n =
      let up = t.above j n.grown.less (λ x p. let (hx, b) = h.has x p in n.done x v hx w.item_v b) in
      let full = filled_more j e up n.grown.good.laid.filled in
      (below_eq j e n.grown.good.laid.well_formed t.well_formed up (n.low e (asked full) t.less), n.grown)
  exact q j rows r (Err _) none = λ f. none e (asked f) t.less

-- A removal of one relation, and of one more, as a removal of those of P
module _ (c : Place) {k : Domains} {q : List ℕ} {j : Domains} {rows r : List ℕ} where
  pub lost_one : {x : ℕ} → RemovedOnly (One x c.axis c.u c.v) k q j rows r → RemovedOnly (Lost c.axis c.u c.v (λ y. y ≡ x)) k q j rows r
  lost_one {x} n = narrowed_as (λ f h b. h x refl) (λ _ h y e. rw e h) n

  pub lost_more : (P : ℕ → Type 0) {x : ℕ} {l : Domains} {rows' s : List ℕ} → 1 ≤ queue_end q → RemovedOnly (Lost c.axis c.u c.v P) k q j rows r
      → RemovedOnly (One x c.axis c.u c.v) j r l rows' s → RemovedOnly (Lost c.axis c.u c.v (λ y. (y ≡ x) ⊎ P y)) k q l rows' s
  lost_more P {x} {l} least n m =
      narrowed-then {D = Lost c.axis c.u c.v P} {E = One x c.axis c.u c.v} least
      (narrowed_as (λ f h b y p. h y (inr p)) (λ _ h. h) n) (narrowed_as (λ f h b. h x (inl refl)) (λ _ h. h) m)
      (λ b old new y h. elim h [ inl e ↦ rw e new | inr p ↦ gone_mono l j b y c.axis c.u c.v (old y p) ])

  -- it leaves the domains without them
  lost-is : (P : ℕ → Type 0) {e : Domains} → Taken k c.axis c.u c.v P e → RemovedOnly (Lost c.axis c.u c.v P) k q j rows r → j ≡ e
  lost-is P {e} t n = below_eq j e n.grown.good.laid.well_formed t.well_formed (t.above j n.grown.less n.done) (n.low e t.all t.less)

  -- overlap stays where an order is removed
  pub overlap-stays : WellFormed k → {x : ℕ} → (1 ≤ x) × (x < 3) → RemovedOnly (One x c.axis c.u c.v) k q j rows r
      → may_overlap k c.axis c.u c.v ≡ true → may_overlap j c.axis c.u c.v ≡ true
  unfolding gone
  overlap-stays f {x} (low, hx) n o =
      let rest = without k x c.axis c.u c.v in
      let kept : gone rest 0 c.axis c.u c.v ≡ false = still_gone f x c.axis c.u c.v hx c.proper 0 (omega arith) (omega arith) ∙ ap not o in
      sym (not-not _) ∙ ap not (still_left n rest (without_gone k x f c.proper) (without-less k x c.axis c.u c.v) 0 c.axis c.u c.v kept)

-- Of a pair with more than one relation left, overlap is left and an order, or both orders are
module _ {k : Domains} {a u v : ℕ} (several : undecided k a u v ≡ true) where
  several_overlap : may_overlap k a u v ≡ true → Spare k 0 a u v
  unfolding undecided gone
  several_overlap o = go (may_before k a u v) (may_before k a v u) refl refl (rw o at several)
    where
      go : (x y : Bool) → may_before k a u v ≡ x → may_before k a v u ≡ y → (true && (x || y) || x && y) ≡ true → Spare k 0 a u v
      go true y ex ey e = record { left = ap not o; other = (1, omega arith, omega arith, ap not ex) }
      go false true ex ey e = record { left = ap not o; other = (2, omega arith, omega arith, ap not ey) }
      go false false ex ey e = absurd (false≢true e)

  several_order : may_overlap k a u v ≡ false → {x : ℕ} → (1 ≤ x) × (x < 3) → Spare k x a u v
  unfolding undecided gone
  several_order o {x} (low, high) =
      let (p, q) = and_both (may_before k a u v) (may_before k a v u) (rw o at several) in
      elim (ℕ_discrete x 1) [
        | yes e ↦ rw e (record { left = ap not p; other = (2, omega arith, omega arith, ap not q) })
        | no d ↦ let e : x ≡ 2 = omega arith in rw e (record { left = ap not q; other = (1, omega arith, omega arith, ap not p) })
      ]

-- .. the same at a place
module _ {k : Domains} {c : Place} (g : Branchable k c) where
  pub spare_overlap : may_overlap k c.axis c.u c.v ≡ true → Spare k 0 c.axis c.u c.v
  spare_overlap = several_overlap g.several_left

  pub spare_order : may_overlap k c.axis c.u c.v ≡ false → {x : ℕ} → (1 ≤ x) × (x < 3) → Spare k x c.axis c.u c.v
  spare_order = several_order g.several_left

module _ {k : Domains} {rows : List ℕ} (laid : Laid k rows) (c : Place) where
  take_one : (x : ℕ) → Taken k c.axis c.u c.v (λ y. y ≡ x) (without k x c.axis c.u c.v)
  take_one x = taken_one c.proper laid.well_formed x

  -- what the branch leaves is the domains without what it removes
  branch_taken : (apart b : Bool) → Taken k c.axis c.u c.v (Removed apart b) (branch_at (not apart) (branch_by b) k c.axis c.u c.v)
  unfolding without fix_overlap
  branch_taken true true = take_one 1
  branch_taken true false = take_one 2
  branch_taken false true = taken_more c.proper (take_one 2) 1
  branch_taken false false = take_one 0

  -- by whether the row has overlap removed
  module _ (apart : Bool) (is : apart ≡ bit_at (row_at rows c.axis c.u) c.v) where
    pub overlap-is : may_overlap k c.axis c.u c.v ≡ not apart
    unfolding gone
    overlap-is = sym (not-not _) ∙ ap not (sym (is ∙ row_first laid.mirror c.proper.axis c.proper.item_u c.proper.item_v))

    pub branched-only : (b : Bool) {q : List ℕ} {j : Domains} {rows' r : List ℕ}
        → RemovedOnly (Lost c.axis c.u c.v (Removed apart b)) k (no_changes q) j rows' r → Branched k q c b j rows' r
    branched-only b n = record { left = rw overlap-is (lost-is c (Removed apart b) (branch_taken apart b) n); grown = n.grown }

-- A branch of a pair with more than one relation left leaves every pair one
branch_filled : {k : Domains} {a u v : ℕ} → WellFormed k → Filled k → Proper 10 a u v → undecided k a u v ≡ true
    → (o : Bool) → may_overlap k a u v ≡ o → (b : Branch) → Filled (branch_at o b k a u v)
unfolding without fix_overlap gone
branch_filled {k} {a} {u} {v} f full w several o e b = go o b e
  where
    one_less : (x : ℕ) → x < 3 → Spare k x a u v → Filled (without k x a u v)
    one_less x hx s = let (y, hy, ne, left) = s.other in filled-without f x a u v hx w full y hy ne left

    go : (o : Bool) (b : Branch) → may_overlap k a u v ≡ o → Filled (branch_at o b k a u v)
    go true first o = one_less 0 (omega arith) (several_overlap several o)
    go true second o =
        filled-without (without-well_formed k 2 a u v f) 1 a u v (omega arith) w
        (filled-without f 2 a u v (omega arith) w full 0 (omega arith) (omega arith) (ap not o)) 0 (omega arith) (omega arith)
        (still_gone f 2 a u v (omega arith) w 0 (omega arith) (omega arith) ∙ ap not o)
    go false first o = one_less 2 (omega arith) (several_order several o (omega arith, omega arith))
    go false second o = one_less 1 (omega arith) (several_order several o (omega arith, omega arith))

-- A branch whose relations are removed as one set: that is no conflict, and leaves what the branch does
module _ {k : Domains} {rows : List ℕ} (laid : Laid k rows) {c : Place} (g : Branchable k c) where
  -- the set, by whether the row has overlap removed
  module _ (apart b : Bool) (is : apart ≡ bit_at (row_at rows c.axis c.u) c.v) {s : ℕ} (h : SetOf s c.v (Removed apart b)) where
    overlap : may_overlap k c.axis c.u c.v ≡ not apart
    overlap = overlap-is laid c apart is

    full : Filled (branch_at (not apart) (branch_by b) k c.axis c.u c.v)
    full = branch_filled laid.well_formed laid.filled c.proper g.several_left (not apart) overlap (branch_by b)

    pub branch_ok : (q : List ℕ) (j : Domains) (rows' r : List ℕ) (o : Result (Unit {0}) Conflict)
        → NarrowedIf (Asked c.axis c.u s) (All c.axis c.u s) k (no_changes q) j rows' r o → is_ok o ≡ true
    branch_ok q j rows' r (Ok _) n = refl
    branch_ok q j rows' r (Err e) n = absurd (exact c.proper (branch_taken laid c apart b) h (no_changes q) j rows' r (Err e) n full)

    pub branched : (q : List ℕ) (j : Domains) (rows' r : List ℕ) (o : Result (Unit {0}) Conflict)
        → NarrowedIf (Asked c.axis c.u s) (All c.axis c.u s) k (no_changes q) j rows' r o → Branched k q c b j rows' r
    branched q j rows' r (Ok x) n =
        let (e, grown) = exact c.proper (branch_taken laid c apart b) h (no_changes q) j rows' r (Ok x) n in
        record { left = rw overlap e; grown = grown }
    branched q j rows' r (Err e) n = absurd (exact c.proper (branch_taken laid c apart b) h (no_changes q) j rows' r (Err e) n full)
