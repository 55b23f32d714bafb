-- Rule 5 for chains of one item each: one item after another.
use Rattle.std.specs.Prelude.{◌&&◌, ◌≢◌, ◌≡◌, ◌+◌, ◌*◌, ◌%◌, ◌^◌, ◌≤◌, ◌<◌}
use Rattle.prelude.specs.Names.{Bool, true, not, not-eq-not, List, inl, inr, refl, sym, ◌∙◌, ap, ℕ, max}
use Rattle.prelude.specs.Names.{ℕ_discrete, dec_lt, arith, eqb, get_or, set, length, get_or-set_same, get_or-set_other, eqb-true, ne_eqb, ltb-true}
use Rattle.prelude.specs.Names.{eqb-false, not-true}
use Rattle.model.specs.Domains.{Domains, index_of}
use Rattle.model.specs.Order.{Proper, Subdomain, ◌⊑◌}
use Rattle.model.specs.Relations.{Untouched}
use Rattle.model.proofs.Below.{and_intro, and_both}
use Rattle.model.proofs.Order.{below_refl}
use Rattle.model.proofs.Slots.{index_of-same, index_of-small}
use Rattle.model.proofs.Without.{gone_same}
use Rattle.model.proofs.Facts.{gone_mono}
use Rattle.domains.specs.Bits.{bit_at, Gives}
use Rattle.domains.specs.Queue.{queue_end}
use Rattle.domains.specs.Narrowed.{Narrowed, Refuted, All, Asked, Askable}
use Rattle.chains.specs.Totals.{capacity_at, Tabled}
use Rattle.chains.specs.Cuts.{above_both, exceeds, CutFrom}
use Rattle.opening.specs.Openings.{PairsAsked, Past, Outside}
use Rattle.nodes.proofs.BranchRemovals.{filled_more}
use Rattle.nodes.proofs.Loops.{written}
use Rattle.domains.proofs.BitLaws.{bit_shl, shl_small}
use Rattle.domains.proofs.Narrowed.{narrowed_as, narrowed-then, refuted_later}

-- "u before v" is removed of two items too long together, of the first i places of axis and item u
pub record CutTo (t : List ℕ) (i : ℕ) (f : Domains) : Type 0 where
  pub cut : (a u : ℕ) → a * 10 + u < i → CutFrom t 1 a f u

-- two items that are too long together have a total each
pub too_inside : {t : List ℕ} {n a u v : ℕ} → Tabled t → Past t n → Proper 10 a u v → exceeds t 1 a u v ≡ true → Proper n a u v
too_inside {t} {n} {a} {u} {v} tabled past s too =
    let over = ltb-true (capacity_at t a) _ too in
    let ends = tabled.within 2 a u (omega arith) s.axis s.item_u in
    let starts = tabled.within 1 a v (omega arith) s.axis s.item_v in
    record {
      axis = s.axis;
      item_u = elim (dec_lt u n) [
        | yes q ↦ q
        | no q ↦ absurd (omega (arith, past.total 2 a u (omega arith) s.axis (omega arith) s.item_u, past.gap a u v s (inl (omega arith))))
      ];
      item_v = elim (dec_lt v n) [
        | yes q ↦ q
        | no q ↦ absurd (omega (arith, past.total 1 a v (omega arith) s.axis (omega arith) s.item_v, past.gap a u v s (inr (omega arith))))
      ];
      distinct = s.distinct;
    }

-- A set of relations of items below n is removed: nothing is removed past n. For the domains in which another pair has back what it had are left too
asked_untouched : (n s : ℕ) {a u : ℕ} {j : Domains} {r : List ℕ} {l : Domains} {rows z : List ℕ} → Narrowed (Asked a u s) (All a u s) j r l rows z
    → ((x v : ℕ) → v < 10 → bit_at s (x * 10 + v) ≡ true → Proper 10 a u v × Proper n a u v) → Untouched n j → Untouched n l
asked_untouched n s {a} {u} {j} {l = l} w inside h x b y v hx p e =
    let i = index_of b y v in
    let back = set l i (get_or j i 0) in
    let room : i < length l = rw w.grown.good.laid.well_formed.long (index_of-small p) in
    let above : l ⊑ back = written 0 (λ x d. Subdomain (get_or l x 0) d) l i (get_or j i 0) room (w.grown.less i) (λ x _. below_refl l x) in
    let below : back ⊑ j = written 0 (λ x d. Subdomain d (get_or j x 0)) l i (get_or j i 0) room (below_refl j i) (λ x _. w.grown.less x) in
    elim (dec_lt (max y v) n) [
      | yes q ↦ omega arith
      | no q ↦
          let all : All a u s back = λ x v hx hv e.
          let (t, t') = inside x v hv e in
          let far : index_of a u v ≢ i = λ same. q (omega (arith, index_of-same t p same, t')) in
          gone_same l back x a u v (get_or-set_other l i (index_of a u v) (get_or j i 0) 0 far) ∙ w.done x v hx hv e in
          let low = w.low back (record { all = all; filled = filled_more l back above w.grown.good.laid.filled }) below in
          h x b y v hx p (gone_same back j x b y v (sym (get_or-set_same l i (get_or j i 0) 0 room)) ∙ gone_mono back l low x b y v e)
    ]

-- a (shifted m) as the code has it: the items in the bits of "u before v"
abbrev shifted : ℕ → ℕ
shifted m = m * 2 ^ 10 % 2 ^ 32

module _ (t : List ℕ) (a u m : ℕ) (ha : a < 3) (hu : u < 10) (g : Gives 10 m (λ v. above_both t 0 30 a u v && not (eqb v u))) where
  at_set : (x v : ℕ) → v < 10 → bit_at (shifted m) (x * 10 + v) ≡ (eqb x 1 && (above_both t 0 30 a u v && not (eqb v u)))
  at_set x v h = bit_shl m 1 x v g.small (omega arith) h ∙ ap (λ (b : Bool). eqb x 1 && b) (g.is v h)

  in_set : (x v : ℕ) → v < 10 → bit_at (shifted m) (x * 10 + v) ≡ true
      → (x ≡ 1) × Proper 10 a u v × (exceeds t 1 a u v ≡ true)
  in_set x v h e =
      let q = and_both (eqb x 1) (above_both t 0 30 a u v && not (eqb v u)) (sym (at_set x v h) ∙ e) in
      let r = and_both (above_both t 0 30 a u v) (not (eqb v u)) q.1 in
      let s : Proper 10 a u v = record { axis = ha; item_u = hu; item_v = h; distinct = λ d. eqb-false v u (not-true (eqb v u) r.1) (sym d) } in
      (eqb-true x 1 q.0, s, r.0)

  pub pairs_askable : Askable a u (shifted m)
  pairs_askable = record {
    axis = ha;
    item = hu;
    small = shl_small m 1 g.small (omega arith);
    other = λ x h. not-eq-not.0 (λ e. (in_set x u hu e).1.distinct refl);
  }

  pairs_all : {f : Domains} → PairsAsked t f → Asked a u (shifted m) f
  pairs_all p = record { all = λ x v hx h e. let (is, s, too) = in_set x v h e in rw is (p.all a u v s too); filled = p.filled }

  module _ {k : Domains} {q : List ℕ} {j : Domains} {rows r : List ℕ} (i : ℕ) (is : i ≡ a * 10 + u)
      (n : Narrowed (PairsAsked t) (CutTo t i) k q j rows r) (least : 1 ≤ queue_end q) where
    pub pairs_refuted : Refuted (Asked a u (shifted m)) j → Refuted (PairsAsked t) k
    pairs_refuted none = refuted_later n (λ f p l. none f (pairs_all p) l)

    module _ {l : Domains} {rows' s : List ℕ} (w : Narrowed (Asked a u (shifted m)) (All a u (shifted m)) j r l rows' s) where
      -- items past those with a total stay untouched
      pub pairs_next : Tabled t → Outside t k j → Narrowed (PairsAsked t) (CutTo t (i + 1)) k q l rows' s × Outside t k l
      pairs_next tabled out = (
        narrowed-then {E = All a u (shifted m)} least n (narrowed_as (λ f p h. pairs_all p) (λ h d. d) w)
            (λ less d e. record {
              cut = λ b y h v s too. elim (ℕ_discrete (b * 10 + y) (a * 10 + u)) [
                | no c ↦ gone_mono l j less 1 b y v (d.cut b y (omega arith) v s too)
                | yes c ↦
                    let eb : b ≡ a = omega (arith, s.item_u) in
                    let ey : y ≡ u = omega (arith, s.item_u) in
                    let far = ne_eqb v u (λ d. s.distinct (ey ∙ sym d)) in
                    rw (eb, ey) (e 1 v (omega arith) s.item_v (at_set 1 v s.item_v ∙ and_intro (rw (eb, ey) at too) (ap not far)))
              ];
            }),
        λ n' lim past h.
            asked_untouched n' (shifted m) w (λ x v hv e. let (_, s, too) = in_set x v hv e in (s, too_inside tabled past s too)) (out n' lim past h),
      )
