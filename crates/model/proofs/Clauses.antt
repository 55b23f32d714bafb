-- Domains obey the clauses exactly where rules 1 to 4, as tests, ask for nothing that is left.
use Rattle.std.specs.Prelude.{◌&&◌, ◌||◌, ◌≢◌, ◌≡◌, ◌%◌, ◌<◌}
use Rattle.prelude.specs.Names.{true, false, not, sym, ◌∙◌, ap, ℕ, zero, suc, ℕ_discrete, arith, eqb, eqb-true}
use Rattle.prelude.specs.Names.{not-true}
use Rattle.model.specs.Problem.{Problem}
use Rattle.model.specs.Domains.{Domains, may_overlap, may_before, fixed_before, fixed_overlap}
use Rattle.model.specs.Rules.{rule1, rule2, rule3, rule4, rule5, asks_overlap, asks_before, asks}
use Rattle.model.specs.Order.{Proper, AtRest}
use Rattle.model.specs.Relations.{gone}
use Rattle.model.specs.Facts.{removed, forced, says, Holds}
use Rattle.model.specs.Clauses.{of, Three, Order, c3, d2, d1_far, d1_near, g1, Obeyed}
use Rattle.model.proofs.Below.{some_of, and_intro, and_both, and_three, or_elim, or_left, or_right, past_three, all-at, some_at}
use Rattle.model.proofs.Slots.{proper-sym}
use Rattle.model.proofs.Domains.{may_overlap-sym, fixed_before-of, fixed_before-says, fixed_overlap-of, fixed_overlap-says, fixed_overlap-sym}
use Rattle.model.proofs.Domains.{before-distinct, overlap_distinct, fixed_distinct}
use Rattle.model.proofs.Facts.{forced_after_is}
use Rattle.model.proofs.Asks.{not-before, not_overlap, rule1-of}

-- what holds for both directions
pub by_direction : (P : ℕ → Type 0) → P 1 → P 2 → (x : ℕ) → Order x → P x
by_direction P f g = past_three (λ x. Order x → P x) (λ o. absurd (omega arith)) (λ o. f) (λ o. g) (λ x o. absurd (omega arith))

-- What the rules ask for is removed: so the clauses are obeyed
module _ (p : Problem) (k : Domains) (rest : AtRest p k) where
  module _ (a u v w : ℕ) (t : Three p.items a u v w) where
    -- rule 2
    by_rule2 : fixed_before k a u v ≡ true → fixed_before k a v w ≡ true → fixed_before k a u w ≡ true
    unfolding asks_overlap asks_before rule2
    by_rule2 f g =
        let e : rule2 p k a u w ≡ true = some_of p.items _ v t.uv.item_v (and_intro f g) in
        fixed_before-of k a u w (not_overlap rest a u w t.uw (or_right (rule1 p k a u w) (or_left (rule2 p k a w u) e)))
        (not-before rest a w u (proper-sym t.uw) (or_left _ e))

    -- rule 3, from either of its premises
    by_rule3 : rule3 p k a w u ≡ true → may_before k a w u ≡ false
    unfolding asks_before
    by_rule3 e = not-before rest a w u (proper-sym t.uw) (or_right (rule2 p k a u w) (or_left _ e))

    by_rule3_far : fixed_before k a u v ≡ true → may_before k a w v ≡ false → may_before k a w u ≡ false
    unfolding rule3
    by_rule3_far f g = by_rule3 (some_of p.items _ v t.uv.item_v (or_right (fixed_before k a v w && _) (and_intro f (ap not g))))

    by_rule3_near : may_before k a v u ≡ false → fixed_before k a v w ≡ true → may_before k a w u ≡ false
    unfolding rule3
    by_rule3_near f g = by_rule3 (some_of p.items _ v t.uv.item_v (or_left _ (and_intro g (ap not f))))

  -- the same items the other way round
  reversed : {a u v w : ℕ} → Three p.items a u v w → Three p.items a w v u
  reversed t = record { uv = proper-sym t.vw; vw = proper-sym t.uv; uw = proper-sym t.uw }

  -- rule 4
  by_rule4 : (a q r s t : ℕ) → Three p.items a q r s → Three p.items a s t q → Proper p.items a r t
      → fixed_overlap k a q r ≡ true → fixed_overlap k a r s ≡ true → fixed_overlap k a s t ≡ true → fixed_overlap k a t q ≡ true
      → may_overlap k a q s ≡ false → may_before k a r t ≡ false
  unfolding asks_before rule4
  by_rule4 a q r s t x y z qr rs st tq e =
      let f : rule4 p k a r t ≡ true = some_of p.items _ q x.uv.item_u (and_intro (and_intro qr tq)
      (some_of p.items _ s x.vw.item_v (and_intro (and_intro rs st) (ap not e)))) in
      not-before rest a r t z (or_right (rule2 p k a t r) (or_right (rule3 p k a r t) (or_left _ f)))

  pub rest-obeyed : Obeyed p.items k
  unfolding says gone fixed_before fixed_overlap asks_overlap
  rest-obeyed _ _ (c3 a b c u v x s) (f, (g, _)) =
      ap not (not_overlap rest c u v (omega arith) (or_left _ (rule1-of p k c u v (λ y hy d. elim (ℕ_discrete y a) [
        | yes e ↦ rw e f
        | no n ↦ (let e : y ≡ b = omega arith in rw e g)
      ]))))
  rest-obeyed _ _ (d2 x a u v w o t) (f, (g, _)) =
      by_direction (λ x. Holds k (of (forced x) a u v) → Holds k (of (forced x) a v w) → Holds k (of (forced x) a u w))
      (λ f g. forced_after_is k a u w ∙ by_rule2 a w v u (reversed t) (sym (forced_after_is k a v w) ∙ g) (sym (forced_after_is k a u v) ∙ f))
      (by_rule2 a u v w t) x o f g
  rest-obeyed _ _ (d1_far x a u v w o t) (f, (g, _)) =
      by_direction (λ x. Holds k (of (forced x) a u v) → Holds k (of (removed x) a v w) → Holds k (of (removed x) a u w))
      (λ f g. ap not (by_rule3_near a w v u (reversed t) (not-true _ g) (sym (forced_after_is k a u v) ∙ f)))
      (λ f g. ap not (by_rule3_far a u v w t f (not-true _ g))) x o f g
  rest-obeyed _ _ (d1_near x a u v w o t) (f, (g, _)) =
      by_direction (λ x. Holds k (of (removed x) a u v) → Holds k (of (forced x) a v w) → Holds k (of (removed x) a u w))
      (λ f g. ap not (by_rule3_far a w v u (reversed t) (sym (forced_after_is k a v w) ∙ g) (not-true _ f)))
      (λ f g. ap not (by_rule3_near a u v w t (not-true _ f) g)) x o f g
  rest-obeyed _ _ (g1 a q r s t x y z) (qr, (rs, (st, (tq, (e, _))))) =
      let flip : (u v : ℕ) → fixed_overlap k a u v ≡ true → fixed_overlap k a v u ≡ true = λ u v e. fixed_overlap-sym k a u v ∙ e in
      fixed_overlap-of k a r t (by_rule4 a q r s t x y z qr rs st tq (not-true _ e))
      (by_rule4 a q t s r (reversed y) (reversed x) (proper-sym z) (flip t q tq) (flip s t st) (flip r s rs) (flip q r qr) (not-true _ e))

-- And the other way round
module _ (p : Problem) (k : Domains) (o : Obeyed p.items k) (a u v : ℕ) where
  by_c3 : Proper p.items a u v → rule1 p k a u v ≡ true → may_overlap k a u v ≡ false
  unfolding rule1 says gone fixed_overlap
  by_c3 s e =
      let at : (b : ℕ) → b < 3 → b ≢ a → fixed_overlap k b u v ≡ true = λ b hb d. or_elim (eqb b a) _ (λ q. absurd (d (eqb-true b a q))) (λ q. q)
      (all-at 3 (λ b. eqb b a || fixed_overlap k b u v) e b hb) in
      not-true _ (o _ _ (c3 (suc a % 3) (suc (suc a) % 3) a u v (omega arith) (omega arith))
      (at (suc a % 3) (omega arith) (omega arith), (at (suc (suc a) % 3) (omega arith) (omega arith), tt)))

  by_d2 : Proper p.items a u v → rule2 p k a u v ≡ true → fixed_before k a u v ≡ true
  unfolding rule2 says gone fixed_before
  by_d2 s e =
      let (w, hw, d) = some_at p.items _ e in
      let (f, g) = and_both (fixed_before k a u w) (fixed_before k a w v) d in
      o _ _ (d2 2 a u w v (omega arith) (omega (arith, fixed_distinct k a u w f, fixed_distinct k a w v g))) (f, (g, tt))

  by_d1 : Proper p.items a u v → rule3 p k a u v ≡ true → may_before k a u v ≡ false
  unfolding rule3 says gone fixed_before
  by_d1 s e =
      let (w, hw, d) = some_at p.items _ e in
      not-true _ (or_elim (fixed_before k a w u && not (may_before k a w v)) _
      (λ d.
      let (f, g) = and_both (fixed_before k a w u) (not (may_before k a w v)) d in
      o _ _ (d1_near 2 a v w u (omega arith) (omega (arith, fixed_distinct k a w u f, before-distinct k a w v (not-true _ g)))) (g, (f, tt)))
      (λ d.
      let (f, g) = and_both (fixed_before k a v w) (not (may_before k a u w)) d in
      o _ _ (d1_far 2 a v w u (omega arith) (omega (arith, fixed_distinct k a v w f, before-distinct k a u w (not-true _ g)))) (f, (g, tt))) d)

  by_g1 : Proper p.items a u v → rule4 p k a u v ≡ true → may_before k a u v ≡ false
  unfolding rule4 says gone fixed_overlap
  by_g1 s e =
      let apart : (i j : ℕ) → fixed_overlap k a i j ≡ true → i ≢ j = λ i j e. before-distinct k a i j (fixed_overlap-says k a i j e).0 in
      let (x, hx, d) = some_at p.items _ e in
      let (xu, vx, r) = and_three (fixed_overlap k a x u) (fixed_overlap k a v x) _ d in
      let (y, hy, t) = some_at p.items _ r in
      let (uy, yv, xy) = and_three (fixed_overlap k a u y) (fixed_overlap k a y v) _ t in
      let (n, m, i, j, l) : (x ≢ u) × (u ≢ y) × (y ≢ v) × (v ≢ x) × (x ≢ y) =
      (apart x u xu, apart u y uy, apart y v yv, apart v x vx, overlap_distinct k a x y (not-true _ xy)) in
      (fixed_overlap-says k a u v (o _ _ (g1 a x u y v (omega arith) (omega arith) s) (xu, (uy, (yv, (vx, (xy, tt))))))).0

pub obeyed-at-rest : (p : Problem) (k : Domains) → Obeyed p.items k
    → ((a u v : ℕ) → Proper p.items a u v → rule5 p k a u v ≡ true → may_before k a u v ≡ false) → AtRest p k
unfolding asks asks_before asks_overlap gone
obeyed-at-rest p k o no-c2 = record {
  done = λ x a u v h s. elim x as (λ x. asks p k x a u v ≡ true → gone k x a u v ≡ true) [
    | zero ↦ λ e. ap not (or_elim (rule1 p k a u v) _ (by_c3 p k o a u v s) (or_elim (rule2 p k a u v) _
        (λ e. (fixed_before-says k a u v (by_d2 p k o a u v s e)).0) (λ e. may_overlap-sym k a v u ∙ (down a u v s e).0)) e)
    | suc zero ↦ λ e. ap not (before a u v s e)
    | suc (suc x) ↦ λ e. ap not (before a v u (proper-sym s) e)
  ];
}
  where
    down : (a u v : ℕ) → Proper p.items a u v → rule2 p k a v u ≡ true → (may_overlap k a v u ≡ false) × (may_before k a u v ≡ false)
    down a u v s e = fixed_before-says k a v u (by_d2 p k o a v u (proper-sym s) e)

    before : (a u v : ℕ) → Proper p.items a u v → asks_before p k a u v ≡ true → may_before k a u v ≡ false
    before a u v s =
        or_elim (rule2 p k a v u) _ (λ e. (down a u v s e).1)
        (or_elim (rule3 p k a u v) _ (by_d1 p k o a u v s) (or_elim (rule4 p k a u v) _ (by_g1 p k o a u v s) (no-c2 a u v s)))
