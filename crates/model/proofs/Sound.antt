-- The rules are sound: no rule asks for a relation that an admitted feasible packing realises. So propagation admits what it admitted,
-- the opening domains admit every feasible packing, and inconsistent domains admit none.
use Rattle.std.specs.Prelude.{◌&&◌, ◌||◌, ◌⊎◌, ◌≡◌, ◌+◌, ◌-◌, ◌≤◌, ◌<◌}
use Rattle.prelude.specs.Names.{true, false, not, inl, inr, ⊎_elim, refl, sym, ◌∙◌, ap, ℕ, zero, suc}
use Rattle.prelude.specs.Names.{le_refl, arith, eqb, eqb-true, ltb-true, not-true, not-false}
use Rattle.model.specs.Problem.{Problem, Positions, EndsBefore, Feasible}
use Rattle.model.specs.Domains.{Domains, may_overlap, may_before, left, gone, fixed_before, fixed_overlap}
use Rattle.model.specs.Rules.{greatest_ending, greatest_starting, rule1, rule2, rule3, rule4, rule5, asks_overlap, asks_before, asks}
use Rattle.model.specs.Propagate.{pass, propagate}
use Rattle.model.specs.Branching.{empty, inconsistent}
use Rattle.model.specs.Order.{Proper, WellFormed}
use Rattle.model.specs.Admits.{Sound, Overlaps, Realises, Admits}
use Rattle.model.proofs.Below.{and_intro, and_both, or_case, all-at, some_at, fails, clash}
use Rattle.model.proofs.Slots.{proper-sym, proper-up}
use Rattle.model.proofs.Consistent.{consistent-of}
use Rattle.model.proofs.Domains.{gone-is, fixed_before-says, fixed_overlap-says, before-distinct, overlap_distinct}
use Rattle.model.proofs.Ends.{ends?, ends_trans, ends_asym, ends_cross, joined-room, joined-from}
use Rattle.model.proofs.Gap.{gap-kept}
use Rattle.model.proofs.GreatestChains.{greatest_ending-within, greatest_starting-within}
use Rattle.model.proofs.Pass.{pass-well_formed, left-pass}
use Rattle.model.proofs.Propagate.{propagate-keeps}

module _ (p : Problem) (sound : Sound p) (q : Positions) (feasible : Feasible p q) (k : Domains) (admits : Admits p k q) where
  -- What is removed is not so, and what is fixed is so
  not-before : {a u v : ℕ} → Proper p.items a u v → may_before k a u v ≡ false → EndsBefore p q a u v → ⊥
  unfolding gone
  not-before {a} {u} {v} s e b = clash (ap not e) (admits.realised 1 a u v (omega arith) s b)

  ends_either : {a u v : ℕ} → Proper p.items a u v → may_overlap k a u v ≡ false → EndsBefore p q a u v ⊎ EndsBefore p q a v u
  unfolding Overlaps gone
  ends_either {a} {u} {v} s e = elim (ends? p q a u v) [
    | yes b ↦ inl b
    | no f ↦ elim (ends? p q a v u) [ yes b ↦ inr b | no g ↦ absurd (clash (ap not e) (admits.realised 0 a u v (omega arith) s (f, g))) ]
  ]

  fixed_before_holds : {a u v : ℕ} → a < 3 → u < p.items → v < p.items → fixed_before k a u v ≡ true → EndsBefore p q a u v
  fixed_before_holds {a} {u} {v} ha hu hv e =
      let (o, f) = fixed_before-says k a u v e in
      let s : Proper p.items a u v = omega (arith, overlap_distinct k a u v o) in
      elim (ends_either s o) [ inl b ↦ b | inr b ↦ absurd (not-before (proper-sym s) f b) ]

  fixed_overlap_holds : {a u v : ℕ} → a < 3 → u < p.items → v < p.items → fixed_overlap k a u v ≡ true
      → (EndsBefore p q a u v → ⊥) × (EndsBefore p q a v u → ⊥)
  fixed_overlap_holds {a} {u} {v} ha hu hv e =
      let (f, g) = fixed_overlap-says k a u v e in
      let s : Proper p.items a u v = omega (arith, before-distinct k a u v f) in
      (not-before s f, not-before (proper-sym s) g)

  -- Rule 1: two items are apart on some axis
  rule1-sound : (a u v : ℕ) → Proper p.items a u v → rule1 p k a u v ≡ true → Overlaps p q a u v → ⊥
  unfolding rule1 Overlaps
  rule1-sound a u v s e h =
      let (b, l, d) = feasible.apart u v s.item_u s.item_v s.distinct in
      elim (or_case (eqb b a) _ (all-at 3 (λ c. eqb c a || fixed_overlap k c u v) e b l)) [
        | inl f ↦ ⊎_elim h.0 h.1 (rw (eqb-true b a f) at d)
        | inr f ↦ let (x, y) = fixed_overlap_holds l s.item_u s.item_v f in ⊎_elim x y d
      ]

  -- Rule 2: "ends before" is transitive
  rule2-sound : (a u v : ℕ) → a < 3 → u < p.items → v < p.items → rule2 p k a u v ≡ true → EndsBefore p q a u v
  unfolding rule2
  rule2-sound a u v ha hu hv e =
      let (w, hw, d) = some_at p.items _ e in
      let (f, g) = and_both _ _ d in
      ends_trans p q a u w v (fixed_before_holds ha hu hw f) (fixed_before_holds ha hw hv g)

  -- Rule 3: likewise
  rule3-sound : (a u v : ℕ) → Proper p.items a u v → rule3 p k a u v ≡ true → EndsBefore p q a u v → ⊥
  unfolding rule3
  rule3-sound a u v s e h =
      let (w, hw, d) = some_at p.items _ e in
      elim (or_case (fixed_before k a w u && not (may_before k a w v)) _ d) [
        | inl d ↦ let (f, g) = and_both _ _ d in
            let r = not-true (may_before k a w v) g in
            not-before (omega (arith, before-distinct k a w v r)) r (ends_trans p q a w u v (fixed_before_holds s.axis hw s.item_u f) h)
        | inr d ↦ let (f, g) = and_both _ _ d in
            let r = not-true (may_before k a u w) g in
            not-before (omega (arith, before-distinct k a u w r)) r (ends_trans p q a u v w h (fixed_before_holds s.axis s.item_v hw f))
      ]

  -- Rule 4: of two that end before two others, one ends before the other's
  rule4-sound : (a u v : ℕ) → Proper p.items a u v → rule4 p k a u v ≡ true → EndsBefore p q a u v → ⊥
  unfolding rule4
  rule4-sound a u v s e h =
      let (x, hx, d) = some_at p.items _ e in
      let (f, g) = and_both (fixed_overlap k a x u && fixed_overlap k a v x) _ d in
      let (xu, vx) = and_both (fixed_overlap k a x u) _ f in
      let (y, hy, r) = some_at p.items _ g in
      let (t, z) = and_both (fixed_overlap k a u y && fixed_overlap k a y v) _ r in
      let (uy, yv) = and_both (fixed_overlap k a u y) _ t in
      let o = not-true (may_overlap k a x y) z in
      let xy : Proper p.items a x y = omega (arith, overlap_distinct k a x y o) in
      elim (ends_either xy o) [
        | inl b ↦ ⊎_elim (fixed_overlap_holds s.axis s.item_v hx vx).1 (fixed_overlap_holds s.axis s.item_u hy uy).0
            (ends_cross p q a x y u v b h)
        | inr b ↦ ⊎_elim (fixed_overlap_holds s.axis hy s.item_v yv).0 (fixed_overlap_holds s.axis hx s.item_u xu).1
            (ends_cross p q a y x u v b h)
      ]

  -- Rule 5: a chain has room from its first start to its last end
  ending-room : (a u : ℕ) → a < 3 → u < p.items → greatest_ending p k a u ≤ q a u + p.size a u
  ending-room a u ha hu =
      greatest_ending-within p k a (λ x. q a x + p.size a x) (λ x hx. omega arith)
      (λ v w x hv hw b h. let kept = gap-kept p q feasible a v w (fixed_before_holds ha hv hw b) in
      joined-room p q a v w x (p.size a w) (q a w + p.size a w) kept h (le_refl _)) u hu

  starting-room : (a u : ℕ) → a < 3 → u < p.items → greatest_starting p k a u ≤ p.capacity a - q a u
  starting-room a u ha hu =
      greatest_starting-within p k a (λ x. p.capacity a - q a x) (λ x hx. omega (arith, feasible.inside a x ha hx))
      (λ v w y hv hw b h.
      omega (
        arith,
        joined-from p q a v w y (p.capacity a) (gap-kept p q feasible a v w (fixed_before_holds ha hv hw b))
            (omega (arith, feasible.inside a w ha hw)),
      )) u hu

  rule5-sound : (a u v : ℕ) → Proper p.items a u v → rule5 p k a u v ≡ true → EndsBefore p q a u v → ⊥
  unfolding rule5
  rule5-sound a u v s e h =
      let l = ltb-true (p.capacity a) _ e in
      let m = joined-room p q a u v (greatest_ending p k a u) (greatest_starting p k a v) (p.capacity a) (gap-kept p q feasible a u v h)
      (ending-room a u s.axis s.item_u)
      (omega (arith, starting-room a v s.axis s.item_v, feasible.inside a v s.axis s.item_v)) in
      omega arith

  -- No rule asks for what the packing realises
  asks_before-sound : (a u v : ℕ) → Proper p.items a u v → asks_before p k a u v ≡ true → EndsBefore p q a u v → ⊥
  unfolding asks_before
  asks_before-sound a u v s e h = elim (or_case (rule2 p k a v u) _ e) [
    | inl d ↦ ends_asym p q a u v (sound.positive a v s.axis s.item_v) h (rule2-sound a v u s.axis s.item_v s.item_u d)
    | inr d ↦ elim (or_case (rule3 p k a u v) _ d) [
      | inl d ↦ rule3-sound a u v s d h
      | inr d ↦ elim (or_case (rule4 p k a u v) _ d) [ inl d ↦ rule4-sound a u v s d h | inr d ↦ rule5-sound a u v s d h ]
    ]
  ]

  asks_overlap-sound : (a u v : ℕ) → Proper p.items a u v → asks_overlap p k a u v ≡ true → Overlaps p q a u v → ⊥
  unfolding asks_overlap Overlaps
  asks_overlap-sound a u v s e h = elim (or_case (rule1 p k a u v) _ e) [
    | inl d ↦ rule1-sound a u v s d h
    | inr d ↦ elim (or_case (rule2 p k a u v) _ d) [
      | inl d ↦ h.0 (rule2-sound a u v s.axis s.item_u s.item_v d)
      | inr d ↦ h.1 (rule2-sound a v u s.axis s.item_v s.item_u d)
    ]
  ]

  asks-sound : (x a u v : ℕ) → Proper p.items a u v → asks p k x a u v ≡ true → Realises p q x a u v → ⊥
  unfolding asks
  asks-sound zero a u v s = asks_overlap-sound a u v s
  asks-sound (suc zero) a u v s = asks_before-sound a u v s
  asks-sound (suc (suc x)) a u v s = asks_before-sound a v u (proper-sym s)

  -- inconsistent domains admit no feasible packing
  pub admitted-consistent : inconsistent p k ≡ false
  unfolding empty
  admitted-consistent =
      consistent-of p k (λ a v ha hv. omega (arith, feasible.inside a v ha hv)) (λ a u v r. fails {c = false} (left a u v (proper-up r)) refl)
    where
      left : (a u v : ℕ) → Proper p.items a u v → empty k a u v ≡ true → false ≡ true
      left a u v s e =
          let (o, d) = and_both (not (may_overlap k a u v)) (not (may_before k a u v) && not (may_before k a v u)) e in
          let (f, g) = and_both (not (may_before k a u v)) (not (may_before k a v u)) d in
          absurd (not-before s (not-true _ f) (fixed_before_holds s.axis s.item_u s.item_v (unfold fixed_before in and_intro o g)))

-- Propagation admits what it admitted
pub propagate_admits : (p : Problem) → Sound p → (q : Positions) → Feasible p q → (k : Domains) → WellFormed k → Admits p k q
    → Admits p (propagate p k) q
propagate_admits p sound q feasible k w α =
    (propagate-keeps p (λ k. WellFormed k × Admits p k q) (λ k (w, α). (
      pass-well_formed p k w,
      record {
        realised = λ x a u v h s r.
            let had : left k x a u v ≡ true = not-false _ (sym (gone-is k x a u v) ∙ α.realised x a u v h s r) in
            let unasked : asks p k x a u v ≡ false = fails {c = false} (λ e. absurd (asks-sound p sound q feasible k α x a u v s e r)) refl in
            rw (gone-is (pass p k) x a u v, left-pass p sound.limited k w.long x a u v h s, had, unasked);
      },
    )) k (w, α)).1
