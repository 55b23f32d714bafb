-- What lies between two items, and the walkway and precedences of a packing: a feasible packing keeps it wherever one item is before the other, and a
-- packing that keeps it keeps the walkway and every lag. The walkway is in "before" itself, the same for every pair of an axis. A lag there would not do:
-- "before" is transitive, and what follows from two precedences has no lag of its own.
use Rattle.std.specs.Prelude.{◌&&◌, ◌∷◌, ◌⊎◌, ◌≡◌, ◌+◌, ◌-◌, ◌≤◌}
use Rattle.prelude.specs.Names.{true, false, cond, List, [], Mem, mem-head, mem-tail, mem-not_nil}
use Rattle.prelude.specs.Names.{mem-cases_cons, inl, inr, refl, ℕ, zero-le, le_refl, arith, eqb, eqb-true, eq-eqb}
use Rattle.model.specs.Problem.{Problem, Precedence, Positions, EndsBefore, EndsAhead, Feasible, time, spacing, lag_between, gap}
use Rattle.model.specs.Admits.{Sound}
use Rattle.model.proofs.Below.{and_intro, and_both}

lag-within : (l : List Precedence) (o : Precedence) → Mem o l → o.lag ≤ lag_between l o.predecessor o.successor
lag-within [] o m = absurd (mem-not_nil m)
lag-within (x ∷ l) o m = elim (mem-cases_cons m) [
  | inl e ↦ rw (← e, and_intro (eq-eqb o.predecessor o.predecessor refl) (eq-eqb o.successor o.successor refl)) (omega arith)
  | inr n ↦ omega (arith, lag-within l o n)
]

-- it is no less than the lag of each precedence
pub lag-gap : (p : Problem) (o : Precedence) → Mem o p.precedences → o.lag ≤ gap p time o.predecessor o.successor
unfolding gap
lag-gap p o m = lag-within p.precedences o m

-- it is at most what bounds the lag of every precedence that names the two
lag_bound : (l : List Precedence) (u v c : ℕ) → ((o : Precedence) → Mem o l → o.predecessor ≡ u → o.successor ≡ v → o.lag ≤ c)
    → lag_between l u v ≤ c
lag_bound [] u v c f = zero-le
lag_bound (o ∷ l) u v c f =
    let named = eqb o.predecessor u && eqb o.successor v in
    let one = (elim named as (λ b. named ≡ b → cond b o.lag 0 ≤ c) [
      | true ↦ λ d. let (x, y) = and_both (eqb o.predecessor u) (eqb o.successor v) d in
          f o (mem-head refl) (eqb-true _ _ x) (eqb-true _ _ y)
      | false ↦ λ d. zero-le
    ]) refl in
    omega (arith, one, lag_bound l u v c (λ x m. f x (mem-tail m)))

-- so is what lies between, where the bound is also no less than the spacing
gap_bound : (p : Problem) (a u v c : ℕ) → spacing p a ≤ c
    → ((o : Precedence) → Mem o p.precedences → a ≡ time → o.predecessor ≡ u → o.successor ≡ v → o.lag ≤ c) → gap p a u v ≤ c
unfolding gap spacing
gap_bound p a u v c h f = (elim (eqb a time) as (λ b. eqb a time ≡ b → cond b 0 p.walkway ≤ c → cond b (lag_between p.precedences u v) p.walkway ≤ c) [
  | true ↦ λ t l. lag_bound p.precedences u v c (λ o m. f o m (eqb-true a time t))
  | false ↦ λ t l. l
]) refl h

-- it is no less than the spacing
pub spacing-gap : (p : Problem) (a u v : ℕ) → spacing p a ≤ gap p a u v
unfolding gap spacing
spacing-gap p a u v = elim (eqb a time) as (λ b. cond b 0 p.walkway ≤ cond b (lag_between p.precedences u v) p.walkway) [
  | true ↦ zero-le
  | false ↦ le_refl _
]

-- and that is all that lies between items of which one is not there
pub gap-past : (p : Problem) → Sound p → (a u v : ℕ) → (p.items ≤ u) ⊎ (p.items ≤ v) → gap p a u v ≡ spacing p a
gap-past p sound a u v h = omega (
  arith,
  spacing-gap p a u v,
  gap_bound p a u v (spacing p a) (le_refl _) (λ o m t e d. let s = sound.named o m in
      absurd (elim h [ inl l ↦ omega arith | inr l ↦ omega arith ])),
)

module _ (p : Problem) (q : Positions) where
  -- who ends further ahead ends ahead, and before
  pub ahead_less : (a u v : ℕ) {g h : ℕ} → g ≤ h → EndsAhead p q a h u v → EndsAhead p q a g u v
  unfolding EndsAhead
  ahead_less a u v l e = omega arith

  pub ahead_before : (a u v : ℕ) → EndsAhead p q a (gap p a u v) u v → EndsBefore p q a u v
  unfolding EndsBefore
  ahead_before a u v = ahead_less a u v (spacing-gap p a u v)

  pub order_before : (u v g : ℕ) → EndsAhead p q time g u v → EndsBefore p q time u v
  unfolding EndsBefore spacing
  order_before u v g = ahead_less time u v zero-le

  -- a feasible packing keeps what lies between any two of which one is before the other
  pub gap-kept : Feasible p q → (a u v : ℕ) → EndsBefore p q a u v → EndsAhead p q a (gap p a u v) u v
  unfolding EndsAhead EndsBefore
  gap-kept feasible a u v e =
      omega (
        arith,
        gap_bound p a u v (q a v - (q a u + p.size a u)) (omega arith) (λ o m t d f. let k = feasible.ordered o m in
            rw (← d, ← f, t) (omega arith)),
      )
