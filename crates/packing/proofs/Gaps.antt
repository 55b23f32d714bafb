-- What the clearance says of two items: above 0 a gap, 0 touching, below 0 the least move that parts them.
use Rattle.std.specs.Prelude.{◌⊎◌, ◌↔◌, ◌≡◌, ◌+◌, ◌≤◌, ◌<◌, ◌^◌, ◌+ℤ◌, ◌-ℤ◌, ◌≤ℤ◌}
use Rattle.prelude.specs.Names.{inl, inr, ⊎_elim, refl, ap, ◌∙◌, ℕ, zero, suc, max, dec_le, arith, ℤ, pos, negsuc}
use Rattle.prelude.specs.Names.{nat_abs, lt-ltb, le-ltb}
use Rattle.std.specs.Int.{int_max}
use Rattle.std.proofs.lemmas.Int.{int_max_is}
use lib.Dec.{leb→le, le→leb}
use lib.IntN.{neg_ℤ, sub_ℕ}
use lib.Signed.{mag}
use mir.Syntax.{w32}
use mir.Val.{to_z, of_z}
use mir.ValLaws.{to_z-of_z}
use Rattle.model.specs.Problem.{Problem, Positions, EndsAhead, EndsBefore, spacing}
use Rattle.packing.specs.Clearance.{greater_of, from_end_to_start, clearance_between, Gap, PartedByMove, LeastMove, Overlap}

-- how far an integer is above 0, and how far below
abbrev up : ℤ → ℕ
up (pos n) = n
up (negsuc n) = 0

abbrev down : ℤ → ℕ
down (pos n) = 0
down (negsuc n) = suc n

same_integer : (x y : ℤ) → up x + down y ≡ up y + down x → x ≡ y
same_integer (pos x) (pos y) e = ap pos (omega arith)
same_integer (pos x) (negsuc y) e = absurd (omega arith)
same_integer (negsuc x) (pos y) e = absurd (omega arith)
same_integer (negsuc x) (negsuc y) e = ap negsuc (omega arith)

order_exactly : (x y : ℤ) → (x ≤ℤ y) ↔ (up x + down y ≤ up y + down x)
order_exactly (pos x) (pos y) = omega (arith, leb→le, le→leb)
order_exactly (pos x) (negsuc y) = ((λ h. absurd h.le), (λ h. absurd (omega arith)))
order_exactly (negsuc x) (pos y) = omega arith
order_exactly (negsuc x) (negsuc y) = omega (arith, leb→le, le→leb)

negated : (x : ℤ) → (up (neg_ℤ x) ≡ down x) × (down (neg_ℤ x) ≡ up x)
negated (pos zero) = omega arith
negated (pos (suc n)) = omega arith
negated (negsuc n) = omega arith

absolute : (x : ℤ) → nat_abs x ≡ up x + down x
absolute (pos n) = omega arith
absolute (negsuc n) = omega arith

-- by which of two numbers is the less
by_lt : {C : Type 0} (a b : ℕ) → (a < b → C) → (b ≤ a → C) → C
by_lt {C} a b f g = go (dec_le b a)
  where
    go : Dec (b ≤ a) → C
    go (yes h) = g h
    go (no h) = f (omega arith)

difference : (a b : ℕ) → up (sub_ℕ a b) + b ≡ down (sub_ℕ a b) + a
difference a b = by_lt a b (λ h. rw (lt-ltb a b h) (omega arith)) (λ h. rw (le-ltb a b h) (omega arith))

sum : (x y : ℤ) → up (x +ℤ y) + (down x + down y) ≡ down (x +ℤ y) + (up x + up y)
sum (pos x) (pos y) = omega arith
sum (pos x) (negsuc y) = omega (arith, difference x (suc y))
sum (negsuc x) (pos y) = omega (arith, difference y (suc x))
sum (negsuc x) (negsuc y) = omega arith

-- the greater of two, each measured from the same number below them
greatest : (x y : ℤ) (k a b : ℕ) → up x + k ≡ down x + a → up y + k ≡ down y + b → up (greater_of x y) + k ≡ down (greater_of x y) + max a b
unfolding greater_of
greatest (pos x) (pos y) k a b e f = by_lt x y (λ h. rw (lt-ltb x y h) (omega arith)) (λ h. rw (le-ltb x y h) (omega arith))
greatest (pos x) (negsuc y) k a b e f = omega arith
greatest (negsuc x) (pos y) k a b e f = omega arith
greatest (negsuc x) (negsuc y) k a b e f = by_lt y x (λ h. rw (lt-ltb y x h) (omega arith)) (λ h. rw (le-ltb y x h) (omega arith))

-- the library's greater of two is this one
pub max_is : (x y : ℤ) → int_max x y ≡ greater_of x y
max_is x y = same_integer _ _ (omega (arith, int_max_is x y, greatest x y (down x + down y) (up x + down y) (up y + down x) (omega arith) (omega arith)))

-- an i32 that a call gives is the integer that it was
pub i32_value : {x y : ℤ} → mag x < 2 ^ 31 → x ≡ y → to_z w32 (of_z w32 x) ≡ y
i32_value {x} h e = to_z-of_z w32 x (record { sfits = h }) ∙ e

module _ (p : Problem) (q : Positions) (a : ℕ) where
  abbrev end : ℕ → ℕ
  end u = q a u + p.size a u

  -- an integer is the clearance of u and v: measured from the sum of their ends it is the greater of two sums
  abbrev Clears : ℕ → ℕ → ℤ → Type 0
  Clears u v z = up z + (end u + end v) ≡ down z + max (q a v + end v) (q a u + end u)

  measured : (u v : ℕ) → Clears u v (clearance_between p q a u v)
  unfolding clearance_between from_end_to_start
  measured u v = greatest _ _ _ _ _ (from u v) (omega (arith, from v u))
    where
      from : (u v : ℕ) → let z = pos (q a v) -ℤ pos (end u) in up z + (end u + end v) ≡ down z + (q a v + end v)
      from u v = omega (arith, negated (pos (end u)), sum (pos (q a v)) (neg_ℤ (pos (end u))))

  -- moves of v where the two overlap by d
  least_move : (u v d : ℕ) → Clears u v (negsuc d) → LeastMove p q a u v (suc d)
  unfolding PartedByMove
  least_move u v d e = record { parts = parts; least = least }
    where
      parts : (m : ℤ) × (nat_abs m ≡ suc d) × PartedByMove p q a u v m
      parts = by_lt (q a v + end v) (q a u + end u)
          (λ h. (negsuc d, refl, inr (simp order_exactly (omega (arith, difference (q a v) (suc d), sum (sub_ℕ (q a v) (suc d)) (pos (p.size a v)))))))
          (λ h. (pos (suc d), refl, inl (simp order_exactly (omega arith))))

      least : (m : ℤ) → PartedByMove p q a u v m → suc d ≤ nat_abs m
      least m (inl w) = omega (arith, absolute m, sum (pos (q a v)) m, simp order_exactly at w)
      least m (inr w) = omega (arith, absolute m, sum (pos (q a v)) m, sum (pos (q a v) +ℤ m) (pos (p.size a v)), simp order_exactly at w)

  module _ (u v : ℕ) where
    -- "The clearance of u and v": it is that of v and u
    pub clearance_symmetric : clearance_between p q a u v ≡ clearance_between p q a v u
    clearance_symmetric = same_integer _ _ (omega (arith, measured u v, measured v u))

    -- "above 0 a gap, 0 touching": where the clearance is g modules, they are apart by a gap of g modules
    pub clearance_gap : (g : ℕ) → clearance_between p q a u v ≡ pos g → Gap p q a u v g
    unfolding Gap
    clearance_gap g e =
        let m = rw e at (measured u v) in
        by_lt (q a v + end v) (q a u + end u) (λ h. inr (omega arith)) (λ h. inl (omega arith))

    -- and where there is a gap of g modules, the clearance is g
    pub gap_clearance : (g : ℕ) → Gap p q a u v g → clearance_between p q a u v ≡ pos g
    unfolding Gap
    gap_clearance g (inl e) = same_integer _ _ (omega (arith, measured u v))
    gap_clearance g (inr e) = same_integer _ _ (omega (arith, measured u v))

    -- g or above exactly where one item ends at least g before the other's start on the axis
    pub clearance_ahead : (g : ℕ) → (pos g ≤ℤ clearance_between p q a u v) ↔ (EndsAhead p q a g u v ⊎ EndsAhead p q a g v u)
    unfolding EndsAhead
    clearance_ahead g = (
      (λ w.
          let k = simp order_exactly at w in let m = measured u v in
          by_lt (q a v + end v) (q a u + end u) (λ h. inr (omega arith)) (λ h. inl (omega arith))),
      ⊎_elim (λ w. simp order_exactly (omega (arith, measured u v))) (λ w. simp order_exactly (omega (arith, measured u v))),
    )

    -- so they are apart on x or y exactly where it is the walkway or above, and on t where it is 0 or above
    pub clearance_apart : (pos (spacing p a) ≤ℤ clearance_between p q a u v) ↔ (EndsBefore p q a u v ⊎ EndsBefore p q a v u)
    unfolding EndsBefore
    clearance_apart = clearance_ahead (spacing p a)

    overlap_of : (d : ℕ) → clearance_between p q a u v ≡ negsuc d → Overlap p q a u v (suc d)
    overlap_of d e =
        let m = rw e at (measured u v) in
        record { not_apart = λ w. (rw e at ((clearance_ahead 0).1 w)).le; of_second = least_move u v d m; of_first = least_move v u d (omega arith) }

    -- "below 0 the overlap, told as the least move on that axis that parts them, with a minus", and the other way round
    pub clearance_overlap : (d : ℕ) → (clearance_between p q a u v ≡ neg_ℤ (pos (suc d))) ↔ Overlap p q a u v (suc d)
    clearance_overlap d = (overlap_of d, from (clearance_between p q a u v) refl)
      where
        from : (z : ℤ) → clearance_between p q a u v ≡ z → Overlap p q a u v (suc d) → z ≡ negsuc d
        from (pos g) e o = absurd (o.not_apart ((clearance_ahead 0).0 (rw e (simp order_exactly (omega arith)))))
        from (negsuc h) e o =
            let own = (overlap_of h e).of_second in
            let (m, s, t) = o.of_second.parts in
            let (n, f, w) = own.parts in
            ap negsuc (omega (arith, o.of_second.least n w, own.least m t))

  -- "For u = v it is minus the measure"
  pub clearance_same : (u : ℕ) → clearance_between p q a u u ≡ neg_ℤ (pos (p.size a u))
  clearance_same u = same_integer _ _ (omega (arith, measured u u, negated (pos (p.size a u))))
