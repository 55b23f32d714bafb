-- Where each pair and axis is: the index of a domain.
use Rattle.std.specs.Prelude.{◌⊎◌, ◌≢◌, ◌≡◌, ◌+◌, ◌*◌, ◌/◌, ◌%◌, ◌<◌}
use Rattle.prelude.specs.Names.{Bool, true, inl, inr, ap₂, ℕ, min, max, dec_lt, arith}
use Rattle.model.specs.Below.{all_below}
use Rattle.model.specs.Pairs.{pair_number}
use Rattle.model.specs.Domains.{index, index_of}
use Rattle.model.specs.Propagate.{slot_at}
use Rattle.model.specs.Order.{Proper, Rising}
use Rattle.model.proofs.Below.{all-at}
use Rattle.model.proofs.Pairs.{pair-rises, number_of-pair, number-once, pair-at-number, pair_below, pair_number-small}

pub lt_or_gt : (u v : ℕ) → u ≢ v → (u < v) ⊎ (v < u)
lt_or_gt u v h = elim (dec_lt u v) [ yes l ↦ inl l | no l ↦ inr (omega arith) ]

pub proper-sym : {n a u v : ℕ} → Proper n a u v → Proper n a v u
proper-sym w = omega arith

pub proper-up : {n a u v : ℕ} → Rising n a u v → Proper n a u v
proper-up w = omega arith

-- a problem's items are among ten
pub proper-wide : {n a u v : ℕ} → n < 11 → Proper n a u v → Proper 10 a u v
proper-wide h w = omega arith

-- what a test of all pairs below n says of one
pub pairs_at : (n : ℕ) (f : ℕ → ℕ → Bool) → all_below n (λ v. all_below v (λ u. f u v)) ≡ true → (u v : ℕ) → u < v → v < n → f u v ≡ true
pairs_at n f e u v h l = all-at v (λ u. f u v) (all-at n (λ v. all_below v (λ u. f u v)) e v l) u h

pub index-small : {a u v : ℕ} → Rising 10 a u v → index a u v < 135
unfolding index
index-small {a} {u} {v} h = omega (arith, pair_number-small u v h.rising h.item)

-- the slot at an index, and the index of a slot
pub slot_of-index : {a u v : ℕ} → Rising 10 a u v → slot_at (index a u v) ≡ record { axis = a; u = u; v = v }
unfolding index slot_at
slot_of-index {a} {u} {v} h =
    let axis : (pair_number u v * 3 + a) % 3 ≡ a = omega arith in
    let number : (pair_number u v * 3 + a) / 3 ≡ pair_number u v = omega arith in
    rw (axis, number, pair-at-number u v h.rising)

pub slot_indexed : (i : ℕ) → i < 135
    → Rising 10 (slot_at i).axis (slot_at i).u (slot_at i).v × (index (slot_at i).axis (slot_at i).u (slot_at i).v ≡ i)
unfolding index slot_at
slot_indexed i h =
    let small : i / 3 < pair_number 0 10 = unfold pair_number in omega arith in
    (omega (arith, pair-rises (i / 3), pair_below 10 (i / 3) small), omega (arith, number_of-pair (i / 3)))

-- For two items in either order
rising-of : {a u v : ℕ} → Proper 10 a u v → Rising 10 a (min u v) (max u v)
rising-of w = omega arith

pub index-sym : (a u v : ℕ) → index_of a u v ≡ index_of a v u
unfolding index_of
index-sym a u v = ap₂ (index a) (omega arith) (omega arith)

pub index-up : (a : ℕ) {u v : ℕ} → u < v → index_of a u v ≡ index a u v
unfolding index_of
index-up a h = ap₂ (index a) (omega arith) (omega arith)

-- no two slots share an index
pub index_of-same : {a u v b x y : ℕ} → Proper 10 a u v → Proper 10 b x y → index_of a u v ≡ index_of b x y
    → (a ≡ b) × (min u v ≡ min x y) × (max u v ≡ max x y)
unfolding index_of index
index_of-same {a} {u} {v} {b} {x} {y} w z e =
    let (low, high) = number-once (rising-of w).rising (rising-of z).rising (omega arith) in
    (omega arith, low, high)

pub index_of-small : {a u v : ℕ} → Proper 10 a u v → index_of a u v < 135
unfolding index_of
index_of-small w = index-small (rising-of w)
