-- Removing a relation by its number: it is gone, every other stays, and the numbers add up to less; and removing all but one.
use Rattle.std.specs.Prelude.{◌∷◌, ◌≢◌, ◌⊎◌, ◌≡◌, ◌≤◌, ◌<◌}
use Rattle.prelude.specs.Names.{true, false, not, [], inl, inr, eq-or-lt_of_le, refl, sym, ◌∙◌, ap, ℕ, zero, suc, min}
use Rattle.prelude.specs.Names.{max, compare, ℕ_discrete, dec_lt, arith, get_or, length, set, length-set, not-true}
use Rattle.model.specs.Domains.{Domains, index_of, bit, clear, converse, place, left, cleared, gone, without, remove_overlap, remove_before}
use Rattle.model.specs.Domains.{fix_before}
use Rattle.model.specs.Propagate.{sum}
use Rattle.model.specs.Order.{Proper, WellFormed, Subdomain, ◌⊑◌}
use Rattle.model.specs.Facts.{Saying, overlaps, nothing, removed, forced, says}
use Rattle.model.proofs.Below.{clash, fails}
use Rattle.model.proofs.Order.{sub_le, clear-same, clear-other, clear-small, clear-less, clear_above, clear_none, sub_refl, sub-zero}
use Rattle.model.proofs.Order.{sub_trans, below_trans}
use Rattle.model.proofs.Slots.{proper-sym, index_of-same}
use Rattle.model.proofs.Domains.{converse-small, place-small, place_same, place-converse, gone-is, without_is}

-- What holds of every domain, and of the one written, holds of every domain after
written : (P : ℕ → ℕ → Type 0) (k : Domains) (i x : ℕ) → P i x → ((n : ℕ) → P n (get_or k n 0)) → (n : ℕ) → P n (get_or (set k i x) n 0)
written P [] i x r h n = h n
written P (m ∷ k) zero x r h zero = r
written P (m ∷ k) zero x r h (suc n) = h (suc n)
written P (m ∷ k) (suc i) x r h zero = h zero
written P (m ∷ k) (suc i) x r h (suc n) = written (λ z. P (suc z)) k i x r (λ z. h (suc z)) n

at-written : (k : Domains) (i x : ℕ) → Subdomain (get_or (set k i x) i 0) x
at-written [] i x = sub-zero x
at-written (m ∷ k) zero x = sub_refl x
at-written (m ∷ k) (suc i) x = at-written k i x

-- What is removed is gone, and nothing else
module _ (k : Domains) (x a u v : ℕ) where
  abbrev y : ℕ
  y = place (compare u v) x

  abbrev i : ℕ
  i = index_of a u v

  pub without-less : without k x a u v ⊑ k
  without-less = rw (without_is k x a u v) (written (λ n m. Subdomain m (get_or k n 0)) k i _ (clear-less y _) (λ n. sub_refl _))

  pub without-above : (f : Domains) → f ⊑ k → gone f x a u v ≡ true → f ⊑ without k x a u v
  without-above f h e =
      rw (without_is k x a u v)
      (written (λ n m. Subdomain (get_or f n 0) m) k i _ (clear_above y (h i) (not-true _ (sym (gone-is f x a u v) ∙ e))) h)

  -- what lacks the relation, as lying below some domains without it, lies below any without it that it lies below
  pub without_alike : (f j : Domains) → f ⊑ without j x a u v → f ⊑ k → f ⊑ without k x a u v
  without_alike f j h g =
      let lacks = sub_trans (rw (without_is j x a u v) at (h i)) (at-written j i (clear y (get_or j i 0))) in
      let last : Subdomain (get_or f i 0) (clear y (get_or k i 0)) = elim (dec_lt y 3) [
        | yes l ↦ clear_above y (g i) (fails (lacks.bits y) (clear-same y (get_or j i 0) l))
        | no l ↦ rw (clear_none y (get_or k i 0) l) (g i)
      ] in
      rw (without_is k x a u v) (written (λ n m. Subdomain (get_or f n 0) m) k i _ last g)

  pub without-well_formed : WellFormed k → WellFormed (without k x a u v)
  without-well_formed w =
      rw (without_is k x a u v)
      (record { long = length-set k _ _ ∙ w.long; small = written (λ n m. m < 8) k i _ (clear-small y _ (w.small i)) w.small })

-- All but "u before v" removed
module _ (k : Domains) (a u v : ℕ) where
  pub fix_before-less : fix_before k a u v ⊑ k
  unfolding fix_before without
  fix_before-less = let j = remove_before k a v u in below_trans (remove_overlap j a u v) j k (without-less j 0 a u v) (without-less k 1 a v u)

  pub fix_before-well_formed : WellFormed k → WellFormed (fix_before k a u v)
  unfolding fix_before without
  fix_before-well_formed w = without-well_formed (remove_before k a v u) 0 a u v (without-well_formed k 1 a v u w)

pub without_gone : (k : Domains) (x : ℕ) {a u v : ℕ} → WellFormed k → Proper 10 a u v → gone (without k x a u v) x a u v ≡ true
without_gone k x {a} {u} {v} f w =
    let (y, i) : ℕ × ℕ = (place (compare u v) x, index_of a u v) in
    rw (gone-is (without k x a u v) x a u v, without_is k x a u v)
    (ap not (fails ((at-written k i (clear y (get_or k i 0))).bits y) (clear-same y (get_or k i 0) (place-small w.distinct x))))

-- the relation y of s and t on the axis b is not the relation x of u and v on the axis a, seen from either item
pub record Other (x a u v y b s t : ℕ) : Type 0 where
  pub near : y ≡ x → b ≡ a → s ≡ u → t ≡ v → ⊥
  pub far : y ≡ converse x → b ≡ a → s ≡ v → t ≡ u → ⊥

-- A relation stays that has another bit, or is in another domain
stored_apart : (k : Domains) (x a u v y b s t : ℕ) → (index_of b s t ≡ index_of a u v → place (compare s t) y ≢ place (compare u v) x)
    → gone (without k x a u v) y b s t ≡ gone k y b s t
stored_apart k x a u v y b s t h =
    let (i, z) : ℕ × ℕ = (index_of b s t, place (compare s t) y) in
    let stays : left (cleared k x a u v) y b s t ≡ left k y b s t =
    written (λ n m. n ≡ i → bit z m ≡ bit z (get_or k n 0)) k (index_of a u v) _ (λ e. clear-other z _ _ (h (sym e))) (λ n _. refl) i refl in
    rw (gone-is (without k x a u v) y b s t, gone-is k y b s t, without_is k x a u v) (ap not stays)

pub without_other : (k : Domains) (x y : ℕ) {a u v b s t : ℕ} → x < 3 → y < 3 → WellFormed k → Proper 10 a u v → Proper 10 b s t → Other x a u v y b s t
    → gone (without k x a u v) y b s t ≡ gone k y b s t
without_other k x y {a} {u} {v} {b} {s} {t} hx hy f w z o = stored_apart k x a u v y b s t λ i.
    let (c, l, m) = index_of-same z w i in
    elim (ℕ_discrete s u) [
      | yes d ↦ let r : t ≡ v = omega arith in
          rw (d, r) (λ e. o.near (place_same w.distinct hy hx e) c d r)
      | no d ↦ let (p, r) : (s ≡ v) × (t ≡ u) = (omega arith, omega arith) in
          rw (p, r) (λ e. o.far (place_same (proper-sym w).distinct hy (converse-small x) (e ∙ sym (place-converse k x a u v))) c p r)
    ]

-- so what is said of another pair stays
pub says_elsewhere : (k : Domains) (x : ℕ) {a u v b s t : ℕ} → Proper 10 a u v → Proper 10 b s t → (b ≡ a → min s t ≡ min u v → max s t ≡ max u v → ⊥)
    → (c : Saying) → says c (without k x a u v) b s t ≡ says c k b s t
unfolding says
says_elsewhere k x {a} {u} {v} {b} {s} {t} w z h c =
    let stays : (y : ℕ) → gone (without k x a u v) y b s t ≡ gone k y b s t = λ y.
    stored_apart k x a u v y b s t (λ e. let q = index_of-same z w e in absurd (h q.0 q.1 q.2)) in
    elim c as (λ c. says c (without k x a u v) b s t ≡ says c k b s t) [
      | overlaps ↦ rw (stays 1, stays 2)
      | nothing ↦ rw (stays 0, stays 1, stays 2)
      | removed y ↦ stays y
      | forced y ↦ rw (stays 0, stays y)
    ]

-- The relations of a pair are read from its domain alone
pub gone_same : (k j : Domains) (x a u v : ℕ) → get_or j (index_of a u v) 0 ≡ get_or k (index_of a u v) 0 → gone j x a u v ≡ gone k x a u v
gone_same k j x a u v e = gone-is j x a u v ∙ (ap (λ (m : ℕ). not (bit (place (compare u v) x) m)) e ∙ sym (gone-is k x a u v))

-- Lower numbers add up to less
pub same_or_lower : (j k : Domains) → length j ≡ length k → ((i : ℕ) → get_or j i 0 ≤ get_or k i 0) → (j ≡ k) ⊎ (sum j < sum k)
same_or_lower [] [] l h = inl refl
same_or_lower [] (n ∷ k) l h = absurd (omega arith)
same_or_lower (m ∷ j) [] l h = absurd (omega arith)
same_or_lower (m ∷ j) (n ∷ k) l h = elim (same_or_lower j k (omega arith) (λ i. h (suc i))) [
  | inl e ↦ elim (eq-or-lt_of_le (h zero)) [ inl d ↦ inl (cc) | inr d ↦ inr (omega (arith, ap sum e)) ]
  | inr d ↦ inr (omega (arith, h zero))
]

-- and so do fewer relations
pub sum_falls : (j k : Domains) → WellFormed j → WellFormed k → j ⊑ k → (x a u v : ℕ) → gone j x a u v ≡ true → gone k x a u v ≡ false
    → sum j < sum k
sum_falls j k wj wk h x a u v e f = elim (same_or_lower j k (wj.long ∙ sym wk.long) (λ i. sub_le (wj.small i) (h i))) [
  | inl q ↦ absurd (clash e (ap (λ (i : Domains). gone i x a u v) q ∙ f))
  | inr l ↦ l
]
