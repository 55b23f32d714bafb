-- One pass: it removes just the relations that some rule asks for, keeps the order of domains, and lowers their sum or changes nothing.
use Rattle.std.specs.Prelude.{◌&&◌, ◌||◌, ◌∷◌, ◌⊎◌, ◌≡◌, ◌+◌, ◌≤◌, ◌<◌}
use Rattle.prelude.specs.Names.{Bool, true, false, not, or_comm, and-true, and-false, false≢true, [], inl, inr, refl, sym}
use Rattle.prelude.specs.Names.{◌∙◌, ap, ap₂, ℕ, zero, suc, min, max, le_refl, add-zero, zero-add, arith, ltb, eqb, get_or, length}
use Rattle.prelude.specs.Names.{ext_get_or, eqb-true, eq-eqb, ltb-true, lt-ltb, le-ltb, not-true}
use Rattle.model.specs.Below.{all_below}
use Rattle.model.specs.Problem.{Problem}
use Rattle.model.specs.Domains.{Domains, overlap_bit, before_bit, after_bit, index, index_of, bit, converse, left}
use Rattle.model.specs.Rules.{rule1, rule2, asks_overlap, asks}
use Rattle.model.specs.Propagate.{Slot, slot_at, kept_if, kept, at_slots, pass, same, sum}
use Rattle.model.specs.Order.{Proper, Rising, WellFormed, Subdomain, ◌⊑◌, AtRest}
use Rattle.model.proofs.Below.{all_case, and_first, and_mono, not_mono, clash}
use Rattle.model.proofs.Order.{overlap_bit-of, before_bit-of, after_bit-of, domain-bits, domain_le, sub_refl, sub-zero, sub_trans, sub_of}
use Rattle.model.proofs.Order.{sub_mono}
use Rattle.model.proofs.Slots.{lt_or_gt, slot_of-index, slot_indexed, index-small}
use Rattle.model.proofs.Without.{same_or_lower}
use Rattle.model.proofs.Domains.{converse-small, left-converse, left_up, gone-is, fixed_overlap-sym}
use Rattle.model.proofs.Monotone.{asks_mono}

-- A function of domains applied at every slot
get_d_at : (f : Slot → ℕ → ℕ) (i : ℕ) (k : Domains) (j : ℕ) → j < length k → get_or (at_slots f i k) j 0 ≡ f (slot_at (i + j)) (get_or k j 0)
get_d_at f i [] j h = absurd (omega arith)
get_d_at f i (m ∷ k) zero h = rw (add-zero i) refl
get_d_at f i (m ∷ k) (suc j) h = let e : i + suc j ≡ suc i + j = omega arith in rw e (get_d_at f (suc i) k j (omega arith))

length_at : (f : Slot → ℕ → ℕ) (i : ℕ) (k : Domains) → length (at_slots f i k) ≡ length k
length_at f i [] = refl
length_at f i (m ∷ k) = ap suc (length_at f (suc i) k)

-- what holds of each domain and what becomes of it
at_slots-each : (P : ℕ → ℕ → Type 0) → P 0 0 → (f : Slot → ℕ → ℕ) → ((c : Slot) (m : ℕ) → P (f c m) m)
    → (i : ℕ) (k : Domains) (j : ℕ) → P (get_or (at_slots f i k) j 0) (get_or k j 0)
at_slots-each P r f h i [] j = r
at_slots-each P r f h i (m ∷ k) zero = h (slot_at i) m
at_slots-each P r f h i (m ∷ k) (suc j) = at_slots-each P r f h (suc i) k j

module _ (f g : Slot → ℕ → ℕ) (less : (c : Slot) (m : ℕ) → Subdomain (f c m) m)
    (mono : (c : Slot) (m j : ℕ) → Subdomain m j → Subdomain (f c m) (g c j)) where
  at_slots_mono : (i : ℕ) (k j : Domains) → k ⊑ j → at_slots f i k ⊑ at_slots g i j
  at_slots_mono i [] j h n = sub-zero _
  at_slots_mono i (m ∷ k) [] h n = sub_trans (at_slots-each Subdomain (sub_refl 0) f less i (m ∷ k) n) (h n)
  at_slots_mono i (m ∷ k) (x ∷ j) h zero = mono (slot_at i) m x (h zero)
  at_slots_mono i (m ∷ k) (x ∷ j) h (suc n) = at_slots_mono (suc i) k j (λ n. h (suc n)) n

same_refl : (k : Domains) → same k k ≡ true
same_refl [] = refl
same_refl (x ∷ k) = rw (eq-eqb x x refl, same) (same_refl k)

pub same-eq : (k j : Domains) → same k j ≡ true → k ≡ j
same-eq [] [] e = refl
same-eq [] (y ∷ j) e = absurd (false≢true e)
same-eq (x ∷ k) [] e = absurd (false≢true e)
same-eq (x ∷ k) (y ∷ j) e = let (q, d) = all_case (eqb x y) (same k j) e in cc (eqb-true x y q, same-eq k j d)

-- What a pass leaves of one domain
kept_less : (p : Problem) (k : Domains) (c : Slot) (m : ℕ) → Subdomain (kept p k c m) m
unfolding kept
kept_less p k c m = elim (ltb c.v p.items) as (λ b. Subdomain (kept_if b p k c m) m)
    [ true ↦ sub_of m (and_first _ _) (and_first _ _) (and_first _ _) | false ↦ sub_refl m ]

kept_mono : (k j : Domains) → k ⊑ j → (p : Problem) (c : Slot) (m m' : ℕ) → Subdomain m m' → Subdomain (kept p k c m) (kept p j c m')
unfolding kept asks
kept_mono k j h p c m m' r = elim (ltb c.v p.items) as (λ b. Subdomain (kept_if b p k c m) (kept_if b p j c m')) [
  | true ↦ sub_mono (and_mono (r.bits 0) (not_mono (asks_mono k j h p c.axis 0 c.u c.v)))
      (and_mono (r.bits 1) (not_mono (asks_mono k j h p c.axis 1 c.u c.v)))
      (and_mono (r.bits 2) (not_mono (asks_mono k j h p c.axis 2 c.u c.v)))
  | false ↦ r
]

-- A pass only removes, and removes no less where less is left
pub pass-less : (p : Problem) (k : Domains) → pass p k ⊑ k
unfolding pass
pass-less p k = at_slots-each Subdomain (sub_refl 0) (kept p k) (kept_less p k) 0 k

pub pass_mono : (p : Problem) (k j : Domains) → k ⊑ j → pass p k ⊑ pass p j
unfolding pass
pass_mono p k j h = at_slots_mono (kept p k) (kept p j) (kept_less p k) (kept_mono k j h p) 0 k j h

module _ (p : Problem) (k : Domains) where
  pass-length : length (pass p k) ≡ length k
  unfolding pass
  pass-length = length_at (kept p k) 0 k

  pass_le : (i : ℕ) → get_or (pass p k) i 0 ≤ get_or k i 0
  unfolding pass kept
  pass_le = at_slots-each ◌≤◌ (le_refl 0) (kept p k) (λ c m. elim (ltb c.v p.items) as (λ b. kept_if b p k c m ≤ m)
      [ true ↦ domain_le m _ _ _ (and_first (overlap_bit m) _) (and_first (before_bit m) _) (and_first (after_bit m) _) | false ↦ le_refl m ]) 0 k

  pub pass-same_or_lower : (pass p k ≡ k) ⊎ (sum (pass p k) < sum k)
  pass-same_or_lower = same_or_lower (pass p k) k pass-length pass_le

  pub pass_lowers : same (pass p k) k ≡ false → sum (pass p k) < sum k
  pass_lowers e = elim pass-same_or_lower [ inl q ↦ absurd (clash (rw q (same_refl k)) e) | inr l ↦ l ]

  pub pass-well_formed : WellFormed k → WellFormed (pass p k)
  pass-well_formed w = record { long = pass-length ∙ w.long; small = λ i. omega (arith, pass_le i, w.small i) }

  pass-at : length k ≡ 135 → (i : ℕ) → i < 135 → get_or (pass p k) i 0 ≡ kept p k (slot_at i) (get_or k i 0)
  unfolding pass
  pass-at long i h = get_d_at (kept p k) 0 k i (rw long h) ∙ ap (λ (j : ℕ). kept p k (slot_at j) (get_or k i 0)) (zero-add i)

-- What the accessors read after a pass
asks-converse : (p : Problem) (k : Domains) (x a u v : ℕ) → asks p k (converse x) a v u ≡ asks p k x a u v
unfolding asks asks_overlap rule1
asks-converse p k zero a u v = ap₂ ◌||◌ (λ i. all_below 3 (λ b. eqb b a || fixed_overlap-sym k b u v i)) (or_comm (rule2 p k a v u) (rule2 p k a u v))
asks-converse p k (suc zero) a u v = refl
asks-converse p k (suc (suc x)) a u v = refl

module _ (p : Problem) (limited : p.items ≤ 10) (k : Domains) (long : length k ≡ 135) where
  kept-bit : (y : ℕ) → y < 3 → (c : Slot) (m : ℕ) → bit y (kept_if true p k c m) ≡ (bit y m && not (asks p k y c.axis c.u c.v))
  unfolding asks
  kept-bit zero h c m = overlap_bit-of _ _ _
  kept-bit (suc zero) h c m = before_bit-of _ _ _
  kept-bit (suc (suc zero)) h c m = after_bit-of _ _ _
  kept-bit (suc (suc (suc y))) h c m = absurd (omega arith)

  left-pass-up : (x a u v : ℕ) → x < 3 → Rising p.items a u v → left (pass p k) x a u v ≡ (left k x a u v && not (asks p k x a u v))
  unfolding kept
  left-pass-up x a u v h r =
      let e : min x 2 ≡ x = omega arith in
      let w : Rising 10 a u v = omega arith in
      rw (
        left_up (pass p k) x a r.rising,
        left_up k x a r.rising,
        pass-at p k long (index a u v) (index-small w),
        slot_of-index w,
        lt-ltb v p.items r.item,
        e,
      ) (kept-bit x h _ _)

  pub left-pass : (x a u v : ℕ) → x < 3 → Proper p.items a u v → left (pass p k) x a u v ≡ (left k x a u v && not (asks p k x a u v))
  left-pass x a u v h w = elim (lt_or_gt u v w.distinct) [
    | inl l ↦ left-pass-up x a u v h (omega arith)
    | inr l ↦ rw (← left-converse (pass p k) x a u v, ← left-converse k x a u v, ← asks-converse p k x a u v)
        (left-pass-up (converse x) a v u (converse-small x) (omega arith))
  ]

  -- where a pass changes nothing, no rule asks for a relation that is left
  pub rests_at-rest : pass p k ≡ k → AtRest p k
  rests_at-rest e = record {
    done = λ x a u v h w d.
        let q : left k x a u v ≡ false = ap (λ (j : Domains). left j x a u v) (sym e) ∙ (left-pass x a u v h w ∙ rw d (and-false (left k x a u v))) in
        gone-is k x a u v ∙ ap not q;
  }

-- of a pair that is not of the problem a pass leaves all
pub pass-past : (p : Problem) (k : Domains) → length k ≡ 135 → {a u v : ℕ} → Proper 10 a u v → (max u v < p.items → ⊥)
    → get_or (pass p k) (index_of a u v) 0 ≡ get_or k (index_of a u v) 0
unfolding kept index_of
pass-past p k long {a} {u} {v} s past =
    let w : Rising 10 a (min u v) (max u v) = omega arith in
    pass-at p k long (index_of a u v) (index-small w) ∙ rw (slot_of-index w, le-ltb (max u v) p.items (omega arith))

-- and where no rule asks for a relation that is left, a pass changes nothing
and_not_keep : (b c : Bool) → (c ≡ true → b ≡ false) → (b && not c) ≡ b
and_not_keep b true h = and-false b ∙ sym (h refl)
and_not_keep b false h = and-true b

module _ (p : Problem) (k : Domains) (w : WellFormed k) (rest : AtRest p k) where
  keeps : (i : ℕ) → i < 135 → (b : Bool) → ltb (slot_at i).v p.items ≡ b → kept_if b p k (slot_at i) (get_or k i 0) ≡ get_or k i 0
  unfolding asks
  keeps i h true e = cc (cut 0 (omega arith), cut 1 (omega arith), cut 2 (omega arith), domain-bits _ (w.small i))
    where
      cut : (y : ℕ) → y < 3 → (bit y (get_or k i 0) && not (asks p k y (slot_at i).axis (slot_at i).u (slot_at i).v)) ≡ bit y (get_or k i 0)
      cut y l = and_not_keep _ _ (λ d.
          let c = slot_at i in
          let (r, at) = slot_indexed i h in
          let q : min y 2 ≡ y = omega arith in
          let s : Proper p.items c.axis c.u c.v = omega (arith, ltb-true c.v p.items e) in
          rw (q, at) at (sym (left_up k y c.axis r.rising) ∙ not-true _ (sym (gone-is k y c.axis c.u c.v) ∙ rest.done y _ _ _ l s d)))
  keeps i h false e = refl

  pub at-rest_rests : pass p k ≡ k
  unfolding kept
  at-rest_rests =
      ext_get_or 0 (pass p k) k (pass-length p k) (λ i h. let l : i < 135 = omega (arith, pass-length p k, w.long) in
      pass-at p k w.long i l ∙ keeps i l _ refl)
