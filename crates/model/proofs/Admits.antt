-- Removals that a packing does not mind: a relation that it does not realise may go. So the opening domains admit every feasible packing.
use Rattle.std.specs.Prelude.{◌∷◌, ◌≡◌, ◌<◌}
use Rattle.prelude.specs.Names.{true, false, not, List, [], Mem, mem-head, mem-tail, refl, ◌∙◌, ap, ℕ, zero, suc}
use Rattle.prelude.specs.Names.{compare, arith, get_or-eq_default, dec_lt}
use lib.ListN.{get_or-replicate}
use Rattle.model.specs.Problem.{Problem, Precedence, Positions, EndsBefore, Feasible, time}
use Rattle.model.specs.Domains.{Domains, overlap_bit, before_bit, after_bit, index_of, bit, converse, place, gone, without, remove_before}
use Rattle.model.specs.Domains.{fix_before, fix_overlap, full_domains}
use Rattle.model.specs.Branching.{fix_precedences, opening_domains}
use Rattle.model.specs.Order.{Proper, WellFormed}
use Rattle.model.specs.Admits.{Sound, Overlaps, Realises, Admits}
use Rattle.model.proofs.Below.{past_three}
use Rattle.model.proofs.Slots.{proper-sym, proper-wide, index_of-small}
use Rattle.model.proofs.Domains.{gone-is}
use Rattle.model.proofs.Without.{without-well_formed, without_other, fix_before-well_formed}
use Rattle.model.proofs.Ends.{ends_asym}
use Rattle.model.proofs.Gap.{order_before}

-- seen from the other item, the packing realises the converse
realises_converse : (p : Problem) (q : Positions) (x a u v : ℕ) → Realises p q (converse x) a v u → Realises p q x a u v
unfolding Overlaps
realises_converse p q zero a u v = λ h. (h.1, h.0)
realises_converse p q (suc zero) a u v = λ h. h
realises_converse p q (suc (suc x)) a u v = λ h. h

module _ (p : Problem) (sound : Sound p) (q : Positions) (k : Domains) (w : WellFormed k) (admits : Admits p k q) where
  pub without_admits : {a u v : ℕ} (x : ℕ) → x < 3 → Proper p.items a u v → (Realises p q x a u v → ⊥) → Admits p (without k x a u v) q
  without_admits {a} {u} {v} x hx s f = record {
    realised = λ y b c d hy t h.
        without_other k x y hx hy w (wide s) (wide t)
        (record { near = λ e i m n. f (rw (← e, ← i, ← m, ← n) h); far = λ e i m n. f (realises_converse p q x a u v (rw (← e, ← i, ← m, ← n) h)) })
        ∙ admits.realised y b c d hy t h;
  }
    where
      wide : {b c d : ℕ} → Proper p.items b c d → Proper 10 b c d
      wide = proper-wide (omega (arith, sound.limited))

pub not_both : (p : Problem) → Sound p → (q : Positions) {a u v : ℕ} → Proper p.items a u v → EndsBefore p q a u v → EndsBefore p q a v u → ⊥
not_both p sound q {a} {u} {v} s = ends_asym p q a u v (sound.positive a v s.axis s.item_v)

-- A packing in which u ends before v, and one in which they overlap
module _ (p : Problem) (sound : Sound p) (q : Positions) (k : Domains) (w : WellFormed k) (admits : Admits p k q)
    {a u v : ℕ} (s : Proper p.items a u v) where
  -- "v before u" removed, and another relation that it does not realise
  both_admit : (x : ℕ) → x < 3 → (EndsBefore p q a v u → ⊥) → (Realises p q x a u v → ⊥) → Admits p (without (remove_before k a v u) x a u v) q
  unfolding without
  both_admit x hx f g =
      without_admits p sound q (remove_before k a v u) (without-well_formed k 1 a v u w)
      (without_admits p sound q k w admits 1 (omega arith) (proper-sym s) f) x hx s g

  pub fix_before_admits : EndsBefore p q a u v → Admits p (fix_before k a u v) q
  unfolding fix_before Overlaps without
  fix_before_admits h = both_admit 0 (omega arith) (not_both p sound q s h) (λ o. o.0 h)

  pub fix_overlap_admits : Overlaps p q a u v → Admits p (fix_overlap k a u v) q
  unfolding fix_overlap Overlaps without
  fix_overlap_admits h = both_admit 1 (omega arith) h.1 h.0

-- Full domains are well formed and admit everything
pub full_well_formed : WellFormed full_domains
full_well_formed = record {
  long = refl;
  small = λ i. elim (dec_lt i 135) [
    | yes l ↦ rw get_or-replicate (omega arith)
    | no g ↦ rw (get_or-eq_default full_domains 0 {n = i} (omega arith)) (omega arith)
  ];
}

full_bits : (y : ℕ) → bit y 7 ≡ true
unfolding overlap_bit before_bit after_bit
full_bits = past_three (λ y. bit y 7 ≡ true) refl refl refl (λ y. refl)

pub full_left : (x : ℕ) {a u v : ℕ} → Proper 10 a u v → gone full_domains x a u v ≡ false
full_left x {a} {u} {v} s =
    gone-is full_domains x a u v
    ∙ ap not (ap (bit (place (compare u v) x)) (get_or-replicate 135 (index_of a u v) 7 0 (index_of-small s)) ∙ full_bits (place (compare u v) x))

-- what each precedence keeps all keep
pub precedences_keep : (P : Domains → Type 0) (l : List Precedence) (k : Domains) → P k
    → ((o : Precedence) → Mem o l → (j : Domains) → P j → P (fix_before j time o.predecessor o.successor)) → P (fix_precedences l k)
precedences_keep P [] k h keep = h
precedences_keep P (o ∷ l) k h keep = precedences_keep P l _ (keep o (mem-head refl) k h) (λ x m. keep x (mem-tail m))

pub opening-well_formed : (p : Problem) → WellFormed (opening_domains p)
unfolding opening_domains
opening-well_formed p = precedences_keep WellFormed p.precedences full_domains full_well_formed (λ o m j. fix_before-well_formed j time _ _)

-- the opening domains admit every feasible packing
pub opening_admits : (p : Problem) → Sound p → (q : Positions) → Feasible p q → Admits p (opening_domains p) q
unfolding opening_domains
opening_admits p sound q feasible =
    (precedences_keep (λ k. WellFormed k × Admits p k q) p.precedences full_domains
    (full_well_formed, record { realised = λ x a u v hx s h. full_left x (proper-wide (omega (arith, sound.limited)) s) })
    (λ o m j (w, α). (
      fix_before-well_formed j time _ _ w,
      fix_before_admits p sound q j w α (sound.named o m)
          (order_before p q _ _ _ (feasible.ordered o m)),
    ))).1
