-- The clearance's answer: refused exactly for the table's conditions, and else the clearance.
use Rattle.std.specs.Prelude.{◌⊎◌, ◌↔◌, ◌≡◌, ◌<◌, Result}
use Rattle.prelude.specs.Names.{Bool, true, false, false≢true, and-false, inl, inr, refl, sym, ◌∙◌, subst, ℕ, dec_lt, arith, ℤ}
use Rattle.prelude.specs.Names.{lt-ltb, le-ltb}
use Rattle.model.proofs.Below.{test_false}
use Rattle.instance.specs.declared.Instance.{Instance}
use Rattle.instance.specs.declared.Packing.{Packing}
use Rattle.instance.specs.Valid.{valid}
use Rattle.instance.specs.Meaning.{positions_of}
use Rattle.turning.specs.Turned.{marks_allowed, MarksAllowed}
use Rattle.turning.proofs.Marks.{marks_exactly}
use Rattle.refusal.specs.declared.Refusal.{Refusal}
use Rattle.packing.specs.Check.{turned_by}
use Rattle.packing.specs.Clearance.{clearance_between, clearance_answer, clearance_values, ClearanceFault, Answers}

module _ (i : Instance) (q : Packing) (u v a : ℕ) where
  abbrev n : ℕ
  n = i.item_count

  -- what holds where these values are returned
  abbrev Grounds : ℤ ⊎ (ℕ × ℕ) → Type 0
  Grounds (inl z) =
      (valid i ≡ true) × (u < n) × (v < n) × (a < 3) × MarksAllowed i q.marks
      × (z ≡ clearance_between (turned_by i q) (positions_of q) a u v)
  Grounds (inr (m, place)) = ClearanceFault i q u v a m × (place ≡ 0)

  grounds : (b : Bool) → valid i ≡ b → Dec (u < n) → Dec (v < n) → Dec (a < 3) → (m : Bool) → marks_allowed i q.marks ≡ m
      → Grounds (clearance_values (clearance_answer i q u v a))
  unfolding clearance_answer
  grounds false w hu hv l m t = rw w (ClearanceFault.nine w refl, refl)
  grounds true w (no h) hv l m t = rw (w, le-ltb u n (omega arith)) (ClearanceFault.five w (inl (omega arith)) refl, refl)
  grounds true w (yes hu) (no h) l m t = rw (w, le-ltb v n (omega arith), and-false) (ClearanceFault.five w (inr (omega arith)) refl, refl)
  grounds true w (yes hu) (yes hv) (no l) m t =
      rw (w, lt-ltb u n hu, lt-ltb v n hv, le-ltb a 3 (omega arith)) (ClearanceFault.eight w hu hv (omega arith) refl, refl)
  grounds true w (yes hu) (yes hv) (yes l) false t =
      rw (w, lt-ltb u n hu, lt-ltb v n hv, lt-ltb a 3 l, t)
      (ClearanceFault.thirteen w hu hv l (λ g. false≢true (sym t ∙ (marks_exactly i q.marks).1 g)) refl, refl)
  grounds true w (yes hu) (yes hv) (yes l) true t =
      rw (w, lt-ltb u n hu, lt-ltb v n hv, lt-ltb a 3 l, t) (w, hu, hv, l, (marks_exactly i q.marks).0 t, refl)

  from_grounds : (x : ℤ ⊎ (ℕ × ℕ)) → Grounds x → clearance_values (clearance_answer i q u v a) ≡ x
  unfolding clearance_answer
  from_grounds (inl y) (w, lu, lv, l, g, k) = rw (w, lt-ltb u n lu, lt-ltb v n lv, lt-ltb a 3 l, (marks_exactly i q.marks).1 g, k)
  from_grounds (inr (m, place)) (ClearanceFault.nine w k, z) = rw (w, k, z)
  from_grounds (inr (m, place)) (ClearanceFault.five w (inl h) k, z) = rw (w, le-ltb u n h, k, z)
  from_grounds (inr (m, place)) (ClearanceFault.five w (inr h) k, z) = rw (w, le-ltb v n h, and-false, k, z)
  from_grounds (inr (m, place)) (ClearanceFault.eight w lu lv l k, z) = rw (w, lt-ltb u n lu, lt-ltb v n lv, le-ltb a 3 l, k, z)
  from_grounds (inr (m, place)) (ClearanceFault.thirteen w lu lv l g k, z) =
      let t : marks_allowed i q.marks ≡ false = test_false _ (marks_exactly i q.marks) g in
      rw (w, lt-ltb u n lu, lt-ltb v n lv, lt-ltb a 3 l, t, k, z)

  exactly : (x : ℤ ⊎ (ℕ × ℕ)) → (clearance_values (clearance_answer i q u v a) ≡ x) ↔ Grounds x
  exactly x = ((λ k. subst Grounds k (grounds (valid i) refl (dec_lt u n) (dec_lt v n) (dec_lt a 3) (marks_allowed i q.marks) refl)), from_grounds x)

  pub answers : Answers i q u v a (clearance_answer i q u v a)
  answers = record { refused = λ m place. exactly (inr (m, place)); value = λ z. exactly (inl z) }

  -- of what the clearance answers
  pub answers_by : (r : Result ℤ Refusal) → r ≡ clearance_answer i q u v a → Answers i q u v a r
  answers_by r e = subst (Answers i q u v a) (sym e) answers
