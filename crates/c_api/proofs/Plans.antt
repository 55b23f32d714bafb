-- What check says of sheet and plan bytes, and that it says yes to the plan bytes of a packing that fits.
use Rattle.std.specs.Prelude.{◌↔◌, ◌⊎◌, ◌≡◌, ◌+◌, ◌*◌, ◌≤◌, ◌<◌}
use Rattle.prelude.specs.Names.{Bool, true, false, List, inl, inr, ⊎_elim, refl, sym, ap, ◌∙◌, ℕ, arith, length, get_or}
use Rattle.prelude.specs.Names.{eq-eqb, ne_eqb, eqb-true}
use Rattle.model.proofs.Below.{clash}
use Rattle.model.proofs.Turning.{marks-sound, turned_same}
use Rattle.model.specs.Admits.{Sound}
use Rattle.model.specs.Problem.{feasible}
use Rattle.model.specs.Turning.{Turnable, Plan, turned}
use Rattle.refusal.specs.Numbers.{number_of}
use Rattle.refusal.specs.declared.Refusal.{Refusal}
use Rattle.formats.specs.Reading.{Bytes}
use Rattle.sheet.specs.Faults.{FirstFault}
use Rattle.instance.proofs.RoundTrips.{read_valid, read_full}
use Rattle.instance.proofs.Readings.{read_or_refused, decode_refuses}
use Rattle.instance.specs.Meaning.{start, problem_of, positions_of}
use Rattle.instance.specs.Reads.{Reads}
use Rattle.instance.specs.Valid.{valid}
use Rattle.instance.specs.declared.Instance.{Instance}
use Rattle.instance.specs.declared.Packing.{Packing}
use Rattle.turning.proofs.Marks.{marks_exactly, marks_fit, fit_marks}
use Rattle.turning.proofs.Problems.{mark_back, mark_small}
use Rattle.turning.specs.Turned.{turnable_of, is_turned, mark_of, marks_in, plan_of, marks_allowed}
use Rattle.packing.specs.Check.{turned_by, check_answer, check_number, CheckFault}
use Rattle.opening.proofs.Sound.{valid-sound}
use Rattle.search.proofs.Claim.{mark_at}
use Rattle.search.specs.Results.{packing_of}
use Rattle.buffers.proofs.Bytes.{packing-length, positions-back, marks-back}
use Rattle.buffers.specs.Bytes.{packing_bytes, packing_in}
use Rattle.c_api.proofs.Tables.{refuses_by_table, served_by_table}
use Rattle.c_api.specs.Calls.{plan_fits, check_code}
use Rattle.c_api.specs.Faults.{CheckBytesFault}
use Rattle.c_api.specs.Plans.{Checkable, PlanFits}
use Rattle.model.proofs.Theorems as T
use Rattle.model.specs.Turning as M
use Rattle.packing.proofs.Decides as Decides
use Rattle.tree_search.proofs.Positions as P

-- A sheet has a first fault, or it reads as one instance, which is valid

pub fault_or_reads : (sheet : List ℕ) → ((e : Refusal) × FirstFault sheet e) ⊎ Reads sheet
fault_or_reads sheet = ⊎_elim inr (λ (e, d). inl (e, (decode_refuses sheet e).0 d)) (read_or_refused sheet)

pub reads_one : (sheet : List ℕ) (r s : Reads sheet) → r.instance ≡ s.instance
reads_one sheet r s = cc (r.reads, s.reads)

module _ (sheet : List ℕ) (bytes : Bytes sheet) (r : Reads sheet) where
  pub reads-valid : valid r.instance ≡ true
  reads-valid = read_valid sheet r.reads bytes

  pub reads-sound : Sound (turnable_of r.instance).given
  unfolding turnable_of
  reads-sound = valid-sound r.instance reads-valid (read_full sheet r.reads bytes).items_room

-- Check by the table: a fault's number, or yes or no

module _ (sheet plan : List ℕ) where
  abbrev code : ℕ
  code = check_code sheet plan

  abbrev Fault : ℕ → Type 0
  Fault n = CheckBytesFault sheet plan n

  -- plan bytes of the right length are checked as a packing
  abbrev packed : Packing
  packed = packing_in plan

  as_packing : (r : Reads sheet) → length plan ≡ 7 * r.instance.item_count → code ≡ check_number (check_answer r.instance packed)
  unfolding check_code
  as_packing r l = rw (r.reads, eq-eqb _ _ l)

  module _ (bytes : Bytes sheet) where
    fault-code : {n : ℕ} → Fault n → code ≡ 100 + n
    unfolding check_code
    fault-code (CheckBytesFault.unread e f k) = rw ((decode_refuses sheet e).1 f, k)
    fault-code (CheckBytesFault.eight r h k) = rw (r.reads, ne_eqb _ _ h, k)
    fault-code (CheckBytesFault.thirteen r l h k) =
        as_packing r l ∙ ((Decides.decides r.instance packed).refused _).1 (CheckFault.thirteen (reads-valid sheet bytes r) h k)

    -- there is a fault, or nothing is refused
    by_table : ((n : ℕ) × Fault n) ⊎ Checkable sheet plan
    by_table = ⊎_elim (λ (e, f). inl (number_of e, CheckBytesFault.unread e f refl)) (λ r. read r _ _ refl refl) (fault_or_reads sheet)
      where
        read : (r : Reads sheet) (b m : Bool) → plan_fits r.instance (length plan) ≡ b → marks_allowed r.instance packed.marks ≡ m
            → ((n : ℕ) × Fault n) ⊎ Checkable sheet plan
        read r false m h e = inl (8, CheckBytesFault.eight r (λ l. clash (eq-eqb _ _ l) h) refl)
        read r true false h e =
            inl (13, CheckBytesFault.thirteen r (eqb-true _ _ h) (λ g. clash ((marks_exactly r.instance packed.marks).1 g) e) refl)
        read r true true h e =
            inr (record { sheet_reads = r; plan_is = eqb-true _ _ h; marks_are = (marks_exactly r.instance packed.marks).0 e })

    -- where nothing is refused, the test of the plan with its marked pieces turned decides
    decided : (c : Checkable sheet plan) → (PlanFits c × (code ≡ 1)) ⊎ ((PlanFits c → ⊥) × (code ≡ 0))
    unfolding turnable_of
    decided c = go (feasible (turned_by i packed) (positions_of packed)) refl
      where
        i : Instance
        i = c.sheet_reads.instance

        v : valid i ≡ true
        v = reads-valid sheet bytes c.sheet_reads

        at : code ≡ check_number (check_answer i packed)
        at = as_packing c.sheet_reads c.plan_is

        go : (b : Bool) → feasible (turned_by i packed) (positions_of packed) ≡ b → (PlanFits c × (code ≡ 1)) ⊎ ((PlanFits c → ⊥) × (code ≡ 0))
        go true e =
            let f = (T.feasible_test _ _).0 e in
            inl (marks_fit i packed c.marks_are f, at ∙ (Decides.decides i packed).yes.1 (v, c.marks_are, f))
        go false e =
            inr (
              (λ f. clash ((T.feasible_test _ _).1 f.feasible) e),
              at ∙ (Decides.no_exactly i packed).1 (v, c.marks_are, λ f. clash ((T.feasible_test _ _).1 f) e),
            )

    small : Checkable sheet plan → code < 100
    small c = ⊎_elim (λ (f, k). omega arith) (λ (f, k). omega arith) (decided c)

    -- "nothing else is refused"
    pub check_refuses : (n : ℕ) → (code ≡ 100 + n) ↔ Fault n
    check_refuses = refuses_by_table code Fault by_table (λ n φ. fault-code φ) small

    abbrev served : {A : Type 0} → code < 100 → (Checkable sheet plan → A) → A
    served = served_by_table code Fault by_table (λ n φ. fault-code φ) small

    -- "Check returns 0 no, 1 yes": yes exactly when the plan fits
    pub yes_exactly : (code ≡ 1) ↔ ((c : Checkable sheet plan) × PlanFits c)
    yes_exactly = (
      (λ e. served (omega arith) (λ c. ⊎_elim (λ (f, k). (c, f)) (λ (f, k). absurd (omega arith)) (decided c))),
      (λ (c, f). ⊎_elim (λ (g, k). k) (λ (g, k). absurd (g f)) (decided c)),
    )

    pub no_exactly : (code ≡ 0) ↔ ((c : Checkable sheet plan) × (PlanFits c → ⊥))
    no_exactly = (
      (λ e. served (omega arith) (λ c. ⊎_elim (λ (f, k). absurd (omega arith)) (λ (f, k). (c, f)) (decided c))),
      (λ (c, f). ⊎_elim (λ (g, k). absurd (f g)) (λ (g, k). k) (decided c)),
    )

-- the plan bytes of a plan that fits get yes
module _ (sheet : List ℕ) (bytes : Bytes sheet) (r : Reads sheet) (q : Plan) where
  abbrev t : Turnable
  t = turnable_of r.instance

  abbrev n : ℕ
  n = r.instance.item_count

  abbrev value : Packing
  value = packing_of t q

  abbrev q_bytes : List ℕ
  q_bytes = packing_bytes n value

  sound : Sound t.given
  sound = reads-sound sheet bytes r

  few : n ≤ 10
  unfolding turnable_of problem_of
  few = sound.limited

  -- positions and marks come back from the plan bytes
  position_is : (a u : ℕ) → a < 3 → u < t.given.items → positions_of (packing_in q_bytes) a u ≡ q.positions a u
  unfolding positions_of packing_of turnable_of problem_of
  position_is a u la lu = ap (start a) (positions-back value u n lu few) ∙ P.positions-back t.given few q.positions a u la lu

  mark_is : (u : ℕ) → u < t.given.items → get_or (packing_in q_bytes).marks u 0 ≡ mark_of (q.marks u)
  unfolding turnable_of problem_of
  mark_is u h = marks-back value u n h few ∙ mark_at t sound q u h

  turned-is : (u : ℕ) → u < t.given.items → marks_in (packing_in q_bytes).marks u ≡ q.marks u
  turned-is u h = ap is_turned (mark_is u h) ∙ mark_back (q.marks u)

  small_mark : (u : ℕ) → u < n → get_or (packing_in q_bytes).marks u 0 ≤ 1
  unfolding turnable_of problem_of
  small_mark u h = rw (mark_is u h) (mark_small (q.marks u))

  fits_still : M.Fits t q → M.Fits t (plan_of (packing_in q_bytes))
  fits_still f = record {
    allowed = λ u h e. f.allowed u h (sym (turned-is u h) ∙ e);
    feasible = turned_same t.given sound q.marks (marks_in (packing_in q_bytes).marks) (λ u h. sym (turned-is u h)) (positions_of (packing_in q_bytes))
        (P.feasible-same (turned t.given q.marks) (marks-sound t.given q.marks sound) q.positions _ position_is f.feasible);
  }

  pub placed_checks : M.Fits (turnable_of r.instance) q → check_code sheet (packing_bytes n (packing_of (turnable_of r.instance) q)) ≡ 1
  placed_checks f = (yes_exactly sheet q_bytes bytes).1 (
    record { sheet_reads = r; plan_is = packing-length n value; marks_are = fit_marks r.instance (packing_in q_bytes) small_mark (fits_still f) },
    fits_still f,
  )
