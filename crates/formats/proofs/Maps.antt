-- The laws of fields by the bits of a map byte.
use Rattle.std.specs.Prelude.{◌≡◌, ◌||◌, ◌*◌, ◌/◌, ◌%◌, ◌≤◌, ◌<◌}
use Rattle.prelude.specs.Names.{refl, sym, ◌∙◌, Bool, true, false, not, cond, [], append_assoc, ℕ, arith}
use Rattle.prelude.specs.Names.{add-zero, add_assoc, eqb, leb, length-append, eqb-true, eqb-false, eq-eqb, leb-false, lt-leb, not-true}
use native.Mathlib.Nat.{div-one, div-div-eq-div-mul}
use Rattle.formats.specs.Reading.{run}
use Rattle.formats.specs.Formats.{byte, tested, passes_all, keyed}
use Rattle.formats.specs.Fields.{Optional, optional_reading, optional_bytes, optional_valid, flag, Fields, made, field, is_set, maps}
use Rattle.formats.specs.Fields.{fields_reading, fields_bytes, fields_valid, flags, fields, map_tests, map_byte, with_map}
use Rattle.formats.proofs.Run.{run-then}
use Rattle.formats.proofs.Laws.{ReadsBack, ReadsOnly, Lawful, lawful, reads_only, only_as, done_only, then_only, byte_lawful, tested_lawful}
use Rattle.formats.proofs.Laws.{keyed_lawful, both_true}

-- a field that may be left out: it is left out exactly for its default, which is never written
pub record OptionalLaws {A : Type 0} (o : Optional A) : Type 0 where
  pub lawful : Lawful o.written
  pub out : o.left_out o.default ≡ true
  pub only : (x : A) → o.left_out x ≡ true → o.default ≡ x
  pub apart : (x : A) → o.written.valid x ≡ true → o.left_out x ≡ false

module _ {A : Type 0} {o : Optional A} (φ : OptionalLaws o) where
  optional_back : (x : A) → optional_valid o x ≡ true → ReadsBack (optional_reading o (not (o.left_out x))) x (optional_bytes o x)
  unfolding optional_valid optional_bytes run
  optional_back x = (elim (o.left_out x) as (λ b. o.left_out x ≡ b → (b || o.written.valid x) ≡ true
      → ReadsBack (optional_reading o (not b)) x (cond b [] (o.written.bytes x)))
      [ true ↦ λ e v at rest. rw (add-zero, φ.only x e) | false ↦ λ e v. φ.lawful.written_read x v ]) refl

  -- by its bit
  optional_only : (present : Bool) → ReadsOnly (optional_reading o present)
      (λ x xs. (present ≡ not (o.left_out x)) × (optional_valid o x ≡ true) × (optional_bytes o x ≡ xs))
  unfolding optional_valid optional_bytes
  optional_only false = let l = φ.out in done_only (rw l, rw l, rw l)
  optional_only true = only_as (reads_only φ.lawful) (λ x xs (v, q). let l = φ.apart x v in (rw l, rw l v, rw l q))

-- the flag of a field that is left out where b holds: at most 1, and the last bit of n is this flag exactly where it is read as such
flag-bit : (b : Bool) (n : ℕ) → (cond b 0 1 ≤ 1) × (n % 2 ≡ cond b 0 1 → eqb (n % 2) 1 ≡ not b) × (eqb (n % 2) 1 ≡ not b → n % 2 ≡ cond b 0 1)
flag-bit true n = (omega arith, λ e. rw e, λ e. let d = eqb-false (n % 2) 1 e in omega arith)
flag-bit false n = (omega arith, λ e. rw e, eqb-true (n % 2) 1)

module _ {S : Type 0} where
  -- the fields of s make s
  abbrev pub Rebuilds : {n : ℕ} → Fields S n → S → Type 0
  Rebuilds (made s₀) s = s₀ ≡ s
  Rebuilds (field get o rest) s = Rebuilds (rest (get s)) s

  -- each field has its laws, and is found again in what is made, of which P holds too
  abbrev pub FieldsMake : {n : ℕ} → Fields S n → (S → Type 0) → Type 0
  FieldsMake (made s) P = P s
  FieldsMake (field {A = A} get o rest) P = OptionalLaws o × ((x : A) → FieldsMake (rest x) (λ s. P s × (get s ≡ x)))

  abbrev pub FieldsLaws : {n : ℕ} → Fields S n → Type 0
  FieldsLaws f = FieldsMake f (λ _. Unit {0})

  pub flags-small : {n : ℕ} (f : Fields S n) (s : S) → flags f s < maps n
  unfolding flags flag
  flags-small (made _) s = omega arith
  flags-small (field get o rest) s = omega (arith, (flag-bit (o.left_out (get s)) 0).0, flags-small (rest (get s)) s)

  fields_back : {n : ℕ} (f : Fields S n) (P : S → Type 0) → FieldsMake f P → (s : S) → Rebuilds f s → fields_valid f s ≡ true
      → (map weight : ℕ) → map / weight ≡ flags f s → ReadsBack (fields_reading f map weight) s (fields_bytes f s)
  unfolding fields_reading fields_bytes fields_valid flags flag run
  fields_back (made s₀) P φ s q v map weight m at rest = rw (q, add-zero)
  fields_back (field get o next) P (φ, ψ) s q v map weight m at rest =
      let (v₁, v₂) = both_true (optional_valid o (get s)) (fields_valid (next (get s)) s) v in
      let (small, set, _) = flag-bit (o.left_out (get s)) (map / weight) in
      let more : map / (weight * 2) ≡ flags (next (get s)) s = rw (← (div-div-eq-div-mul map weight 2)) (omega arith) in
      let back = fields_back (next (get s)) _ (ψ (get s)) s q v₂ map (weight * 2) more in
      simp (append_assoc, run-then, set (omega arith), optional_back φ (get s) v₁, back, length-append, add_assoc)

  -- fields that are read by the bits of a map from a weight on
  fields_only : {n : ℕ} (f : Fields S n) (P : S → Type 0) → FieldsMake f P → (map weight : ℕ) → map / weight < maps n
      → ReadsOnly (fields_reading f map weight) (λ s xs. P s × (flags f s ≡ map / weight) × (fields_valid f s ≡ true) × (fields_bytes f s ≡ xs))
  unfolding fields_reading fields_bytes fields_valid flags flag
  fields_only (made s) P p map weight l = done_only (p, omega arith, refl, refl)
  fields_only (field get o next) P (φ, ψ) map weight l =
      let d = div-div-eq-div-mul map weight 2 in
      then_only (optional_only φ (is_set map weight)) (λ x xs (bit, v, q). only_as
      (fields_only (next x) (λ s. P s × (get s ≡ x)) (ψ x) map (weight * 2) (rw (← d) (omega arith)))
      (λ s ys ((p, g), known, w, r). (p, rw g (omega (arith, (flag-bit (o.left_out x) (map / weight)).2 bit)), rw (g, v) w, rw (g, q, r))))

  fields_lawful : {n : ℕ} (f : Fields S n) → FieldsLaws f → ((s : S) → Rebuilds f s) → (map : ℕ) → map < maps n → Lawful (fields f map)
  unfolding fields
  fields_lawful f φ ρ map l = lawful
      (λ s v. let (v₁, v₂) = both_true (eqb (flags f s) map) (fields_valid f s) v in
      fields_back f _ φ s (ρ s) v₂ map 1 (div-one map ∙ sym (eqb-true _ _ v₁)))
      (only_as (fields_only f _ φ map 1 (rw div-one l)) (λ s xs (_, known, v, q). (rw (eq-eqb _ _ (known ∙ div-one map)) v, q)))

  -- a map byte and its fields
  pub with_map_lawful : {n : ℕ} (f : Fields S n) → FieldsLaws f → ((s : S) → Rebuilds f s) → Lawful (with_map f)
  unfolding with_map map_byte fields tested byte passes_all
  with_map_lawful {n} f φ ρ =
      keyed_lawful (tested_lawful byte_lawful (map_tests n))
      (λ map v. fields_lawful f φ ρ map (leb-false (maps n) map (not-true _ (both_true (not (leb (maps n) map)) true v).0)))
      (λ map s v. eqb-true _ _ (both_true (eqb (flags f s) map) (fields_valid f s) v).0)

  -- with a map byte the fields alone say what may be written: their bits always fit it
  pub with_map-valid : {n : ℕ} (f : Fields S n) (s : S) → (with_map f).valid s ≡ fields_valid f s
  unfolding with_map map_byte fields keyed tested byte passes_all
  with_map-valid {n} f s = rw (lt-leb (maps n) (flags f s) (flags-small f s), eq-eqb (flags f s) (flags f s) refl)
