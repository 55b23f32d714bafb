-- A sheet reads as an instance, to the end of its bytes, or is refused: what reading returns.
use Rattle.std.specs.Prelude.{◌↔◌, ◌⊎◌, ◌≡◌, Result, Ok, Err}
use Rattle.prelude.specs.Names.{List, [], iff_refl, inl, inr, refl, sym, ap, ◌∙◌, ℕ, arith, length}
use Rattle.refusal.specs.declared.Refusal.{Refusal}
use Rattle.refusal.specs.Numbers.{number_of, place_of}
use Rattle.formats.specs.Reading.{Read, got, refused}
use Rattle.formats.proofs.Run.{read_as-refused}
use Rattle.formats.proofs.Laws.{whole_ends}
use Rattle.sheet.specs.Faults.{Fault, FirstFault}
use Rattle.sheet.specs.Sheet.{sheet}
use Rattle.sheet.specs.Contents.{sheet_at}
use Rattle.sheet.proofs.Faults.{refused-first, faultless_got, faultless_reads}
use Rattle.instance.specs.declared.Instance.{Instance}
use Rattle.instance.specs.Sheets.{instance_of, decode}
use Rattle.instance.specs.Answers.{read_result, read_values}
use Rattle.instance.specs.Reads.{Reads}
use Rattle.instance.proofs.RoundTrips.{read_sheet}

-- a reading that was answered "read"
pub record WasRead (r : Read Instance) (i : Instance) : Type 0 where
  pub place : ℕ
  pub left : List ℕ
  pub was : r ≡ got i place left

pub was_read : (r : Read Instance) (result : Result Instance Refusal) {i : Instance} → result ≡ read_result r → result ≡ Ok i → WasRead r i
was_read (got j at rest) result {i} e h = let q : j ≡ i = cc in record { place = at; left = rest; was = rw q }
was_read (refused e') result e h = cc

pub was_refused : (r : Read Instance) (result : Result Instance Refusal) {e : Refusal} → result ≡ read_result r → result ≡ Err e → r ≡ refused e
was_refused (got i at rest) result q h = cc
was_refused (refused e) result q h = cc

module _ (s : List ℕ) {i : Instance} {at : ℕ} {rest : List ℕ} (h : decode s ≡ got i at rest) where
  -- whatever reading leaves, it is at the end of the bytes with none left
  pub reads_whole : decode s ≡ got i (length s) []
  reads_whole = let (p, l) = whole_ends sheet s (read_sheet s h).1 in rw (← p, ← l) h

  abbrev pub reads_as : Reads s
  reads_as = record { instance = i; reads = reads_whole }

pub read_or_refused : (s : List ℕ) → Reads s ⊎ ((e : Refusal) × (decode s ≡ refused e))
read_or_refused s = go (decode s) refl
  where
    go : (r : Read Instance) → decode s ≡ r → Reads s ⊎ ((e : Refusal) × (decode s ≡ refused e))
    go (got i at rest) h = inl (reads_as s h)
    go (refused e) h = inr (e, h)

-- 1 to 7, 11 and 12: reading refuses exactly the first fault of the table
pub decode_refuses : (s : List ℕ) (e : Refusal) → (decode s ≡ refused e) ↔ FirstFault s e
unfolding decode
decode_refuses s e = simp (read_as-refused, refused-first) iff_refl

-- a reading by its values
value-got : (r : Read Instance) {i : Instance} → read_values (read_result r) ≡ inl i → WasRead r i
value-got (got j at rest) {i} k = let q : j ≡ i = cc in record { place = at; left = rest; was = rw q }
value-got (refused e) k = let z : ◌≡◌ {A = ℕ} 0 1 = cc in absurd (omega arith)

value-refused : (r : Read Instance) {n place : ℕ} → read_values (read_result r) ≡ inr (n, place)
    → (e : Refusal) × (r ≡ refused e) × (n ≡ number_of e) × (place ≡ place_of e)
value-refused (got i at rest) k = let z : ◌≡◌ {A = ℕ} 0 1 = cc in absurd (omega arith)
value-refused (refused e) {n} {place} k =
    let q : ◌≡◌ {A = ℕ × ℕ} (n, place) (number_of e, place_of e) = cc in
    (e, refl, ap (λ (p : ℕ × ℕ). p.0) q, ap (λ (p : ℕ × ℕ). p.1) q)

-- What reading returns: the instance that the sheet reads as, or the refusal.
module _ (s : List ℕ) where
  pub read_reads : (i : Instance) → read_values (read_result (decode s)) ≡ inl i → decode s ≡ got i (length s) []
  read_reads i k = reads_whole s (value-got (decode s) k).was

  -- number and place of the first fault
  pub read_refuses : (n place : ℕ) → (read_values (read_result (decode s)) ≡ inr (n, place))
      ↔ ((e : Refusal) × FirstFault s e × (n ≡ number_of e) × (place ≡ place_of e))
  read_refuses n place = (
    (λ k. let (e, h, p, q) = value-refused (decode s) k in (e, (decode_refuses s e).0 h, p, q)),
    (λ (e, f, p, q). rw ((decode_refuses s e).1 f, p, q)),
  )

  -- the instance that the bytes say, where there is no fault
  pub read_answers : (i : Instance) → (read_values (read_result (decode s)) ≡ inl i)
      ↔ (((e : Refusal) → Fault s e → ⊥) × (i ≡ instance_of (sheet_at s)))
  unfolding decode
  read_answers i = (
    (λ k.
        let (x, h, e) = read_sheet s (value-got (decode s) k).was in
        let (p, l) = whole_ends sheet s h in
        let none = (faultless_reads s).0 (x, cc (h, p, l)) in
        let q : x ≡ sheet_at s = cc (h, faultless_got s none) in
        (none, sym e ∙ ap instance_of q)),
    (λ (none, q). rw (faultless_got s none, q)),
  )
