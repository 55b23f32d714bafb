-- The laws of a format, and that each combinator keeps them.
use Rattle.std.specs.Prelude.{◌≡◌, ◌&&◌, ◌∷◌, ◌++◌, ◌+◌, ◌*◌, ◌/◌, ◌%◌, ◌<◌}
use Rattle.prelude.specs.Names.{refl, sym, ap, ◌∙◌, subst, Bool, true, false, not, false≢true, List, [], append_assoc}
use Rattle.prelude.specs.Names.{append-nil, ℕ, zero, suc, arith, add-zero, zero-add, add_assoc, length, length-append}
use Rattle.prelude.specs.Names.{get_or-append-add, not-true}
use Rattle.formats.specs.Reading.{Reading, done, due, end, ◌>>=◌, got, run, Bytes}
use Rattle.formats.specs.Formats.{Format, byte, word, presence, pair, converted, Test, testing, passes_all, tested, keyed, row_bytes, row_reading}
use Rattle.formats.specs.Formats.{row_valid, row, count, counted, whole}
use Rattle.formats.proofs.Run.{after_same, run-then, never_both, cond-got, after_got, run_length}

-- the bytes of a value read as that value, whatever comes after them
abbrev pub ReadsBack : {A : Type 0} → Reading A → A → List ℕ → Type 0
ReadsBack r x xs = (at : ℕ) (rest : List ℕ) → run r at (xs ++ rest) ≡ got x (at + length xs) rest

-- what was read is valid, and its bytes were there
pub record ReadFrom {A : Type 0} (f : Format A) (x : A) (rest rest' : List ℕ) : Type 0 where
  pub valid : f.valid x ≡ true
  pub same : rest ≡ f.bytes x ++ rest'

pub record Lawful {A : Type 0} (f : Format A) : Type 0 where
  pub written_read : (x : A) → f.valid x ≡ true → ReadsBack f.reading x (f.bytes x)
  pub read_written : (at : ℕ) (rest : List ℕ) {x : A} {at' : ℕ} {rest' : List ℕ} → Bytes rest → run f.reading at rest ≡ got x at' rest'
      → ReadFrom f x rest rest'

pub both_true : (a b : Bool) → (a && b) ≡ true → (a ≡ true) × (b ≡ true)
both_true true b h = (refl, h)
both_true false b h = absurd (false≢true h)

-- what comes after some bytes are bytes
pub bytes_after : (xs rest : List ℕ) → Bytes (xs ++ rest) → Bytes rest
bytes_after xs rest b i = rw get_or-append-add at (b (length xs + i))

-- whatever r reads of bytes, P holds of it and of the bytes that it took
pub record ReadsOnly {A : Type 0} (r : Reading A) (P : A → List ℕ → Type 0) : Type 0 where
  pub took : (at : ℕ) (rest : List ℕ) {x : A} {at' : ℕ} {rest' : List ℕ} → Bytes rest → run r at rest ≡ got x at' rest'
      → (xs : List ℕ) × (rest ≡ xs ++ rest') × P x xs

-- x may be written, as xs
abbrev pub Writes : {A : Type 0} → Format A → A → List ℕ → Type 0
Writes f x xs = (f.valid x ≡ true) × (f.bytes x ≡ xs)

-- the laws, from what reading takes
pub lawful : {A : Type 0} {f : Format A} → ((x : A) → f.valid x ≡ true → ReadsBack f.reading x (f.bytes x))
    → ReadsOnly f.reading (Writes f) → Lawful f
lawful back only = record {
  written_read = back;
  read_written = λ at rest b h.
      let (xs, e, (v, q)) = only.took at rest b h in record { valid = v; same = rw q e };
}

pub reads_only : {A : Type 0} {f : Format A} → Lawful f → ReadsOnly f.reading (Writes f)
reads_only φ = record { took = λ at rest b h. let s = φ.read_written at rest b h in (_, s.same, (s.valid, refl)) }

pub only_as : {A : Type 0} {r : Reading A} {P Q : A → List ℕ → Type 0} → ReadsOnly r P → ((x : A) (xs : List ℕ) → P x xs → Q x xs) → ReadsOnly r Q
only_as φ h = record { took = λ at rest b e. let (xs, q, p) = φ.took at rest b e in (xs, q, h _ xs p) }

-- what each way to go on takes
module _ {A : Type 0} {P : A → List ℕ → Type 0} where
  pub done_only : {x : A} → P x [] → ReadsOnly (done x) P
  unfolding run
  done_only {x} p = record { took = λ at rest {x = y} b h. let q : x ≡ y = cc in ([], cc, rw q at p) }

  due_only : {next : ℕ → Reading A} → ((b : ℕ) → b < 256 → ReadsOnly (next b) (λ x xs. P x (b ∷ xs))) → ReadsOnly (due next) P
  unfolding run
  due_only {next} h = record { took = go }
    where
      go : (at : ℕ) (rest : List ℕ) {x : A} {at' : ℕ} {rest' : List ℕ} → Bytes rest → run (due next) at rest ≡ got x at' rest'
          → (xs : List ℕ) × (rest ≡ xs ++ rest') × P x xs
      go at [] b e = absurd (never_both e)
      go at (y ∷ rest) b e = let (xs, q, p) = (h y (b 0)).took (at + 1) rest (λ i. b (suc i)) e in (y ∷ xs, ap (◌∷◌ y) q, p)

  pub then_only : {B : Type 0} {r : Reading B} {Q : B → List ℕ → Type 0} {k : B → Reading A} → ReadsOnly r Q
      → ((y : B) (ys : List ℕ) → Q y ys → ReadsOnly (k y) (λ x xs. P x (ys ++ xs))) → ReadsOnly (r >>= k) P
  then_only {r = r} φ ψ = record {
    took = λ at rest b h.
        let (y, place, left, was, then) = after_got (run r at rest) _ (rw run-then at h) in
        let (ys, e, q) = φ.took at rest b was in
        let (xs, f, p) = (ψ y ys q).took place left (bytes_after ys left (subst Bytes e b)) then in
        (ys ++ xs, rw (append_assoc, ← f) e, p);
  }

pub byte_lawful : Lawful byte
unfolding byte run
byte_lawful = lawful (λ x v at rest. refl) (due_only (λ b l. done_only (refl, refl)))

pub word_lawful : Lawful word
unfolding word run
word_lawful = lawful
    (λ v _ at rest. let e : v % 256 + 256 * (v / 256) ≡ v = omega arith in let p : at + 1 + 1 ≡ at + 2 = omega arith in rw (e, p))
    (due_only (λ y l. due_only (λ z m. done_only (
      refl,
      let p : (y + 256 * z) % 256 ≡ y = omega arith in let q : (y + 256 * z) / 256 ≡ z = omega arith in rw (p, q),
    ))))

pub presence_lawful : Lawful presence
unfolding presence run
presence_lawful = lawful (λ b v at rest. rw (v, add-zero)) (done_only (refl, refl))

pub pair_lawful : {A B : Type 0} {f : Format A} {g : Format B} → Lawful f → Lawful g → Lawful (pair f g)
unfolding pair run
pair_lawful {f = f} {g = g} φ γ = lawful
    (λ (x, y) v at rest. let (v₁, v₂) = both_true (f.valid x) (g.valid y) v in
    simp (append_assoc, run-then, φ.written_read x v₁, γ.written_read y v₂, length-append, add_assoc))
    (then_only (reads_only φ) (λ x xs (v, p). then_only (reads_only γ) (λ y ys (w, q). done_only (rw (v, w), simp (p, q, append-nil)))))

pub converted_lawful : {A B : Type 0} {f : Format A} → Lawful f → (to : A → B) (from : B → A)
    → ((y : B) → to (from y) ≡ y) → ((x : A) → from (to x) ≡ x) → Lawful (converted to from f)
unfolding converted run
converted_lawful {f = f} φ to from to-from from-to = lawful
    (λ y v at rest. simp (run-then, φ.written_read (from y) v, to-from y))
    (then_only (reads_only φ) (λ x xs (v, p). done_only (ap f.valid (from-to x) ∙ v, ap f.bytes (from-to x) ∙ p ∙ rw append-nil)))

-- tests give what is tested, if it passes them
testing-back : {A : Type 0} (ts : List Test) (p : ℕ) (x : A) (at : ℕ) (rest : List ℕ) → passes_all ts ≡ true → run (testing ts p x) at rest ≡ got x at rest
unfolding testing passes_all run
testing-back [] p x at rest h = refl
testing-back (t ∷ ts) p x at rest h =
    let (a, b) = both_true (not t.fault) (passes_all ts) h in
    rw (not-true t.fault a) (testing-back ts p x at rest b)

testing_only : {A : Type 0} {P : A → List ℕ → Type 0} (ts : List Test) (p : ℕ) (x : A) → (passes_all ts ≡ true → P x []) → ReadsOnly (testing ts p x) P
unfolding testing passes_all run
testing_only [] p x h = done_only (h refl)
testing_only {P = P} (t ∷ ts) p x h = record {
  took = λ at rest b e.
      let (a, k) = cond-got t.fault _ _ e in (testing_only {P = P} ts p x (λ u. h (rw (a, u)))).took at rest b k;
}

pub tested_lawful : {A : Type 0} {f : Format A} → Lawful f → (tests : A → List Test) → Lawful (tested f tests)
unfolding tested run
tested_lawful {f = f} φ tests = lawful
    (λ x v at rest. let (v₁, v₂) = both_true (f.valid x) (passes_all (tests x)) v in simp (run-then, φ.written_read x v₁, testing-back))
    (record {
      took = λ at. (then_only {k = λ x. testing (tests x) at x} (reads_only φ)
          (λ x xs (v, p). testing_only (tests x) at x (λ u. (rw (v, u), simp (p, append-nil))))).took at;
    })

pub keyed_lawful : {K A : Type 0} {f : Format K} {key : A → K} {g : K → Format A} → Lawful f → ((k : K) → f.valid k ≡ true → Lawful (g k))
    → ((k : K) (x : A) → (g k).valid x ≡ true → key x ≡ k) → Lawful (keyed f key g)
unfolding keyed
keyed_lawful {f = f} {key = key} {g = g} φ γ shown = lawful
    (λ x v at rest. let (v₁, v₂) = both_true (f.valid (key x)) ((g (key x)).valid x) v in
    simp (append_assoc, run-then, φ.written_read (key x) v₁, (γ (key x) v₁).written_read x v₂, length-append, add_assoc))
    (then_only (reads_only φ) (λ k xs (v, p).
    only_as (reads_only (γ k v)) (λ x ys (w, q). let s = shown k x w in (rw (s, v) w, rw (s, p, q)))))

module _ {P A : Type 0} (part : Format A) (tests : P → A → List Test) (next : P → A → P) (φ : Lawful part) where
  row_back : (p : P) (n : ℕ) (xs : List A) → row_valid part tests next p n xs ≡ true
      → ReadsBack (row_reading part tests next p n) xs (row_bytes part.bytes xs)
  unfolding row_valid row_reading row_bytes run
  row_back p zero [] v at rest = rw add-zero
  row_back p (suc n) [] v at rest = absurd (false≢true v)
  row_back p zero (x ∷ xs) v at rest = absurd (false≢true v)
  row_back p (suc n) (x ∷ xs) v at rest =
      let (v₁, v₂) = both_true ((tested part (tests p)).valid x) (row_valid part tests next (next p x) n xs) v in
      let w : ReadsBack (tested part (tests p)).reading x (part.bytes x) = unfold tested in (tested_lawful φ (tests p)).written_read x v₁ in
      simp (append_assoc, run-then, w, row_back (next p x) n xs v₂, length-append, add_assoc)

  row_only : (p : P) (n : ℕ) → ReadsOnly (row_reading part tests next p n) (Writes (row part tests next p n))
  unfolding row row_valid row_reading row_bytes tested
  row_only p zero = done_only (refl, refl)
  row_only p (suc n) =
      then_only (reads_only (tested_lawful φ (tests p))) (λ x xs (v, q).
      then_only (row_only (next p x) n) (λ y ys (w, r). done_only (rw (v, w), simp (q, r, append-nil))))

  row-shown : (p : P) (n : ℕ) (xs : List A) → (row part tests next p n).valid xs ≡ true → length xs ≡ n
  unfolding row row_valid
  row-shown p zero [] v = refl
  row-shown p (suc n) [] v = absurd (false≢true v)
  row-shown p zero (x ∷ xs) v = absurd (false≢true v)
  row-shown p (suc n) (x ∷ xs) v = ap suc (row-shown (next p x) n xs (both_true ((tested part (tests p)).valid x) _ v).1)

  pub row_lawful : (p : P) (n : ℕ) → Lawful (row part tests next p n)
  unfolding row
  row_lawful p n = lawful (row_back p n) (row_only p n)

  pub counted_lawful : (p : P) (limit : ℕ) → Lawful (counted part tests next p limit)
  unfolding counted count
  counted_lawful p limit = keyed_lawful (tested_lawful byte_lawful _) (λ n _. row_lawful p n) (row-shown p)

-- a part that is not tested is read as it is
pub untested : {A : Type 0} (f : Format A) (at : ℕ) (rest : List ℕ) → run (tested f (λ _. [])).reading at rest ≡ run f.reading at rest
unfolding tested testing run
untested f at rest = rw (run-then, after_same)

-- The whole input.
-- a reading of it is that of its format, up to its end
whole-got : {A : Type 0} (f : Format A) (s : List ℕ) {x : A} {at : ℕ} {rest : List ℕ} → run (whole f) 0 s ≡ got x at rest
    → (run f.reading 0 s ≡ got x at []) × (rest ≡ [])
unfolding whole run
whole-got {A} f s {x} {at} {rest} h = let (y, p, left, was, then) = after_got (run f.reading 0 s) _ (rw run-then at h) in ended left was then
  where
    ended : {y : A} {p : ℕ} (left : List ℕ) → run f.reading 0 s ≡ got y p left → run (end (done y)) p left ≡ got x at rest
        → (run f.reading 0 s ≡ got x at []) × (rest ≡ [])
    ended [] w e = (cc, cc)
    ended (b ∷ left) w e = absurd (never_both e)

-- it is at its end, with nothing left
pub whole_ends : {A : Type 0} (f : Format A) (s : List ℕ) {x : A} {at : ℕ} {rest : List ℕ} → run (whole f) 0 s ≡ got x at rest → (at ≡ length s) × (rest ≡ [])
whole_ends f s h = let (k, none) = whole-got f s h in (omega (arith, run_length f.reading 0 s k), none)

module _ {A : Type 0} {f : Format A} (φ : Lawful f) where
  -- "A written sheet reads back as the same sheet"
  pub whole-written_read : (x : A) → f.valid x ≡ true → run (whole f) 0 (f.bytes x) ≡ got x (length (f.bytes x)) []
  unfolding whole run
  whole-written_read x v = let e = rw append-nil at (φ.written_read x v 0 []) in simp (run-then, e, zero-add)

  -- "bytes that read as a sheet are written again as those bytes"
  pub whole_read_written : (s : List ℕ) {x : A} {at : ℕ} {rest : List ℕ} → Bytes s → run (whole f) 0 s ≡ got x at rest → (f.bytes x ≡ s) × (f.valid x ≡ true)
  whole_read_written s b h = let t = φ.read_written 0 s b (whole-got f s h).0 in (sym (t.same ∙ append-nil _), t.valid)
