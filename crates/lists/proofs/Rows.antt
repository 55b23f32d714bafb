-- Laws of a row of parts that is read one after the other into an array with blank entries. A part may be held in another form than it is read.
use Rattle.std.specs.Prelude.{◌≡◌, ◌∷◌, ◌++◌, ◌+◌, ◌-◌, ◌≤◌, ◌<◌}
use Rattle.prelude.specs.Names.{refl, ◌∙◌, List, [], map, append_assoc, append-nil, ℕ, suc, arith, sub-zero}
use Rattle.prelude.specs.Names.{length, set, take, replicate, length-append, take_at}
use lib.Seq.{set-append_seam, append_snoc}
use Rattle.refusal.specs.declared.Refusal.{Refusal}
use Rattle.formats.specs.Reading.{Read, got, refused, run, read_as}
use Rattle.formats.specs.Formats.{Format, Test, tested, row_reading}
use Rattle.formats.proofs.Run.{after, run-then, read_as-got, read_as-refused}
use Rattle.lists.specs.Lists.{padded, Padded}

-- an entry after the first ones, before the blanks
pub padded-next : {A : Type 0} (room : ℕ) (blank : A) (xs : List A) (x : A) → length xs < room
    → set (padded room blank xs) (length xs) x ≡ padded room blank (xs ++ (x ∷ []))
padded-next room blank xs x l =
    let k : room - length xs ≡ suc (room - (length xs + 1)) = omega arith in rw (k, set-append_seam, append_snoc, length-append)

-- what is held as it is read
pub read_same : {A : Type 0} (r : Read A) → read_as (λ x. x) r ≡ r
read_same (got x at rest) = refl
read_same (refused e) = refl

map_same : {A : Type 0} (l : List A) → map (λ x. x) l ≡ l
map_same [] = refl
map_same (x ∷ l) = rw (map_same l)

pub row_same : {A : Type 0} (r : Read (List A)) → read_as (map (λ x. x)) r ≡ r
row_same (got l at rest) = rw map_same
row_same (refused e) = refl

-- what was read before, and then the rest of the row: one part more
one_more : {A B : Type 0} (hold : A → B) (ys : List B) (x : A) (r : Read (List A))
    → read_as (λ xs. ys ++ map hold xs) (after r (λ xs at rest. got (x ∷ xs) at rest)) ≡ read_as (λ xs. (ys ++ (hold x ∷ [])) ++ map hold xs) r
one_more hold ys x (got xs at rest) = rw append_assoc
one_more hold ys x (refused e) = refl

-- Part of a row of n parts has been read, from the bytes s₀ at the place at₀ on and from the state `start`: the first i parts are held in ys, whose
-- other entries are blank, and what is left of the row is read in the state p, from the bytes s at the place `at`.
pub record Along {P A B : Type 0} (part : Format A) (tests : P → A → List Test) (hold : A → B) (next : P → B → P) (start : P) (room : ℕ) (blank : B)
    (n at₀ : ℕ) (s₀ : List ℕ) (p : P) (ys : List B) (i at : ℕ) (s : List ℕ) : Type 0 where
  pub parts : List B
  pub stored : ys ≡ padded room blank parts
  pub many : length parts ≡ i
  pub same : read_as (map hold) (run (row_reading part tests (λ p x. next p (hold x)) start n) at₀ s₀)
      ≡ read_as (λ xs. parts ++ map hold xs) (run (row_reading part tests (λ p x. next p (hold x)) p (n - i)) at s)

module _ {P A B : Type 0} {part : Format A} {tests : P → A → List Test} {hold : A → B} {next : P → B → P} {start : P} {room : ℕ} {blank : B}
    {n at₀ : ℕ} {s₀ : List ℕ} where
  pub along-start : {ys : List B} → ys ≡ replicate room blank → Along part tests hold next start room blank n at₀ s₀ start ys 0 at₀ s₀
  along-start e = record { parts = []; stored = rw sub-zero e; many = refl; same = rw sub-zero }

  module _ {p : P} {ys : List B} {i at : ℕ} {s : List ℕ} (α : Along part tests hold next start room blank n at₀ s₀ p ys i at s) where
    -- one part more is read and held after those so far, before the blanks
    pub along-next : n ≤ room → i < n → {y : B} {at₁ : ℕ} {s₁ : List ℕ} → read_as hold (run (tested part (tests p)).reading at s) ≡ got y at₁ s₁
        → Along part tests hold next start room blank n at₀ s₀ (next p y) (set ys i y) (i + 1) at₁ s₁
    unfolding row_reading run
    along-next fits l {y} e =
        let left : n - i ≡ suc (n - (i + 1)) = omega arith in
        let (x, was, q) = read_as-got hold (run (tested part (tests p)).reading at s) e in
        let few : length α.parts < room = omega (arith, α.many) in
        record {
          parts = α.parts ++ (y ∷ []);
          many = simp length-append (omega (arith, α.many));
          stored = rw (α.stored, ← α.many) (padded-next room blank α.parts y few);
          same = α.same ∙ rw (left, ← q) (simp (run-then, was, one_more));
        }

    -- the next part is refused, and so is the row
    pub along-refused : i < n → {e : Refusal} → read_as hold (run (tested part (tests p)).reading at s) ≡ refused e
        → read_as (map hold) (run (row_reading part tests (λ p x. next p (hold x)) start n) at₀ s₀) ≡ refused e
    unfolding row_reading run
    along-refused l {e} h =
        let left : n - i ≡ suc (n - (i + 1)) = omega arith in
        let was = (read_as-refused hold (run (tested part (tests p)).reading at s) e).0 h in
        α.same ∙ rw left (simp (run-then, was))

    -- the whole row is read
    pub along-done : n ≤ room → i ≡ n
        → (read_as (map hold) (run (row_reading part tests (λ p x. next p (hold x)) start n) at₀ s₀) ≡ got (take n ys) at s)
        × Padded room blank n ys
    unfolding row_reading run
    along-done fits e =
        let z : n - i ≡ 0 = omega arith in
        let entries : take n ys ≡ α.parts = rw α.stored (take_at α.parts _ n (α.many ∙ e)) in
        (α.same ∙ rw (z, entries, append-nil), record { few = fits; same = rw entries α.stored })
