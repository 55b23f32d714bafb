-- Laws of running a reading.
use Rattle.std.specs.Prelude.{◌≡◌, ◌∷◌, ◌↔◌, ◌+◌, ◌≤◌}
use Rattle.prelude.specs.Names.{refl, sym, ap, ◌∙◌, Bool, true, false, cond, List, [], ℕ, arith, length, drop}
use Rattle.prelude.specs.Names.{length-drop}
use Rattle.refusal.specs.declared.Refusal.{Refusal}
use Rattle.formats.specs.Reading.{Reading, done, due, at_place, refuse_if, end, ◌>>=◌, Read, got, refused, run, read_as}

-- what follows a value, its place and the bytes left there
abbrev pub Next : Type 0 → Type 0 → Type 0
Next A B = A → ℕ → List ℕ → Read B

-- go on after what was read
abbrev pub after : {A B : Type 0} → Read A → Next A B → Read B
after (got x at rest) next = next x at rest
after (refused e) next = refused e

pub after_same : {A : Type 0} (z : Read A) → after z got ≡ z
after_same (got x at rest) = refl
after_same (refused e) = refl

pub cond_after : {A B : Type 0} (c : Bool) (e : Refusal) (r : Read A) (next : Next A B)
    → after (cond c (refused e) r) next ≡ cond c (refused e) (after r next)
cond_after true e r next = refl
cond_after false e r next = refl

pub after_after : {A B C : Type 0} (r : Read A) (f : Next A B) (g : Next B C)
    → after (after r f) g ≡ after r (λ x at rest. after (f x at rest) g)
after_after (got x at rest) f g = refl
after_after (refused e) f g = refl

pub read_as_after : {A B C : Type 0} (f : B → C) (r : Read A) (next : Next A B)
    → read_as f (after r next) ≡ after r (λ x at rest. read_as f (next x at rest))
read_as_after f (got x at rest) next = refl
read_as_after f (refused e) next = refl

pub read_as-cond : {A B : Type 0} (f : A → B) (c : Bool) (e : Refusal) (r : Read A) → read_as f (cond c (refused e) r) ≡ cond c (refused e) (read_as f r)
read_as-cond f true e r = refl
read_as-cond f false e r = refl

-- one after the other is read one after the other
pub run-then : {A B : Type 0} (r : Reading A) (k : A → Reading B) (at : ℕ) (rest : List ℕ)
    → run (r >>= k) at rest ≡ after (run r at rest) (λ x at₁ rest₁. run (k x) at₁ rest₁)
unfolding run ◌>>=◌
run-then (done x) k at rest = refl
run-then (due next) k at [] = refl
run-then (due next) k at (b ∷ rest) = run-then (next b) k (at + 1) rest
run-then (at_place next) k at rest = run-then (next at) k at rest
run-then (refuse_if c e next) k at rest =
    ap (cond c (refused e)) (run-then next k at rest) ∙ sym (cond_after c e (run next at rest) (λ x at₁ rest₁. run (k x) at₁ rest₁))
run-then (end next) k at [] = run-then next k at []
run-then (end next) k at (b ∷ rest) = refl

-- a refusal is no value
pub never_both : {A : Type 0} {e : Refusal} {x : A} {at : ℕ} {rest : List ℕ} → refused e ≡ got x at rest → ⊥
never_both h = let z : ◌≡◌ {A = ℕ} 0 1 = cc in omega arith

pub cond-got : {A : Type 0} (c : Bool) (e : Refusal) (r : Read A) {x : A} {at : ℕ} {rest : List ℕ}
    → cond c (refused e) r ≡ got x at rest → (c ≡ false) × (r ≡ got x at rest)
cond-got true e r h = absurd (never_both h)
cond-got false e r h = (refl, h)

-- a value of another type was read: what it was made of
pub read_as-got : {A B : Type 0} (f : A → B) (r : Read A) {y : B} {at : ℕ} {rest : List ℕ} → read_as f r ≡ got y at rest
    → (x : A) × (r ≡ got x at rest) × (f x ≡ y)
read_as-got f (got x at₁ rest₁) h = (x, cc, cc)
read_as-got f (refused e) h = absurd (never_both h)

pub read_as-refused : {A B : Type 0} (f : A → B) (r : Read A) (e : Refusal) → (read_as f r ≡ refused e) ↔ (r ≡ refused e)
read_as-refused f (got x at rest) e = (λ h. absurd (never_both (sym h)), λ h. absurd (never_both (sym h)))
read_as-refused f (refused d) e = (λ h. cc, λ h. cc)

-- a part was read, and what follows gave the value
pub after_got : {A B : Type 0} (r : Read A) (next : Next A B) {y : B} {at : ℕ} {rest : List ℕ} → after r next ≡ got y at rest
    → (x : A) × (place : ℕ) × (left : List ℕ) × (r ≡ got x place left) × (next x place left ≡ got y at rest)
after_got (got x place left) next h = (x, place, left, refl, h)
after_got (refused e) next h = absurd (never_both h)

module _ {A : Type 0} where
  -- a place and what is left after it are the length
  pub run_length : (r : Reading A) (at : ℕ) (rest : List ℕ) {x : A} {at' : ℕ} {rest' : List ℕ} → run r at rest ≡ got x at' rest'
      → at' + length rest' ≡ at + length rest
  unfolding run
  run_length (done y) at rest h = cc
  run_length (due next) at [] h = absurd (never_both h)
  run_length (due next) at (b ∷ rest) h = omega (arith, run_length (next b) (at + 1) rest h)
  run_length (at_place next) at rest h = run_length (next at) at rest h
  run_length (refuse_if c e next) at rest h = run_length next at rest (cond-got c e (run next at rest) h).1
  run_length (end next) at [] h = run_length next at [] h
  run_length (end next) at (b ∷ rest) h = absurd (never_both h)

  -- no more bytes are taken than there are
  pub run_took : (r : Reading A) (at : ℕ) (rest : List ℕ) {x : A} {used : ℕ} → run r at rest ≡ got x (at + used) (drop used rest) → used ≤ length rest
  run_took r at rest {x} {used} h = omega (arith, run_length r at rest h, length-drop used rest)
