-- Reading bytes from left to right, as data: what is due and what is tested; and what reading gives of some bytes.
use Rattle.std.specs.Prelude.{◌+◌, ◌<◌, ◌∷◌, ◌⊎◌, ◌≡◌}
use Rattle.prelude.specs.Names.{ℕ, Bool, cond, List, [], eqb, get_or}
use Rattle.refusal.specs.declared.Refusal.{Refusal}
use Rattle.refusal.specs.declared.Refusal.TheVariants.{EndsEarly, TrailingBytes}
use Rattle.refusal.specs.Numbers.{number_of, place_of}

-- every element is a byte
abbrev pub Bytes : List ℕ → Type 0
Bytes s = (i : ℕ) → get_or s i 0 < 256

pub data Reading (A : Type 0) : Type 0 where
  -- a value has been read
  done : A → Reading A
  -- a byte is due, and what follows knows it
  due : (ℕ → Reading A) → Reading A
  -- what follows knows its place
  at_place : (ℕ → Reading A) → Reading A
  -- where the condition holds, that is refused
  refuse_if : Bool → Refusal → Reading A → Reading A
  -- no byte is due any more
  end : Reading A → Reading A

infixl 10 ◌>>=◌
-- one after the other
unfoldable pub ◌>>=◌ : {A B : Type 0} → Reading A → (A → Reading B) → Reading B
◌>>=◌ (done x) k = k x
◌>>=◌ (due next) k = due (λ b. next b >>= k)
◌>>=◌ (at_place next) k = at_place (λ p. next p >>= k)
◌>>=◌ (refuse_if c e next) k = refuse_if c e (next >>= k)
◌>>=◌ (end next) k = end (next >>= k)

-- what reading gives: a value with the place after it and the bytes left there, or a refusal
pub data Read (A : Type 0) : Type 0 where
  got : A → ℕ → List ℕ → Read A
  refused : Refusal → Read A

-- the bytes from a place on are read: "Reading goes left to right and gives the first fault"
unfoldable pub run : {A : Type 0} → Reading A → ℕ → List ℕ → Read A
run (done x) at rest = got x at rest
-- 1: "it ends before a byte that is due"
run (due next) at [] = refused (EndsEarly at)
run (due next) at (b ∷ rest) = run (next b) (at + 1) rest
run (at_place next) at rest = run (next at) at rest
run (refuse_if c e next) at rest = cond c (refused e) (run next at rest)
-- 7: "bytes after the last field"
run (end next) at [] = run next at []
run (end next) at (b ∷ rest) = refused (TrailingBytes at)

-- the rank of a refusal among those at its place: its number; but 11 is the first, since a field of lags gets it "when it is empty, before anything
-- that follows it"
abbrev pub turn_of : Refusal → ℕ
turn_of e = cond (eqb (number_of e) 11) 0 (number_of e)

-- e is met before f: "left to right .. at one place the lower number"
abbrev pub Before : Refusal → Refusal → Type 0
Before e f = (place_of e < place_of f) ⊎ ((place_of e ≡ place_of f) × (turn_of e < turn_of f))

-- the same of another value
abbrev pub read_as : {A B : Type 0} → (A → B) → Read A → Read B
read_as f (got x at rest) = got (f x) at rest
read_as f (refused e) = refused e
