-- Number and place say which refusal it is.
use Rattle.std.specs.Prelude.{◌∷◌, ◌≡◌, ◌≤◌}
use Rattle.prelude.specs.Names.{List, [], refl, sym, ap, ap₂, ◌∙◌, ℕ, arith, get_or}
use Rattle.refusal.specs.declared.Refusal.{Refusal}
use Rattle.refusal.specs.declared.Refusal.TheVariants.{EndsEarly, UnknownBit, WrittenDefault, BadCount, BadItem, NotRising, TrailingBytes}
use Rattle.refusal.specs.declared.Refusal.TheVariants.{BadArgument, InvalidInstance, NotFollowing, NoLag, TooLarge, BadMark}
use Rattle.refusal.specs.Numbers.{number_of, place_of}

-- the refusal with this number and place; NotFollowing for a number that none has
abbrev refusal-of : ℕ → ℕ → Refusal
refusal-of n p =
    let to-5 = EndsEarly p ∷ UnknownBit p ∷ WrittenDefault p ∷ BadCount p ∷ BadItem p ∷ to_13 in
    get_or (NotFollowing ∷ to-5) n NotFollowing
  where
    to_13 : List Refusal
    to_13 = NotRising p ∷ TrailingBytes p ∷ BadArgument ∷ InvalidInstance ∷ NotFollowing ∷ NoLag p ∷ TooLarge p ∷ BadMark ∷ []

refusal-back : (e : Refusal) → refusal-of (number_of e) (place_of e) ≡ e
refusal-back (EndsEarly p) = refl
refusal-back (UnknownBit p) = refl
refusal-back (WrittenDefault p) = refl
refusal-back (BadCount p) = refl
refusal-back (BadItem p) = refl
refusal-back (NotRising p) = refl
refusal-back (TrailingBytes p) = refl
refusal-back BadArgument = refl
refusal-back InvalidInstance = refl
refusal-back NotFollowing = refl
refusal-back (NoLag p) = refl
refusal-back (TooLarge p) = refl
refusal-back BadMark = refl

pub same-refusal : (e f : Refusal) → number_of e ≡ number_of f → place_of e ≡ place_of f → e ≡ f
same-refusal e f n p = sym (refusal-back e) ∙ ap₂ refusal-of n p ∙ refusal-back f

-- no refusal has the number 0
pub number-not-zero : (e : Refusal) → number_of e ≡ 0 → ⊥
number-not-zero e n =
    let last : NotFollowing ≡ e = rw n at (refusal-back e) in
    omega (arith, ap number_of last)

pub number-most : (e : Refusal) → number_of e ≤ 13
number-most (EndsEarly place) = omega arith
number-most (UnknownBit place) = omega arith
number-most (WrittenDefault place) = omega arith
number-most (BadCount place) = omega arith
number-most (BadItem place) = omega arith
number-most (NotRising place) = omega arith
number-most (TrailingBytes place) = omega arith
number-most BadArgument = omega arith
number-most InvalidInstance = omega arith
number-most NotFollowing = omega arith
number-most (NoLag place) = omega arith
number-most (TooLarge place) = omega arith
number-most BadMark = omega arith
