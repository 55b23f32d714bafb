-- Laws of the first entries of an array, and of what is left of a slice.
use Rattle.std.specs.Prelude.{◌≡◌, ◌∷◌, ◌+◌, ◌-◌, ◌≤◌, ◌<◌}
use Rattle.prelude.specs.Names.{◌∙◌, List, [], ℕ, le_of_eq, add-one, length, get_or, take, drop, length-drop}
use Rattle.prelude.specs.Names.{drop_of_length-le, take_all, drop-cons, get_or-take, length-take-le}

-- the part of a list from a place to its end is what is left there
pub rest_of : {A : Type 0} (at : ℕ) (s : List A) → take (length s - at) (drop at s) ≡ drop at s
rest_of at s = take_all _ _ (le_of_eq (length-drop at s))

-- the part from i on, of the first n entries
module _ {A : Type 0} (n i : ℕ) (xs : List A) (room : n ≤ length xs) where
  pub part_next : (d : A) → i < n → drop i (take n xs) ≡ get_or xs i d ∷ drop (i + 1) (take n xs)
  part_next d h = let l : i < length (take n xs) = rw length-take-le h in drop-cons (take n xs) i d l ∙ rw (get_or-take n xs i d h, add-one)

  pub part_done : n ≤ i → drop i (take n xs) ≡ []
  part_done h = let l : length (take n xs) ≤ i = rw length-take-le h in drop_of_length-le (take n xs) l
