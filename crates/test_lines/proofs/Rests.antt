-- A test of all entries of an array from n on, made entry by entry: it comes out as that of the entries from i on.
use Rattle.std.specs.Prelude.{◌≡◌, ◌+◌, ◌≤◌, ◌<◌, ◌∷◌, ◌&&◌}
use Rattle.std.specs.List.{list_all}
use Rattle.prelude.specs.Names.{refl, [], sym, ◌∙◌, Bool, true, false, not, not-true, not-false, List, ℕ, add-one, length, drop}
use Rattle.prelude.specs.Names.{get_or, drop-cons, drop_of_length-le}
use Rattle.model.specs.Below.{all_in}

module _ {A : Type 0} (f : A → Bool) (xs : List A) (n i : ℕ) (e : all_in f (drop n xs) ≡ all_in f (drop i xs)) where
  pub rest-done : length xs ≤ i → true ≡ all_in f (drop n xs)
  rest-done h = sym (e ∙ rw (drop_of_length-le xs {i = i} h))

  -- b is the test of the i-th
  module _ (d : A) (h : i < length xs) (b : Bool) (t : b ≡ f (get_or xs i d)) where
    pub rest_fails : not b ≡ true → false ≡ all_in f (drop n xs)
    rest_fails p = sym (e ∙ rw (drop-cons xs i d h, all_in, ← t, not-true b p))

    pub rest-passes : not b ≡ false → all_in f (drop n xs) ≡ all_in f (drop (i + 1) xs)
    rest-passes p = e ∙ rw (drop-cons xs i d h, all_in, ← t, not-false b p, add-one)

-- the library's test of all elements comes out as the model's
pub all-in : {A : Type 0} (f : A → Bool) (xs : List A) → list_all f xs ≡ all_in f xs
all-in f [] = refl
all-in f (x ∷ xs) = elim (f x) as (λ b. b && list_all f xs ≡ elim b [ true ↦ all_in f xs | false ↦ false ]) [ true ↦ all-in f xs | false ↦ refl ]
