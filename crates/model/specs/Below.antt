-- Tests over the numbers below n and over the elements of a list.
use Rattle.std.specs.Prelude.{◌∷◌, ◌+◌}
use Rattle.prelude.specs.Names.{Bool, true, false, List, [], ℕ, zero, suc, max}

-- some number below n passes
abbrev pub some_below : ℕ → (ℕ → Bool) → Bool
some_below zero f = false
some_below (suc n) f = elim (f n) [ true ↦ true | false ↦ some_below n f ]

-- every number below n passes
abbrev pub all_below : ℕ → (ℕ → Bool) → Bool
all_below zero f = true
all_below (suc n) f = elim (f n) [ true ↦ all_below n f | false ↦ false ]

-- f 0 + .. + f (n - 1)
abbrev pub sum_below : ℕ → (ℕ → ℕ) → ℕ
sum_below zero f = 0
sum_below (suc n) f = sum_below n f + f n

-- the greatest f i with i below n, 0 if there is none
abbrev pub most_below : ℕ → (ℕ → ℕ) → ℕ
most_below zero f = 0
most_below (suc n) f = max (f n) (most_below n f)

-- the first number below n that passes, or d
abbrev pub first_below : ℕ → (ℕ → Bool) → ℕ → ℕ
first_below zero f d = d
first_below (suc n) f d = first_below n f (elim (f n) [ true ↦ n | false ↦ d ])

-- every element of the list passes
abbrev pub all_in : {A : Type 0} → (A → Bool) → List A → Bool
all_in f [] = true
all_in f (x ∷ xs) = elim (f x) [ true ↦ all_in f xs | false ↦ false ]
