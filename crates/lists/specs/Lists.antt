-- The rows of a sheet and the arrays that hold them.
use Rattle.std.specs.Prelude.{Option, Some, ◌∷◌, ◌++◌, ◌≡◌, ◌-◌, ◌≤◌}
use Rattle.prelude.specs.Names.{List, [], ℕ, length, take, replicate}
use Rattle.formats.specs.Reading.{Reading}
use Rattle.formats.specs.Formats.{row_reading}
use Rattle.parts.specs.declared.Item.{Item}
use Rattle.parts.specs.declared.Precedence.{Precedence}
use Rattle.parts.specs.Precedences.{Arc, lagged, unlagged}
use Rattle.parts.specs.Parts.{item, precedence, precedence_tests}

-- the next n items
abbrev pub item_row : ℕ → Reading (List Item)
item_row = row_reading item (λ (_ : Unit {0}) _. []) (λ p _. p) tt

-- the next m precedences of a sheet with n items, after `last`
abbrev pub precedence_row : ℕ → Option Precedence → ℕ → Reading (List Arc)
precedence_row n = row_reading precedence (precedence_tests n) (λ _ a. Some (unlagged a))

-- the precedences of orders and their lags, each with the one of its place
unfoldable pub with_lags : List Arc → List ℕ → List Precedence
with_lags [] gs = []
with_lags (a ∷ rest) [] = unlagged a ∷ with_lags rest []
with_lags (a ∷ rest) (g ∷ gs) = lagged a g ∷ with_lags rest gs

-- "Entries of a sheet past its counts are no part of it; reading leaves them 0"
abbrev pub padded : {A : Type 0} → ℕ → A → List A → List A
padded room blank xs = xs ++ replicate (room - length xs) blank

-- of `room` entries the first n count, and those past them are blank
pub record Padded {A : Type 0} (room : ℕ) (blank : A) (n : ℕ) (xs : List A) : Type 0 where
  pub few : n ≤ room
  pub same : xs ≡ padded room blank (take n xs)
