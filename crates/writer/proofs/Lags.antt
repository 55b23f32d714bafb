-- The lags of precedences: as many bytes as there are precedences, or none.
use Rattle.std.specs.Prelude.{◌≡◌, ◌∷◌, ◌+◌, ◌<◌, ◌≤◌, ◌&&◌, ◌||◌}
use Rattle.prelude.specs.Names.{refl, ◌∙◌, List, [], map, cond, not, true, false, eqb, ℕ, zero, suc, arith, length, get_or, set, sets, take, take_all, eq-eqb, not-true, not-false}
use Rattle.std.specs.List.{list_any}
use Rattle.std.specs.Int.{from_bool}
use lib.ListN.{length-map}
use Rattle.formats.specs.Fields.{flag}
use Rattle.formats.proofs.Stores.{sets-next}
use Rattle.parts.specs.declared.Precedence.{Precedence}
use Rattle.parts.specs.Precedences.{lag_of}
use Rattle.parts.specs.Parts.{lags_zero, lag_list}
use Rattle.parts.specs.Sizes.{no_precedence}
use Rattle.parts.proofs.Laws.{lag-bytes}
use Rattle.parts.proofs.Writers.{from_not}
use Rattle.writer.specs.Lists.{lags_bytes}

-- each lag is tested
pub lags-any : (os : List Precedence) → list_any (λ (o : Precedence). not (eqb o.lag 0)) os ≡ not (lags_zero (map lag_of os))
unfolding lags_zero
lags-any [] = refl
lags-any (o ∷ os) =
    elim (eqb o.lag 0) as (λ b. (not b || list_any (λ (o : Precedence). not (eqb o.lag 0)) os) ≡ not (b && lags_zero (map lag_of os)))
    [ true ↦ lags-any os | false ↦ refl ]

pub lag-at : (os : List Precedence) (i : ℕ) → i < length os → get_or (map lag_of os) i 0 ≡ (get_or os i no_precedence).lag
lag-at [] i h = absurd (omega arith)
lag-at (o ∷ os) zero h = refl
lag-at (o ∷ os) (suc i) h = lag-at os i (omega arith)

module _ (xs : List Precedence) where
  pub lags-counted : length (map lag_of xs) ≡ length xs
  lags-counted = length-map xs lag_of

  -- the bit and the bytes of the field
  pub lags-flag : flag (lag_list (length xs)) (map lag_of xs) ≡ from_bool (not (lags_zero (map lag_of xs)))
  unfolding flag lag_list
  lags-flag = rw (eq-eqb _ (length xs) lags-counted, from_not)

  lags_are : lags_bytes xs ≡ cond (lags_zero (map lag_of xs)) [] (map lag_of xs)
  lags_are = lag-bytes (length xs) (map lag_of xs) ∙ rw (eq-eqb _ (length xs) lags-counted)

  pub lags-none : not (lags_zero (map lag_of xs)) ≡ false → lags_bytes xs ≡ []
  lags-none e = rw (lags_are, not-false _ e)

  pub lags-some : not (lags_zero (map lag_of xs)) ≡ true → lags_bytes xs ≡ map lag_of xs
  lags-some e = rw (lags_are, not-true _ e)

-- one lag more is stored
pub lag-stored : (l : List ℕ) (at : ℕ) (os : List Precedence) (i : ℕ) → i < length os
    → set (sets l at (take i (map lag_of os))) (at + i) (get_or os i no_precedence).lag ≡ sets l at (take (i + 1) (map lag_of os))
lag-stored l at os i h = rw (← (lag-at os i h)) (sets-next l (map lag_of os) at i (omega (arith, lags-counted os)))

-- and at the end all of them
pub lags-stored : (l : List ℕ) (at : ℕ) (os : List Precedence) (i : ℕ) → length os ≤ i
    → sets l at (take i (map lag_of os)) ≡ sets l at (map lag_of os)
lags-stored l at os i h = rw (take_all i (map lag_of os) (omega (arith, lags-counted os)))

-- what the proofs on lags cite
pub ruleset lags = (lags-counted, lags-none, lags-some, lag-stored, lags-stored)
