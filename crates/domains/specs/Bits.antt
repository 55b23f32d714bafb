-- Rows of bits and sets of items as numbers. A row has bit 10 * x + v for the relation x with the item v; a set of items the bits below 10.
use Rattle.std.specs.Prelude.{Option, MatchOption, ◌&&◌, ◌≡◌, ◌/◌, ◌%◌, ◌^◌, ◌<◌}
use Rattle.prelude.specs.Names.{Bool, true, not, ℕ, eqb, count_trailing_zeros}

unfoldable pub bit_at : ℕ → ℕ → Bool
bit_at m i = eqb (m / 2 ^ i % 2) 1

-- a number of n bits, of which those are set for which f
pub record Gives (n m : ℕ) (f : ℕ → Bool) : Type 0 where
  pub small : m < 2 ^ n
  pub is : (i : ℕ) → i < n → bit_at m i ≡ f i

-- the place of the lowest bit
unfoldable pub lowest_bit : ℕ → ℕ
lowest_bit m = count_trailing_zeros 32 m

-- i is that place, in a row that has a bit
abbrev pub Lowest : ℕ → ℕ → Type 0
Lowest m i = (i ≡ lowest_bit m) × (i < 30) × (bit_at m i ≡ true)

-- the bit at i is taken out
pub record TakenOut (m i r : ℕ) : Type 0 where
  pub less : r < m
  pub is : (j : ℕ) → bit_at r j ≡ (bit_at m j && not (eqb j i))

-- of the bits of m the lowest is given, and r are the others; or there is none
abbrev pub NextBit : ℕ → Option ℕ → ℕ → Type 0
NextBit m o r = MatchOption o ((m ≡ 0) × (r ≡ 0)) (λ i. Lowest m i × TakenOut m i r)
