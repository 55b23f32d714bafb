-- Pairs of items by number (document 01, "The search"; document 02, #102).
use Rattle.std.specs.Prelude.{◌≡◌, ◌+◌, ◌*◌, ◌-◌, ◌/◌, ◌<◌}
use Rattle.prelude.specs.Names.{true, false, ℕ, zero, suc, ltb}

-- two items, u < v
pub record Pair : Type 0 where
  pub u : ℕ
  pub v : ℕ

-- "v × (v − 1) / 2 + u for u < v"
unfoldable pub pair_number : ℕ → ℕ → ℕ
pair_number u v = v * (v - 1) / 2 + u

-- "the sequence (0,1), (0,2), (1,2), (0,3), up to (8,9)": what comes after a pair
abbrev pub next_pair : Pair → Pair
next_pair c = elim (ltb (suc c.u) c.v) [ true ↦ record { u = suc c.u; v = c.v } | false ↦ record { u = 0; v = suc c.v } ]

-- "work the pair out from its number too"
unfoldable pub pair_of : ℕ → Pair
pair_of zero = record { u = 0; v = 1 }
pair_of (suc i) = next_pair (pair_of i)

-- c is a pair of n items, and i its number
pub record Numbered (n i : ℕ) (c : Pair) : Type 0 where
  pub rising : c.u < c.v
  pub item : c.v < n
  pub number : pair_number c.u c.v ≡ i

-- "each of 0 to 44 belongs to exactly one pair": of n items it is the pair worked out from the number, and no other
abbrev pub OnePair : ℕ → ℕ → Type 0
OnePair n i = Numbered n i (pair_of i) × ((c : Pair) → Numbered n i c → c ≡ pair_of i)
