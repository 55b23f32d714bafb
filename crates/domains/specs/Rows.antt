-- Domains laid out as rows of bits: for each axis and item one row, at axis * 10 + item.
use Rattle.std.specs.Prelude.{◌≡◌, ◌+◌, ◌*◌, ◌^◌, ◌<◌}
use Rattle.prelude.specs.Names.{List, ℕ, get_or, length}
use Rattle.model.specs.Domains.{Domains}
use Rattle.model.specs.Order.{WellFormed}
use Rattle.model.specs.Relations.{gone, Filled}
use Rattle.domains.specs.Bits.{bit_at}

abbrev pub row_at : List ℕ → ℕ → ℕ → ℕ
row_at rows a u = get_or rows (a * 10 + u) 0

-- rows that say what the domains say
pub record Mirror (k : Domains) (rows : List ℕ) : Type 0 where
  pub long : length rows ≡ 30
  pub small : (i : ℕ) → get_or rows i 0 < 2 ^ 30
  pub is : (x a u v : ℕ) → x < 3 → a < 3 → u < 10 → v < 10 → bit_at (row_at rows a u) (x * 10 + v) ≡ gone k x a u v

-- domains with their rows; every pair has a relation left
pub record Laid (k : Domains) (rows : List ℕ) : Type 0 where
  pub well_formed : WellFormed k
  pub filled : Filled k
  pub mirror : Mirror k rows
