-- The starts by greatest chains.
use Rattle.std.specs.Prelude.{◌≡◌, ◌-◌, ◌≤◌, ◌<◌}
use Rattle.prelude.specs.Names.{List, ℕ, get_or, length}
use Rattle.instance.specs.declared.Position.{Position}
use Rattle.instance.specs.Meaning.{start}
use Rattle.instance.specs.Values.{origin}
use Rattle.chains.specs.Totals.{table, measure_at}

-- "On each axis a piece starts at the total of the greatest chain ending in it, less its own measure"
abbrev pub start_at : List ℕ → ℕ → ℕ → ℕ
start_at t a u = table t 2 a u - measure_at t a u

-- the chains of n items have them in it
pub record Startable (n : ℕ) (t : List ℕ) : Type 0 where
  pub limited : n ≤ 10
  pub long : length t ≡ 696
  pub whole : (a u : ℕ) → a < 3 → u < n → measure_at t a u ≤ table t 2 a u

-- positions past the items are 0
pub record Started (n : ℕ) (t : List ℕ) (positions : List Position) : Type 0 where
  pub placed : (a u : ℕ) → a < 3 → u < n → start a (get_or positions u origin) ≡ start_at t a u
  pub past : (u : ℕ) → n ≤ u → get_or positions u origin ≡ origin
