-- Totals of chains beside the measures they are made of, 696 numbers: at axis * 10 + item the total of the chains ending in the item, from 30 on
-- that of those starting in it, from 60 on the item's measure; from 90 on the container's, by axis; from 93 on, by axis, 0 where nothing lies between
-- any two items; from 96 on, ten for each total, what its chain grows by where it goes on with each item.
use Rattle.std.specs.Prelude.{◌≡◌, ◌+◌, ◌-◌, ◌*◌, ◌≤◌, ◌<◌}
use Rattle.prelude.specs.Names.{List, ℕ, zero, suc, get_or, length}
use Rattle.model.specs.Problem.{Problem}
use Rattle.model.specs.Domains.{Domains}
use Rattle.model.specs.Toward.{Goal, Direction, between, Under}

-- where the table of a direction starts: 1 of the chains starting in an item, 2 of those ending in it
abbrev pub table_start : ℕ → ℕ
table_start zero = 30
table_start (suc zero) = 30
table_start (suc (suc x)) = 0

abbrev pub table : List ℕ → ℕ → ℕ → ℕ → ℕ
table t x a u = get_or t (table_start x + a * 10 + u) 0

abbrev pub measure_at : List ℕ → ℕ → ℕ → ℕ
measure_at t a u = get_or t (60 + a * 10 + u) 0

abbrev pub capacity_at : List ℕ → ℕ → ℕ
capacity_at t a = get_or t (90 + a) 0

-- 0 where nothing lies between any two items
abbrev pub gapped_at : List ℕ → ℕ → ℕ
gapped_at t a = get_or t (93 + a) 0

-- what the chain of v, in the table that starts at o, grows by where it goes on with z: what lies between them, and the measure of z
abbrev pub step_at : List ℕ → ℕ → ℕ → ℕ → ℕ → ℕ
step_at t o a v z = get_or t (96 + (o + a * 10 + v) * 10 + z) 0

abbrev pub gap_at : List ℕ → ℕ → ℕ → ℕ → ℕ → ℕ
gap_at t o a v z = step_at t o a v z - measure_at t a z

-- every two numbers add up to one of 16 bits
abbrev pub Small : List ℕ → Type 0
Small t = (i : ℕ) → get_or t i 0 < 32768

-- 696 such numbers, no total above the container
pub record Tabled (t : List ℕ) : Type 0 where
  pub long : length t ≡ 696
  pub small : Small t
  pub within : (x a u : ℕ) → Direction x → a < 3 → u < 10 → table t x a u ≤ capacity_at t a
  pub least : (x a v z : ℕ) → Direction x → a < 3 → v < 10 → z < 10 → measure_at t a z ≤ step_at t (table_start x) a v z
  pub plain : (x a v z : ℕ) → Direction x → a < 3 → v < 10 → z < 10 → gapped_at t a ≡ 0 → step_at t (table_start x) a v z ≡ measure_at t a z

-- the measures, and what lies between items, are those of the problem, which has ten items: an instance of fewer has items of measure 0 past its own
pub record Measured (p : Problem) (t : List ℕ) : Type 0 where
  pub ten : p.items ≡ 10
  pub capacity : (a : ℕ) → a < 3 → p.capacity a ≡ capacity_at t a
  pub size : (a u : ℕ) → a < 3 → u < p.items → p.size a u ≡ measure_at t a u
  pub step : (x a v z : ℕ) → Direction x → a < 3 → v < p.items → z < p.items → between x p a v z + p.size a z ≡ step_at t (table_start x) a v z

-- totals at most change, the measures and what lies between items stay
pub record SameMeasures (t s : List ℕ) : Type 0 where
  pub long : length s ≡ length t
  pub kept : (i : ℕ) → 60 ≤ i → get_or s i 0 ≡ get_or t i 0

-- domains that propagation may end in, and whose chains are at least as long as the totals
pub record Fitting (p : Problem) (t : List ℕ) (f : Domains) : Type 0 where
  pub goal : Goal p f
  pub under : Under p (table t) f
