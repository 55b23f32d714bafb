-- An instance's measures beside the totals of chains.
use Rattle.std.specs.Prelude.{◌⊎◌, ◌≡◌, ◌+◌, ◌*◌, ◌/◌, ◌%◌, ◌≤◌, ◌<◌, Result, Ok, Err}
use Rattle.prelude.specs.Names.{Bool, true, false, cond, List, [], map, ℕ, ltb, get_or, length, set}
use Rattle.model.specs.Problem.{Problem, gap}
use Rattle.model.specs.Wide.{wide}
use Rattle.model.specs.Toward.{Direction, between}
use Rattle.parts.specs.declared.Precedence.{Precedence}
use Rattle.parts.specs.declared.Size.{Size}
use Rattle.parts.specs.Sizes.{max_measure}
use Rattle.instance.specs.Meaning.{precedence_of}
use Rattle.domains.specs.declared.store.Conflict.{Conflict}
use Rattle.chains.specs.declared.totals.Totals.{Totals}
use Rattle.chains.specs.Totals.{Small, table_start, table, measure_at, capacity_at, gapped_at, step_at}
use Rattle.model.specs.Problem as M

-- measures with the walkway behind them: on x and y
abbrev pub with_walkway : ℕ → Size → Size
with_walkway w s = record { width = s.width + w; depth = s.depth + w; shifts = s.shifts }

-- a measure at its place, and as the total of both chains of the item alone
abbrev pub put : List ℕ → ℕ → ℕ → List ℕ
put t i m = set (set (set t i m) (30 + i) m) (60 + i) m

abbrev pub put_item : List ℕ → ℕ → Size → List ℕ
put_item t u s = put (put (put t u s.width) (10 + u) s.depth) (20 + u) s.shifts

-- the greatest measure with the greatest walkway
abbrev pub max_spaced : ℕ
max_spaced = max_measure + 255

-- no number is above that
abbrev pub Measures : List ℕ → Type 0
Measures t = (i : ℕ) → get_or t i 0 ≤ max_spaced

-- the measures of a problem of ten items, with chains of one item each
pub record LaidOut (p : Problem) (t : List ℕ) : Type 0 where
  pub long : length t ≡ 696
  pub capacity : (a : ℕ) → a < 3 → capacity_at t a ≡ p.capacity a
  pub size : (a u : ℕ) → a < 3 → u < 10 → measure_at t a u ≡ p.size a u
  pub alone : (x a u : ℕ) → Direction x → a < 3 → u < 10 → table t x a u ≡ measure_at t a u

-- "A piece above the hall's measure", or none
abbrev pub LargeIf : List ℕ → Bool → Type 0
LargeIf t true = (a : ℕ) × (u : ℕ) × (a < 3) × (u < 10) × (capacity_at t a < measure_at t a u)
LargeIf t false = (a u : ℕ) → a < 3 → u < 10 → measure_at t a u ≤ capacity_at t a

-- the row of ten steps at i has the measures on an axis, and all else stays
pub record RowStepped (i a : ℕ) (t s : List ℕ) : Type 0 where
  pub long : length s ≡ length t
  pub row : (z : ℕ) → z < 10 → get_or s (96 + i * 10 + z) 0 ≡ measure_at t a z
  pub other : (j : ℕ) → (j < 96 + i * 10) ⊎ (106 + i * 10 ≤ j) → get_or s j 0 ≡ get_or t j 0

-- so have the first n of the sixty rows
pub record Stepped (n : ℕ) (t s : List ℕ) : Type 0 where
  pub long : length s ≡ length t
  pub rows : (i z : ℕ) → i < n → z < 10 → get_or s (96 + i * 10 + z) 0 ≡ measure_at t (i % 30 / 10) z
  pub other : (j : ℕ) → j < 96 → get_or s j 0 ≡ get_or t j 0
  pub later : (j : ℕ) → 96 + n * 10 ≤ j → get_or s j 0 ≡ get_or t j 0

-- a lag of two items on t: the steps between them, from either end, where it is the greatest of theirs so far
abbrev pub put_lag : List ℕ → ℕ → ℕ → ℕ → List ℕ
put_lag t u v lag =
    cond (ltb (get_or t (96 + (20 + u) * 10 + v) 0) (get_or t (80 + v) 0 + lag))
    (set (set (set t (96 + (20 + u) * 10 + v) (get_or t (80 + v) 0 + lag)) (96 + (50 + v) * 10 + u) (get_or t (80 + u) 0 + lag)) 95 1) t

-- the measures of a problem with the steps of its chains
pub record SteppedOut (p : Problem) (t : List ℕ) : Type 0 where
  pub laid : LaidOut p t
  pub small : Small t
  pub plain : (a u v : ℕ) → a < 3 → u < 10 → v < 10 → gapped_at t a ≡ 0 → gap p a u v ≡ 0
  pub step : (x a v z : ℕ) → Direction x → a < 3 → v < 10 → z < 10 → step_at t (table_start x) a v z ≡ between x p a v z + measure_at t a z

-- a problem's measures with other precedences and no walkway
abbrev pub with_precedences : Problem → List M.Precedence → Problem
with_precedences p l = record { items = p.items; size = p.size; capacity = p.capacity; walkway = 0; precedences = l }

-- from t to s the lags of precedences are put: what was laid out of a problem without any is laid out with them
abbrev pub LagsLaid : List Precedence → List ℕ → List ℕ → Type 0
LagsLaid os t s = (p : Problem) → SteppedOut (with_precedences p []) t → SteppedOut (with_precedences p (map precedence_of os)) s

-- an item is above the container's measure
abbrev pub LargeItem : Problem → Type 0
LargeItem p = (a : ℕ) × (u : ℕ) × (a < 3) × (u < p.items) × (p.capacity a < p.size a u)

-- all of a problem is laid out, as the one of ten items, and each item alone fits; or one does not
abbrev pub FitsIf : Problem → Result Totals Conflict → Type 0
FitsIf p (Ok t) = SteppedOut (wide p) t.numbers × LargeIf t.numbers false
FitsIf p (Err _) = LargeItem p
