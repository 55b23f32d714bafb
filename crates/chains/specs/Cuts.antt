-- What the totals find too long, and removing it.
use Rattle.std.specs.Prelude.{◌≡◌, ◌+◌, ◌%◌, ◌≤◌, ◌<◌}
use Rattle.prelude.specs.Names.{Bool, true, List, ℕ, ltb, get_or}
use Rattle.model.specs.Domains.{Domains}
use Rattle.model.specs.Order.{Proper}
use Rattle.model.specs.Relations.{gone, converse}
use Rattle.domains.specs.Bits.{bit_at}
use Rattle.chains.specs.Totals.{table_start, capacity_at, gap_at}
use Rattle.chains.specs.Links.{total_at}

-- the totals of u and v, with what lies between, are above the container, in the tables that start at o and r
abbrev pub above_both : List ℕ → ℕ → ℕ → ℕ → ℕ → ℕ → Bool
above_both t o r a u v = ltb (capacity_at t a) (total_at t o a u + gap_at t o a u v + total_at t r a v)

-- .. so that the relation x has no room: 1 "u before v", 2 "v before u"
abbrev pub exceeds : List ℕ → ℕ → ℕ → ℕ → ℕ → Bool
exceeds t x a u v = above_both t (table_start (converse x)) (table_start x) a u v

-- ten totals, ten steps and the ten measures that they are no less than, by their first places
pub record Stepping (t : List ℕ) (at steps sizes : ℕ) : Type 0 where
  pub totals : at + 10 ≤ 696
  pub room : steps + 10 ≤ 696
  pub measures : sizes + 10 ≤ 696
  pub least : (v : ℕ) → v < 10 → get_or t (sizes + v) 0 ≤ get_or t (steps + v) 0

-- where the two tables start, and an item
pub record Comparable (o r a u : ℕ) : Type 0 where
  pub aligned : o % 30 ≡ 0
  pub other : o + r ≡ 30
  pub axis : a < 3
  pub item : u < 10

-- the relation x of u is removed with every item with which it has no room; so it is of all items, and of those of a set
abbrev pub CutFrom : List ℕ → ℕ → ℕ → Domains → ℕ → Type 0
CutFrom t x a f u = (v : ℕ) → Proper 10 a u v → exceeds t x a u v ≡ true → gone f x a u v ≡ true

abbrev pub CutAll : List ℕ → ℕ → ℕ → Domains → Type 0
CutAll t x a f = (u : ℕ) → CutFrom t x a f u

abbrev pub CutOf : List ℕ → ℕ → ℕ → ℕ → Domains → Type 0
CutOf t x a items f = (u : ℕ) → bit_at items u ≡ true → CutFrom t x a f u

-- both relations: of all items, and of those of a set each
abbrev pub CutBoth : List ℕ → ℕ → Domains → Type 0
CutBoth t a f = CutAll t 1 a f × CutAll t 2 a f

abbrev pub CutAround : List ℕ → ℕ → ℕ → ℕ → Domains → Type 0
CutAround t a ends starts f = CutOf t 1 a ends f × CutOf t 2 a starts f
