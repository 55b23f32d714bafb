-- The queue of pairs that changed: place 0 has where it ends, the pairs stand from place 1 on.
use Rattle.std.specs.Prelude.{◌⊎◌, ◌≡◌, ◌+◌, ◌*◌, ◌/◌, ◌%◌, ◌≤◌, ◌<◌}
use Rattle.prelude.specs.Names.{List, ℕ, get_or, length, set}
use Rattle.model.specs.Domains.{Domains}
use Rattle.model.specs.Propagate.{sum}
use Rattle.model.specs.Order.{Proper}
use Rattle.domains.specs.Rows.{Laid}

-- room for 135 domains of 7 each, none removed twice, and for the end
abbrev pub max_queue : ℕ
max_queue = 946

-- a pair on an axis as a number
abbrev pub pair_code : ℕ → ℕ → ℕ → ℕ
pair_code a u v = a * 256 + u * 16 + v

-- the pair s, t on the axis b is u, v on a, in one order or the other
abbrev pub SamePair : ℕ → ℕ → ℕ → ℕ → ℕ → ℕ → Type 0
SamePair a u v b s t = (b ≡ a) × (((s ≡ u) × (t ≡ v)) ⊎ ((s ≡ v) × (t ≡ u)))

-- the number stands for two distinct items
abbrev pub Coded : ℕ → Type 0
Coded x = Proper 10 (x / 256) (x / 16 % 16) (x % 16)

-- where the queue ends
abbrev pub queue_end : List ℕ → ℕ
queue_end q = get_or q 0 0

-- the queue with one pair more
abbrev pub pushed : List ℕ → ℕ → List ℕ
pushed q x = set (set q (queue_end q) x) 0 (queue_end q + 1)

-- the queue with no pair
abbrev pub no_changes : List ℕ → List ℕ
no_changes q = set q 0 1

-- the pair is on the queue from one place up to another, in one order or the other
abbrev pub Queued : List ℕ → ℕ → ℕ → ℕ → ℕ → ℕ → Type 0
Queued q from to a u v = (j : ℕ) × (from ≤ j) × (j < to) × ((get_or q j 0 ≡ pair_code a u v) ⊎ (get_or q j 0 ≡ pair_code a v u))

-- domains with their rows and the queue, in which there is room for all that can still be removed
pub record Good (k : Domains) (rows q : List ℕ) : Type 0 where
  pub laid : Laid k rows
  pub long : length q ≡ max_queue
  pub least : 1 ≤ queue_end q
  pub room : queue_end q + sum k ≤ max_queue
  pub coded : (j : ℕ) → 1 ≤ j → j < queue_end q → Coded (get_or q j 0)
