-- Totals extended along links, on the axis a and in the table that starts at o: 0 of the chains ending in an item, 30 of those starting in it.
use Rattle.std.specs.Prelude.{◌&&◌, ◌⊎◌, ◌≡◌, ◌+◌, ◌*◌, ◌%◌, ◌^◌, ◌≤◌, ◌<◌}
use Rattle.std.specs.Prelude.{Result, Ok, Err}
use Rattle.prelude.specs.Names.{true, false, List, ℕ, bit_or, get_or, length, set}
use Rattle.domains.specs.Bits.{bit_at}
use Rattle.domains.specs.Rows.{row_at}
use Rattle.domains.specs.declared.store.Conflict.{Conflict}
use Rattle.chains.specs.Totals.{capacity_at, step_at}

abbrev pub total_at : List ℕ → ℕ → ℕ → ℕ → ℕ
total_at t o a u = get_or t (o + a * 10 + u) 0

-- the total of z where its chain goes on from that of v
abbrev pub onward : List ℕ → ℕ → ℕ → ℕ → ℕ → ℕ
onward t o a v z = total_at t o a v + step_at t o a v z

-- sets of links, from one item to another
abbrev pub LinkSet : Type 1
LinkSet = ℕ → ℕ → Type 0

-- it is greater than that of z, and within the container
pub record Longer (t : List ℕ) (o a v z : ℕ) : Type 0 where
  pub item_v : v < 10
  pub item_z : z < 10
  pub less : total_at t o a z < onward t o a v z
  pub fits : onward t o a v z ≤ capacity_at t a

-- from t to s totals are raised along links of L, one after another; the items whose totals they are make up the set g
pub data Raised (L : LinkSet) (o a : ℕ) (t : List ℕ) : List ℕ → ℕ → Type 0 where
  none : Raised L o a t t 0
  more : {s : List ℕ} {g : ℕ} (v z : ℕ) → Raised L o a t s g → L v z → Longer s o a v z
      → Raised L o a t (set s (o + a * 10 + z) (onward s o a v z)) (bit_or g (2 ^ z))

-- .. and then the totals go on along every link of M
pub record Raises (L M : LinkSet) (o a : ℕ) (t s : List ℕ) (g : ℕ) : Type 0 where
  pub raised : Raised L o a t s g
  pub on : (v z : ℕ) → M v z → onward s o a v z ≤ total_at s o a z

-- .. and then some link of L makes a total above the container
pub record Bursts (L : LinkSet) (o a : ℕ) (t s : List ℕ) : Type 0 where
  pub grown : ℕ
  pub raised : Raised L o a t s grown
  pub from : ℕ
  pub to : ℕ
  pub item_from : from < 10
  pub item_to : to < 10
  pub link : L from to
  pub over : capacity_at s a < onward s o a from to

-- what the functions that raise totals answer: the items whose totals have grown; M is by these
abbrev pub RaisesIf : LinkSet → (ℕ → LinkSet) → ℕ → ℕ → List ℕ → List ℕ → Result ℕ Conflict → Type 0
RaisesIf L M o a t s (Ok g) = Raises L (M g) o a t s g
RaisesIf L M o a t s (Err e) = Bursts L o a t s

-- where one of the two tables starts, and an axis
pub record Linkable (o a : ℕ) : Type 0 where
  pub aligned : o % 30 ≡ 0
  pub most : o ≤ 30
  pub axis : a < 3

-- one link; those from v to the items of a set; those that the rows have in the direction x
abbrev pub Only : ℕ → ℕ → LinkSet
Only v z w y = (w ≡ v) × (y ≡ z)

abbrev pub From : ℕ → ℕ → LinkSet
From v items w z = (w ≡ v) × (bit_at items z ≡ true)

pub record InRows (rows : List ℕ) (x a v z : ℕ) : Type 0 where
  pub item_v : v < 10
  pub item_z : z < 10
  pub bits : (bit_at (row_at rows a v) z && bit_at (row_at rows a v) (x * 10 + z)) ≡ true

-- of the links of L the one from u to v, and those from items of g
abbrev pub On : LinkSet → ℕ → ℕ → ℕ → LinkSet
On L u v g w z = L w z × (Only u v w z ⊎ (bit_at g w ≡ true))

-- rows in which no item has lost anything with itself
pub record Plain (rows : List ℕ) : Type 0 where
  pub long : length rows ≡ 30
  pub small : (i : ℕ) → get_or rows i 0 < 2 ^ 30
  pub self : (a u : ℕ) → a < 3 → u < 10 → bit_at (row_at rows a u) u ≡ false
