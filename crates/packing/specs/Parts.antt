-- Parts of the test of a packing, each the work of one loop.
use Rattle.std.specs.Prelude.{◌&&◌, ◌||◌, ◌∷◌, ◌+◌, ◌<◌}
use Rattle.prelude.specs.Names.{Bool, true, cond, List, [], ℕ, leb, eqb, get_or}
use Rattle.model.specs.Below.{all_below}
use Rattle.model.specs.Problem.{Problem, Positions, apart_on_some_axis, time}
use Rattle.parts.specs.declared.Item.{Item}
use Rattle.parts.specs.declared.Precedence.{Precedence}
use Rattle.parts.specs.Sizes.{no_item, no_precedence}
use Rattle.instance.specs.declared.Position.{Position}
use Rattle.instance.specs.Values.{origin}
use Rattle.instance.specs.Meaning.{measure_on, start}
use Rattle.packing.specs.declared.axes.Placed.{Placed}

-- one item on one axis: "start plus measure is at most the hall's measure"
unfoldable pub within : Problem → Positions → ℕ → ℕ → Bool
within p q a u = leb (q a u + p.size a u) (p.capacity a)

-- every item on one axis
unfoldable pub inside_on : Problem → Positions → ℕ → Bool
inside_on p q a = all_below p.items (within p q a)

-- item u is apart from every item of a lower number
unfoldable pub apart_from_lower : Problem → Positions → ℕ → Bool
apart_from_lower p q u = all_below u (apart_on_some_axis p q u)

-- the first m precedences name items below n
pub record Named (n m : ℕ) (os : List Precedence) : Type 0 where
  pub predecessor : (k : ℕ) → k < m → (get_or os k no_precedence).predecessor < n
  pub successor : (k : ℕ) → k < m → (get_or os k no_precedence).successor < n

-- item u where a packing puts it
abbrev pub placed_at : List Item → List Position → ℕ → Placed
placed_at items positions u = record { size = (get_or items u no_item).size; position = get_or positions u origin }

-- "Apart on x or y then means that one ends at least the walkway before the other's start": how far, by axis; nothing on t
abbrev pub spacing_on : ℕ → ℕ → ℕ
spacing_on walkway a = cond (eqb a time) 0 walkway

-- start plus measure
unfoldable pub end_of : ℕ → Placed → ℕ
end_of a i = start a i.position + measure_on a i.size

-- one of two items ends at least so far before the other's start
unfoldable pub apart_on : ℕ → ℕ → Placed → Placed → Bool
apart_on walkway a i j =
    leb (end_of a i + spacing_on walkway a) (start a j.position) || leb (end_of a j + spacing_on walkway a) (start a i.position)

-- "u's end plus the lag is at most v's start", in t, over the arrays of items and positions
unfoldable pub precedence_kept : List Item → List Position → Precedence → Bool
precedence_kept items positions o =
    let u = placed_at items positions o.predecessor in
    let v = placed_at items positions o.successor in
    leb (end_of time u + o.lag) (start time v.position)

unfoldable pub all_kept : List Item → List Position → List Precedence → Bool
all_kept items positions [] = true
all_kept items positions (o ∷ os) = precedence_kept items positions o && all_kept items positions os
