-- A packing problem with precedences, and its feasible packings (document 01, "Fit"; lags: document 02, #101; the walkway: #105).
-- Axes are 0 (x), 1 (y) and 2 (t); items count from 0.
use Rattle.std.specs.Prelude.{◌&&◌, ◌||◌, ◌∷◌, ◌⊎◌, ◌≢◌, ◌+◌, ◌<◌, ◌≤◌}
use Rattle.prelude.specs.Names.{Bool, cond, List, [], Mem, ℕ, max, leb, eqb}
use Rattle.model.specs.Below.{some_below, all_below, all_in}

-- the axis t, on which precedences act
abbrev pub time : ℕ
time = 2

-- "order u, v": u is lifted before v is set, and the lag is "some shifts between lifting a piece and setting the next that waits for it"
pub record Precedence : Type 0 where
  pub predecessor : ℕ
  pub successor : ℕ
  pub lag : ℕ

-- a hall with its pieces and orders: how many items, their measures by axis and item, the container's measures by axis, the width of "a passage between
-- pieces that stand in the hall in the same shift", the precedences
pub record Problem : Type 0 where
  pub items : ℕ
  pub size : ℕ → ℕ → ℕ
  pub capacity : ℕ → ℕ
  pub walkway : ℕ
  pub precedences : List Precedence

-- "A plan gives each piece x, y and t": the start of each item, by axis and item
abbrev pub Positions : Type 0
Positions = ℕ → ℕ → ℕ

-- u ends at least g before v's start: u's start plus its measure, its end, plus g is at most v's start
unfoldable pub EndsAhead : Problem → Positions → ℕ → ℕ → ℕ → ℕ → Type 0
EndsAhead p q a g u v = q a u + p.size a u + g ≤ q a v

-- how far two items are from each other that are apart on an axis: the walkway on x and y; on t nothing, "nor between pieces apart in time"
unfoldable pub spacing : Problem → ℕ → ℕ
spacing p a = cond (eqb a time) 0 p.walkway

-- "Apart on x or y then means that one ends at least the walkway before the other's start"; on t "one ends at or before the other's start (touching is
-- allowed)". This is what "u before v" means; "overlap" is that neither is before the other: on x and y that they are closer than the walkway
unfoldable pub EndsBefore : Problem → Positions → ℕ → ℕ → ℕ → Type 0
EndsBefore p q a u v = EndsAhead p q a (spacing p a) u v

-- "A plan fits when:"
pub record Feasible (p : Problem) (q : Positions) : Type 0 where
  -- "on each axis, start plus measure is at most the hall's measure"; "Nothing is needed at the walls"
  pub inside : (a u : ℕ) → a < 3 → u < p.items → q a u + p.size a u ≤ p.capacity a
  -- "each two pieces are apart on some axis"
  pub apart : (u v : ℕ) → u < p.items → v < p.items → u ≢ v → (a : ℕ) × (a < 3) × (EndsBefore p q a u v ⊎ EndsBefore p q a v u)
  -- "for each order u, v: u's end in t" "plus the lag is at most v's start"
  pub ordered : (o : Precedence) → Mem o p.precedences → EndsAhead p q time o.lag o.predecessor o.successor

-- The same as tests. proofs/Feasible shows that they agree.
unfoldable pub ends_ahead : Problem → Positions → ℕ → ℕ → ℕ → ℕ → Bool
ends_ahead p q a g u v = leb (q a u + p.size a u + g) (q a v)

unfoldable pub ends_before : Problem → Positions → ℕ → ℕ → ℕ → Bool
ends_before p q a u v = ends_ahead p q a (spacing p a) u v

unfoldable pub inside_test : Problem → Positions → Bool
inside_test p q = all_below 3 (λ a. all_below p.items (λ u. leb (q a u + p.size a u) (p.capacity a)))

unfoldable pub apart_on_some_axis : Problem → Positions → ℕ → ℕ → Bool
apart_on_some_axis p q u v = some_below 3 (λ a. ends_before p q a u v || ends_before p q a v u)

unfoldable pub apart_test : Problem → Positions → Bool
apart_test p q = all_below p.items (λ u. all_below p.items (λ v. eqb u v || apart_on_some_axis p q u v))

unfoldable pub ordered_test : Problem → Positions → Bool
ordered_test p q = all_in (λ (o : Precedence). ends_ahead p q time o.lag o.predecessor o.successor) p.precedences

unfoldable pub feasible : Problem → Positions → Bool
feasible p q = inside_test p q && (apart_test p q && ordered_test p q)

-- "the lag between neighbours that have an order": that of the precedence u, v itself, the greatest if several name the two; 0 if none does
abbrev pub lag_between : List Precedence → ℕ → ℕ → ℕ
lag_between [] u v = 0
lag_between (o ∷ l) u v = max (cond (eqb o.predecessor u && eqb o.successor v) o.lag 0) (lag_between l u v)

-- what lies between two items that are neighbours in a chain: on t their lag; "on x and y a chain counts a walkway between neighbours". proofs/Gap joins it
-- to `apart` and `ordered`
unfoldable pub gap : Problem → ℕ → ℕ → ℕ → ℕ
gap p a u v = cond (eqb a time) (lag_between p.precedences u v) p.walkway
