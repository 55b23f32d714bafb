-- Orders on a sheet and the precedences of an instance; which orders a sheet may have (document 01, "Sheet bytes" and the refusals 5 and 6).
use Rattle.std.specs.Prelude.{◌&&◌, ◌||◌, ◌∷◌, Option, Some, None}
use Rattle.prelude.specs.Names.{Bool, true, not, List, [], ℕ, ltb, eqb}
use Rattle.parts.specs.declared.Precedence.{Precedence}

-- an order as it is on the sheet: u, v. Its lag is in a field of its own
pub record Arc : Type 0 where
  pub predecessor : ℕ
  pub successor : ℕ

abbrev pub arc_of : Precedence → Arc
arc_of o = record { predecessor = o.predecessor; successor = o.successor }

abbrev pub lag_of : Precedence → ℕ
lag_of o = o.lag

-- the precedence of an order and its lag; of an order whose lag is not read yet
abbrev pub lagged : Arc → ℕ → Precedence
lagged a lag = record { predecessor = a.predecessor; successor = a.successor; lag = lag }

abbrev pub unlagged : Arc → Precedence
unlagged a = lagged a 0

-- 5: "a piece not on the sheet, or u = v in an order" does not hold, with n items
unfoldable pub names_items : ℕ → Arc → Bool
names_items n a = ltb a.predecessor n && (ltb a.successor n && not (eqb a.predecessor a.successor))

-- "Orders rise strictly by u, then v": b is above a
unfoldable pub above : Arc → Arc → Bool
above a b =
    ltb a.predecessor b.predecessor
    || (eqb a.predecessor b.predecessor && ltb a.successor b.successor)

-- 6: "not above the order before" does not hold; the first has none before it
abbrev pub rises : Option Precedence → Arc → Bool
rises None a = true
rises (Some o) a = above (arc_of o) a

-- each order of a list is allowed after the one before
unfoldable pub all_allowed : ℕ → Option Precedence → List Arc → Bool
all_allowed n last [] = true
all_allowed n last (a ∷ later) = (names_items n a && rises last a) && all_allowed n (Some (unlagged a)) later
