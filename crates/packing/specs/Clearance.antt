-- The clearance of two items on an axis, and what is answered (document 01, "Fit" and the refusals 9, 5, 8; document 02, #106 and refusal 13). A walkway
-- changes nothing here: the clearance is the plain distance of starts and ends.
use Rattle.std.specs.Prelude.{◌&&◌, ◌⊎◌, ◌↔◌, ◌≡◌, ◌+◌, ◌≤◌, ◌<◌, ◌+ℤ◌, ◌-ℤ◌, ◌≤ℤ◌, Result, Ok, Err}
use Rattle.prelude.specs.Names.{Bool, true, false, cond, inl, inr, ℕ, ltb, ℤ, pos, nat_abs, lt_z}
use Rattle.model.specs.Problem.{Problem, Positions, EndsAhead}
use Rattle.refusal.specs.declared.Refusal.{Refusal}
use Rattle.refusal.specs.declared.Refusal.TheVariants.{BadItem, BadArgument, InvalidInstance, BadMark}
use Rattle.refusal.specs.Numbers.{number_of, place_of}
use Rattle.instance.specs.declared.Instance.{Instance}
use Rattle.instance.specs.declared.Packing.{Packing}
use Rattle.instance.specs.Valid.{valid}
use Rattle.instance.specs.Meaning.{positions_of}
use Rattle.turning.specs.Turned.{marks_allowed, MarksAllowed}
use Rattle.packing.specs.Check.{turned_by}

-- the greater of two integers
unfoldable pub greater_of : ℤ → ℤ → ℤ
greater_of a b = cond (lt_z a b) b a

-- "v's start − u's end"
unfoldable pub from_end_to_start : Problem → Positions → ℕ → ℕ → ℕ → ℤ
from_end_to_start p q a u v = pos (q a v) -ℤ pos (q a u + p.size a u)

-- "the greater of (v's start − u's end) and (u's start − v's end)"
unfoldable pub clearance_between : Problem → Positions → ℕ → ℕ → ℕ → ℤ
clearance_between p q a u v = greater_of (from_end_to_start p q a u v) (from_end_to_start p q a v u)

-- the answer, or the refusal where the test fails
abbrev pub refused_unless : Bool → Refusal → Result ℤ Refusal → Result ℤ Refusal
refused_unless true e r = r
refused_unless false e r = Err e

-- "9 is tested before 5, 8 and 10 ..; clearance then tests 5 and then 8": 5, with place 0, for an item that is not there; 8 for an axis that is not 0, 1 or 2;
-- and 13, for the mark of any item on the sheet, "after 8"
unfoldable pub clearance_answer : Instance → Packing → ℕ → ℕ → ℕ → Result ℤ Refusal
clearance_answer i q u v a =
    refused_unless (valid i) InvalidInstance
    (refused_unless (ltb u i.item_count && ltb v i.item_count) (BadItem 0)
    (refused_unless (ltb a 3) BadArgument
    (refused_unless (marks_allowed i q.marks) BadMark
    (Ok (clearance_between (turned_by i q) (positions_of q) a u v)))))

-- what is returned: the clearance, or a refusal's number and place
abbrev pub clearance_values : Result ℤ Refusal → ℤ ⊎ (ℕ × ℕ)
clearance_values (Ok z) = inl z
clearance_values (Err e) = inr (number_of e, place_of e)

-- The table's conditions for the clearance, in the order of the tests
pub data ClearanceFault (i : Instance) (q : Packing) (u v a n : ℕ) : Type 0 where
  -- 9: "a sheet value with over 10 pieces, .."
  nine : valid i ≡ false → n ≡ 9 → ClearanceFault i q u v a n
  -- 5: "a piece not on the sheet"
  five : valid i ≡ true → (i.item_count ≤ u) ⊎ (i.item_count ≤ v) → n ≡ 5 → ClearanceFault i q u v a n
  -- 8: "clearance axis not 0, 1 or 2"
  eight : valid i ≡ true → u < i.item_count → v < i.item_count → 3 ≤ a → n ≡ 8 → ClearanceFault i q u v a n
  -- 13: "a plan mark above 1, or 1 on a piece that may not turn"
  thirteen : valid i ≡ true → u < i.item_count → v < i.item_count → a < 3 → (MarksAllowed i q.marks → ⊥) → n ≡ 13
      → ClearanceFault i q u v a n

-- The answer, by these conditions and the definition of the clearance alone
pub record Answers (i : Instance) (q : Packing) (u v a : ℕ) (r : Result ℤ Refusal) : Type 0 where
  -- refused exactly for a condition that holds where none before it does; the place is "0 from clearance and label record"
  pub refused : (n place : ℕ) → (clearance_values r ≡ inr (n, place)) ↔ (ClearanceFault i q u v a n × (place ≡ 0))
  -- the clearance exactly where none holds
  pub value : (z : ℤ) → (clearance_values r ≡ inl z)
      ↔ ((valid i ≡ true) × (u < i.item_count) × (v < i.item_count) × (a < 3) × MarksAllowed i q.marks
      × (z ≡ clearance_between (turned_by i q) (positions_of q) a u v))

-- "above 0 a gap, 0 touching": one item ends so many modules before the other starts
unfoldable pub Gap : Problem → Positions → ℕ → ℕ → ℕ → ℕ → Type 0
Gap p q a u v g = (q a u + p.size a u + g ≡ q a v) ⊎ (q a v + p.size a v + g ≡ q a u)

-- v, moved on the axis by m modules, below 0 towards the origin and past it, starts at or after u's end or ends at or before its start
unfoldable pub PartedByMove : Problem → Positions → ℕ → ℕ → ℕ → ℤ → Type 0
PartedByMove p q a u v m = (pos (q a u + p.size a u) ≤ℤ (pos (q a v) +ℤ m)) ⊎ (((pos (q a v) +ℤ m) +ℤ pos (p.size a v)) ≤ℤ pos (q a u))

-- "the least move on that axis that parts them": some move of v by d modules does, and no move by fewer, either way
pub record LeastMove (p : Problem) (q : Positions) (a u v d : ℕ) : Type 0 where
  pub parts : (m : ℤ) × (nat_abs m ≡ d) × PartedByMove p q a u v m
  pub least : (m : ℤ) → PartedByMove p q a u v m → d ≤ nat_abs m

-- "below 0 the overlap, told as the least move on that axis that parts them, with a minus": of v, and of u
pub record Overlap (p : Problem) (q : Positions) (a u v d : ℕ) : Type 0 where
  pub not_apart : (EndsAhead p q a 0 u v ⊎ EndsAhead p q a 0 v u) → ⊥
  pub of_second : LeastMove p q a u v d
  pub of_first : LeastMove p q a v u d
