-- The starred rows of document 01's "Small halls" as one table: bytes, calls, and what they have to give; and rows for the lags of document 02, #101,
-- its walkway, #105, and pieces that may be turned, #106. proofs/Halls shows it as a whole.
use Rattle.std.specs.Prelude.{◌&&◌, ◌∷◌}
use Rattle.prelude.specs.Names.{Bool, false, List, [], ℕ, eqb}
use Rattle.model.specs.Calls.{Answer, budget_spent, no_packing, packing}
use Rattle.model.specs.Computing.{search_computing}
use Rattle.model.specs.Trials.{Triple, TrialCall, right_problem, xyt, with_budget}
use Rattle.refusal.specs.Numbers.{number_of, place_of}
use Rattle.formats.specs.Reading.{Read, got, refused}
use Rattle.instance.specs.declared.Instance.{Instance}
use Rattle.instance.specs.Sheets.{instance_of, decode}
use Rattle.lists.specs.Lists.{with_lags}
use Rattle.sheet.specs.Computing.{sheet_computing}
use Rattle.instance.specs.Meaning.{problem_of}
use Rattle.turning.specs.Turned.{turnable_of}

-- a refusal's number and place; or the calls made one after the other
pub data HallOutcome : Type 0 where
  refusal : ℕ → ℕ → HallOutcome
  calls : List TrialCall → HallOutcome

pub record HallCase : Type 0 where
  pub bytes : List ℕ
  pub outcome : HallOutcome

abbrev pub outcome_right : Read Instance → HallOutcome → Bool
outcome_right (got i at rest) (refusal number place) = false
outcome_right (got i at rest) (calls cs) = right_problem (turnable_of i) cs
outcome_right (refused e) (refusal number place) = eqb (number_of e) number && eqb (place_of e) place
outcome_right (refused e) (calls cs) = false

-- what the bytes give is what the table says. This opens all that reading and searching compute by
unfoldable pub case_right : HallCase → Bool
unfolding sheet_computing with_lags instance_of decode problem_of turnable_of search_computing
case_right c = outcome_right (decode c.bytes) c.outcome

-- one call with the program's budget: the answer and its steps
abbrev pub once : Answer (List Triple) → ℕ → HallOutcome
once a m = calls (with_budget 1_000_000 a m ∷ [])

abbrev pub hall_case : List ℕ → HallOutcome → HallCase
hall_case bytes outcome = record { bytes = bytes; outcome = outcome }

-- "2×2×2; two of 1×1×1"
abbrev pub cube : List ℕ
cube = 0x0f ∷ 0x02 ∷ 0x00 ∷ 0x02 ∷ 0x00 ∷ 0x02 ∷ 0x00 ∷ 0x02 ∷ 0x00 ∷ 0x00 ∷ []

-- 1×1×shifts; three of 1×1×1; orders 0,1 0,2 1,2 with lags 1, 5, 0
abbrev pub waiting : ℕ → List ℕ
waiting shifts = 0x5c ∷ shifts ∷ 0x00 ∷ 0x03 ∷ 0x00 ∷ 0x00 ∷ 0x00 ∷ 0x03 ∷ 0x00 ∷ 0x01 ∷ 0x00 ∷ 0x02 ∷ 0x01 ∷ 0x02 ∷ 0x01 ∷ 0x05 ∷ 0x00 ∷ []

-- width×1×1; two of 4×1×1; a walkway of 1
abbrev pub passage : ℕ → List ℕ
passage width = 0x89 ∷ width ∷ 0x00 ∷ 0x02 ∷ 0x01 ∷ 0x04 ∷ 0x00 ∷ 0x01 ∷ 0x04 ∷ 0x00 ∷ 0x01 ∷ []

-- the starts of a piece that is turned
abbrev pub turned_at : ℕ → ℕ → ℕ → Triple
turned_at x y t = x ∷ y ∷ t ∷ 1 ∷ []

unfoldable pub cases : List HallCase
cases =
    -- "byte 00 alone: placed 1, no lines"
    hall_case (0x00 ∷ []) (once (packing []) 1)
    -- "2×1×2; 2×1×1, 1×1×1; order 1,0: as printed above"
    ∷ hall_case (0x1d ∷ 0x02 ∷ 0x00 ∷ 0x02 ∷ 0x00 ∷ 0x02 ∷ 0x01 ∷ 0x02 ∷ 0x00 ∷ 0x00 ∷ 0x01 ∷ 0x01 ∷ 0x00 ∷ []) (once (packing (xyt 0 0 1 ∷ xyt 0 0 0 ∷ [])) 1)
    -- "the same, no order: placed 2; piece 0 at t 0, piece 1 at t 1"
    ∷ hall_case (0x0d ∷ 0x02 ∷ 0x00 ∷ 0x02 ∷ 0x00 ∷ 0x02 ∷ 0x01 ∷ 0x02 ∷ 0x00 ∷ 0x00 ∷ []) (once (packing (xyt 0 0 0 ∷ xyt 0 0 1 ∷ [])) 2)
    -- "2×1×1; same pieces, order 1,0: none 1"
    ∷ hall_case (0x19 ∷ 0x02 ∷ 0x00 ∷ 0x02 ∷ 0x01 ∷ 0x02 ∷ 0x00 ∷ 0x00 ∷ 0x01 ∷ 0x01 ∷ 0x00 ∷ []) (once no_packing 1)
    -- "1×1×1; 2×1×1: none 1"
    ∷ hall_case (0x08 ∷ 0x01 ∷ 0x01 ∷ 0x02 ∷ 0x00 ∷ []) (once no_packing 1)
    -- "1×1×1; 1×1×1: placed 1"
    ∷ hall_case (0x08 ∷ 0x01 ∷ 0x00 ∷ []) (once (packing (xyt 0 0 0 ∷ [])) 1)
    -- "2×2×2; two of 1×1×1: placed 3; x 0 and 1"
    ∷ hall_case cube (once (packing (xyt 0 0 0 ∷ xyt 1 0 0 ∷ [])) 3)
    -- "the last, allowances 0, 1, 1, 1: spent 0, spent 1, spent 1, placed 1"
    ∷ hall_case cube
    (calls
    (with_budget 0 budget_spent 0
    ∷ with_budget 1 budget_spent 1
    ∷ with_budget 1 budget_spent 1
    ∷ with_budget 1 (packing (xyt 0 0 0 ∷ xyt 1 0 0 ∷ [])) 1
    ∷ []))
    -- "2×1×1; three of 1×1×1: none 3"
    ∷ hall_case (0x09 ∷ 0x02 ∷ 0x00 ∷ 0x03 ∷ 0x00 ∷ 0x00 ∷ 0x00 ∷ []) (once no_packing 3)
    -- "3×1×3; three of 1×1×1; orders 0,1 1,2 2,0: none 1"
    ∷ hall_case (0x1d ∷ 0x03 ∷ 0x00 ∷ 0x03 ∷ 0x00 ∷ 0x03 ∷ 0x00 ∷ 0x00 ∷ 0x00 ∷ 0x03 ∷ 0x00 ∷ 0x01 ∷ 0x01 ∷ 0x02 ∷ 0x02 ∷ 0x00 ∷ []) (once no_packing 1)
    -- "bytes 01 01 00: refused 3 1"
    ∷ hall_case (0x01 ∷ 0x01 ∷ 0x00 ∷ []) (refusal 3 1)
    -- "bytes 01 02: refused 1 2"
    ∷ hall_case (0x01 ∷ 0x02 ∷ []) (refusal 1 2)
    -- 02, #101: "byte 40 alone is now refused 11 1"
    ∷ hall_case (0x40 ∷ []) (refusal 11 1)
    -- 02, #101: "Fit asks that u's end plus the lag is at most v's start": piece 1 is at t 2 and piece 2 at t 6
    ∷ hall_case (waiting 7) (once (packing (xyt 0 0 0 ∷ xyt 0 0 2 ∷ xyt 0 0 6 ∷ [])) 1)
    -- "On t a chain total adds the lag between neighbours that have an order": it is 7
    ∷ hall_case (waiting 6) (once no_packing 1)
    -- the two without a walkway, in 8×1×1: "left out means 0 and pieces may touch"
    ∷ hall_case (0x09 ∷ 0x08 ∷ 0x00 ∷ 0x02 ∷ 0x01 ∷ 0x04 ∷ 0x00 ∷ 0x01 ∷ 0x04 ∷ 0x00 ∷ []) (once (packing (xyt 0 0 0 ∷ xyt 4 0 0 ∷ [])) 2)
    -- 02, #105: "one ends at least the walkway before the other's start"; "Nothing is needed at the walls"
    ∷ hall_case (passage 9) (once (packing (xyt 0 0 0 ∷ xyt 5 0 0 ∷ [])) 2)
    -- "rule 5's sum one between u and v": 4 + 1 + 4 is above 8
    ∷ hall_case (passage 8) (once no_packing 1)
    -- "3 covers a written width of 0"; a byte that is due; 11 of an empty field of lags "before anything that follows it"
    ∷ hall_case (0x80 ∷ 0x00 ∷ []) (refusal 3 1)
    ∷ hall_case (0x80 ∷ []) (refusal 1 1)
    ∷ hall_case (0xc0 ∷ []) (refusal 11 1)
    -- 02, #106: "Bit 3 of a piece's map, with no field, allows width and depth to be exchanged": 1×2×1; 2×1×1 that may turn, and that may not
    ∷ hall_case (0x0a ∷ 0x02 ∷ 0x00 ∷ 0x01 ∷ 0x09 ∷ 0x02 ∷ 0x00 ∷ []) (once (packing (turned_at 0 0 0 ∷ [])) 2)
    ∷ hall_case (0x0a ∷ 0x02 ∷ 0x00 ∷ 0x01 ∷ 0x01 ∷ 0x02 ∷ 0x00 ∷ []) (once no_packing 1)
    -- "the lowest-numbered turnable piece being the lowest binary digit": 3×1×1; 1×1×1 and 1×2×1, both may turn, and the second has to: choice 2
    ∷ hall_case (0x09 ∷ 0x03 ∷ 0x00 ∷ 0x02 ∷ 0x08 ∷ 0x0a ∷ 0x02 ∷ 0x00 ∷ []) (once (packing (xyt 0 0 0 ∷ turned_at 1 0 0 ∷ [])) 4)
    -- "square pieces count too": 1×1×1; two of 1×1×1 that may turn: a step for each of four choices
    ∷ hall_case (0x08 ∷ 0x02 ∷ 0x08 ∷ 0x08 ∷ []) (once no_packing 4)
    -- bit 4 of a piece's map has no meaning
    ∷ hall_case (0x08 ∷ 0x01 ∷ 0x10 ∷ []) (refusal 2 2)
    ∷ []
