-- Document 01's "Plausible errors", each refuted by a small example, halls with lags, pairs by number and earliest finishes (document 02, #101 to #103); by
-- computation. Halls with a walkway and with items that may be turned too (#105, #106).
use Rattle.std.specs.Prelude.{◌&&◌, ◌∷◌, ◌≡◌, ◌+◌, ◌*◌}
use Rattle.prelude.specs.Names.{Bool, true, false, cond, List, [], mem-not_nil, refl, ℕ, zero, suc, arith, leb, ltb}
use Rattle.prelude.specs.Names.{get_or, map, leb-true}
use Rattle.model.specs.Below.{all_below}
use Rattle.model.specs.Problem.{Problem, Precedence, Positions, time, Feasible, ends_before, feasible}
use Rattle.model.specs.Pairs.{Pair, pair_number, pair_of}
use Rattle.model.specs.Domains.{Domains, may_before, may_overlap, remove_overlap, fix_before, fix_overlap, full_domains}
use Rattle.model.specs.Rules.{rule4}
use Rattle.model.specs.Propagate.{propagate}
use Rattle.model.specs.Turning.{Turnable, last_choice}
use Rattle.model.specs.Series.{stage}
use Rattle.model.specs.Search.{infeasible}
use Rattle.model.specs.Calls.{budget_spent, no_packing, packing}
use Rattle.model.specs.Run.{run_end}
use Rattle.model.specs.Earliest.{Finish, earliest_finish}
use Rattle.model.specs.Trials.{Triple, TrialCall, Trial, trial, trial_with, trial_turning, problem, turnable, xyt, unit, with_budget, trial_right}
use Rattle.model.specs.Admits.{Sound}
use Rattle.model.proofs.Feasible.{all-all}
use Rattle.model.proofs.Theorems.{infeasible_exactly}

-- starts given item by item
abbrev at-starts : List Triple → Positions
at-starts s a u = get_or (get_or s u []) a 0

-- "Floor areas that never exceed the hall in a shift taken for a fit". The floor taken by items below n in a shift
abbrev floor_area : Problem → Positions → ℕ → ℕ → ℕ
floor_area p q s zero = 0
floor_area p q s (suc u) =
    cond (leb (q time u) s && ltb s (q time u + p.size time u)) (p.size 0 u * p.size 1 u) 0 + floor_area p q s u

abbrev areas_fit : Problem → Positions → Bool
areas_fit p q = all_below (p.capacity time) (λ s. leb (floor_area p q s p.items) (p.capacity 0 * p.capacity 1))

-- 3×3×1; two of 2×2×1: 8 of 9 fields, and yet nothing fits
abbrev pub two_squares : Problem
two_squares = problem (trial (xyt 3 3 1) (xyt 2 2 1 ∷ xyt 2 2 1 ∷ []) [] [])

pub areas_fit_there : areas_fit two_squares (at-starts []) ≡ true
areas_fit_there = refl

-- with items that are not turned
abbrev as_given : Problem → Turnable
as_given p = record { given = p; may_turn = λ u. false }

pub two_squares_infeasible : run_end (as_given two_squares) ≡ stage 0 infeasible
unfolding trial_right run_end
two_squares_infeasible = refl

two_squares_sound : Sound two_squares
two_squares_sound = record {
  limited = omega arith;
  positive = λ a u la lu. leb-true _ _ ((all-all 3 2 (λ b v. leb 1 (two_squares.size b v))).0 refl a u la lu);
  named = λ o m. absurd (mem-not_nil m);
}

-- so no packing of them is feasible
pub areas_do_not_suffice : (q : Positions) → Feasible two_squares q → ⊥
unfolding last_choice
areas_do_not_suffice q f = (infeasible_exactly (as_given two_squares) two_squares_sound).0 two_squares_infeasible
    (record { positions = q; marks = λ u. false }) (record { allowed = λ u h e. e; feasible = f })

-- "Rule 4 used when only three of the four overlaps are known". On x ab, bc, cd overlap, da and ac do not, and b ends at the start of d
abbrev pub four_in_line : Problem
four_in_line = problem (trial (xyt 7 4 1) (xyt 2 1 1 ∷ xyt 4 1 1 ∷ xyt 2 1 1 ∷ xyt 2 1 1 ∷ []) [] [])

abbrev in_line : Positions
in_line = at-starts (xyt 0 0 0 ∷ xyt 1 1 0 ∷ xyt 4 2 0 ∷ xyt 5 3 0 ∷ [])

pub in_line-feasible : (feasible four_in_line in_line && ends_before four_in_line in_line 0 1 3) ≡ true
unfolding trial_right
in_line-feasible = refl

-- so rule 4 does not ask for "b before d" there, and does with the fourth overlap
unfoldable pub three_overlaps : Domains
three_overlaps = remove_overlap (fix_overlap (fix_overlap (fix_overlap full_domains 0 0 1) 0 1 2) 0 2 3) 0 0 2

pub three_do_not_ask : rule4 four_in_line three_overlaps 0 1 3 ≡ false
unfolding trial_right three_overlaps
three_do_not_ask = refl

pub four_ask : rule4 four_in_line (fix_overlap three_overlaps 0 3 0) 0 1 3 ≡ true
unfolding trial_right three_overlaps
four_ask = refl

-- "A piece that overlaps u taken as standing on the far side of v". On x 0 ends before 1, and 2 overlaps 0: it is not past 1
abbrev pub far_side : Problem
far_side = problem (trial (xyt 4 2 1) (xyt 2 1 1 ∷ unit ∷ xyt 3 1 1 ∷ []) [] [])

abbrev near_side : Positions
near_side = at-starts (xyt 0 0 0 ∷ xyt 2 0 0 ∷ xyt 1 1 0 ∷ [])

pub near_side_feasible : (feasible far_side near_side && ends_before far_side near_side 0 0 1) ≡ true
unfolding trial_right
near_side_feasible = refl

pub not-past : ends_before far_side near_side 0 1 2 ≡ false
unfolding trial_right
not-past = refl

-- with these two relations fixed, propagation removes "1 before 2" and leaves the two others
unfoldable pub near_domains : Domains
near_domains = propagate far_side (fix_overlap (fix_before full_domains 0 0 1) 0 0 2)

pub far_side_removed : may_before near_domains 0 1 2 ≡ false
unfolding trial_right near_domains
far_side_removed = refl

pub near_sides_left : (may_before near_domains 0 2 1 && may_overlap near_domains 0 1 2) ≡ true
unfolding trial_right near_domains
near_sides_left = refl

-- "The last allowed step finds a contradiction and 'none' is reported while a second turn is still due": the second of three steps finds one
pub second_due :
    trial_right (trial (xyt 2 1 1) (unit ∷ unit ∷ unit ∷ []) []
    (with_budget 2 budget_spent 2 ∷ with_budget 1 no_packing 1 ∷ with_budget 1 no_packing 0 ∷ [])) ≡ true
unfolding trial_right
second_due = refl

-- Lags. Three items of 1×1×1 in a hall of 1×1; orders 0, 1 with lag 1; 0, 2 with lag 5; 1, 2 with lag 0. Item 2 waits for the direct order, 1 + 5 shifts,
-- not for the row 0, 1, 2, which is 1 + 1 + 1 + 0 long before it: so 7 shifts are needed, and 6 are one too few
abbrev order : ℕ → ℕ → ℕ → Precedence
order u v lag = record { predecessor = u; successor = v; lag = lag }

abbrev three_orders : List Precedence
three_orders = order 0 1 1 ∷ order 0 2 5 ∷ order 1 2 0 ∷ []

pub lags-kept : trial_right (trial (xyt 1 1 7) (unit ∷ unit ∷ unit ∷ []) three_orders
    (with_budget 9 (packing (xyt 0 0 0 ∷ xyt 0 0 2 ∷ xyt 0 0 6 ∷ [])) 1 ∷ [])) ≡ true
unfolding trial_right
lags-kept = refl

pub lags_too_late : trial_right (trial (xyt 1 1 6) (unit ∷ unit ∷ unit ∷ []) three_orders (with_budget 9 no_packing 1 ∷ [])) ≡ true
unfolding trial_right
lags_too_late = refl

-- orders 0, 1 and 1, 2 with lag 2 each: what follows of 0 and 2 has no lag, and 3 + 2 + 2 shifts are enough
pub lags_follow : trial_right (trial (xyt 1 1 7) (unit ∷ unit ∷ unit ∷ []) (order 0 1 2 ∷ order 1 2 2 ∷ [])
    (with_budget 9 (packing (xyt 0 0 0 ∷ xyt 0 0 3 ∷ xyt 0 0 6 ∷ [])) 1 ∷ [])) ≡ true
unfolding trial_right
lags_follow = refl

-- fit asks for the lag on t: one shift less, and it does not
abbrev lagged : Problem
lagged = problem (trial (xyt 2 1 4) (unit ∷ unit ∷ []) (order 0 1 2 ∷ []) [])

pub lag_missed : (feasible lagged (at-starts (xyt 0 0 0 ∷ xyt 0 0 3 ∷ [])) ≡ true) × (feasible lagged (at-starts (xyt 0 0 0 ∷ xyt 1 0 2 ∷ [])) ≡ false)
unfolding trial_right
lag_missed = (refl, refl)

-- A walkway of 1. Two items of 4×1×1 need a width of 4 + 1 + 4: 8 is enough for them where they may touch
abbrev four_wide : List Triple
four_wide = xyt 4 1 1 ∷ xyt 4 1 1 ∷ []

pub touching : trial_right (trial (xyt 8 1 1) four_wide [] (with_budget 9 (packing (xyt 0 0 0 ∷ xyt 4 0 0 ∷ [])) 2 ∷ [])) ≡ true
unfolding trial_right
touching = refl

pub walkway-missing : trial_right (trial_with 1 (xyt 8 1 1) four_wide [] (with_budget 9 no_packing 1 ∷ [])) ≡ true
unfolding trial_right
walkway-missing = refl

pub walkway-kept : trial_right (trial_with 1 (xyt 9 1 1) four_wide [] (with_budget 9 (packing (xyt 0 0 0 ∷ xyt 5 0 0 ∷ [])) 2 ∷ [])) ≡ true
unfolding trial_right
walkway-kept = refl

-- "a walkway between neighbours": three items of 1×1×1 in a row have two of them, also on y
pub walkways_in_a_row :
    trial_right (trial_with 2 (xyt 1 7 1) (unit ∷ unit ∷ unit ∷ []) []
    (with_budget 9 (packing (xyt 0 0 0 ∷ xyt 0 3 0 ∷ xyt 0 6 0 ∷ [])) 4 ∷ [])) ≡ true
unfolding trial_right
walkways_in_a_row = refl

pub row_too_long : trial_right (trial_with 2 (xyt 1 6 1) (unit ∷ unit ∷ unit ∷ []) [] (with_budget 9 no_packing 3 ∷ [])) ≡ true
unfolding trial_right
row_too_long = refl

-- "nor between pieces apart in time": one after the other they stand in the same place
pub walkway-not_in_time : trial_right (trial_with 1 (xyt 8 1 2) four_wide [] (with_budget 9 (packing (xyt 0 0 0 ∷ xyt 0 0 1 ∷ [])) 2 ∷ [])) ≡ true
unfolding trial_right
walkway-not_in_time = refl

-- Walkway and lag. In a hall of 5×1×4 stand items of 2×1×2, 2×1×2 and 5×1×1; order 0, 2 with lag 1. Items 0 and 1 must stand side by side, which takes 2, the
-- walkway and 2; item 2 waits for 0 and its lag. A walkway of 2 is one too wide
abbrev side_by_side : ℕ → List TrialCall → Trial
side_by_side walkway = trial_with walkway (xyt 5 1 4) (xyt 2 1 2 ∷ xyt 2 1 2 ∷ xyt 5 1 1 ∷ []) (order 0 2 1 ∷ [])

pub walkway_and_lag : trial_right (side_by_side 1 (with_budget 9 (packing (xyt 0 0 0 ∷ xyt 3 0 0 ∷ xyt 0 0 3 ∷ [])) 2 ∷ [])) ≡ true
unfolding trial_right
walkway_and_lag = refl

pub walkway_too_wide : trial_right (side_by_side 2 (with_budget 9 no_packing 1 ∷ [])) ≡ true
unfolding trial_right
walkway_too_wide = refl

-- fit asks for it on x or on y, one of them is enough; corner to corner is closer than the walkway on both
abbrev square : Problem
square = problem (trial_with 1 (xyt 3 3 1) (unit ∷ unit ∷ []) [] [])

pub walkway-on_one_axis : (feasible square (at-starts (xyt 0 0 0 ∷ xyt 2 0 0 ∷ [])) ≡ true) × (feasible square (at-starts (xyt 0 2 0 ∷ xyt 1 0 0 ∷ [])) ≡ true)
    × (feasible square (at-starts (xyt 0 0 0 ∷ xyt 1 1 0 ∷ [])) ≡ false)
unfolding trial_right
walkway-on_one_axis = (refl, refl, refl)

-- Pairs by number: "the sequence (0,1), (0,2), (1,2), (0,3), up to (8,9)" has the numbers 0, 1, 2, 3, up to 44
abbrev items : ℕ → ℕ → Pair
items u v = record { u = u; v = v }

abbrev sequence : List Pair
sequence = items 0 1 ∷ items 0 2 ∷ items 1 2 ∷ items 0 3 ∷ items 8 9 ∷ []

pub sequence_pairs : map pair_of (0 ∷ 1 ∷ 2 ∷ 3 ∷ 44 ∷ []) ≡ sequence
unfolding pair_of
sequence_pairs = refl

pub sequence_numbers : map (λ (c : Pair). pair_number c.u c.v) sequence ≡ 0 ∷ 1 ∷ 2 ∷ 3 ∷ 44 ∷ []
unfolding pair_number
sequence_numbers = refl

-- The earliest finish. Three items of 1×1×1 in a hall of 1×1×4; order 0, 1 with lag 1. The lengths 1 and 2 are impossible after a step each, and 3 is placed
-- after one more; spent comes with the lengths shown, and an empty sheet has length 1 once a step is allowed
abbrev between-shifts : Turnable
between-shifts = turnable (trial (xyt 1 1 4) (unit ∷ unit ∷ unit ∷ []) (order 0 1 1 ∷ []) [])

abbrev empty_hall : Turnable
empty_hall = turnable (trial (xyt 1 1 4) [] [] [])

-- answer (0 spent, 1 placed, 2 none), length, steps
abbrev told : Finish → Triple
told f = elim f.answer [ budget_spent ↦ 0 | no_packing ↦ 2 | packing q ↦ 1 ] ∷ f.length ∷ f.steps ∷ []

pub finishes :
    map (λ budget. told (earliest_finish between-shifts budget)) (0 ∷ 1 ∷ 2 ∷ 3 ∷ 9 ∷ [])
    ≡ (0 ∷ 0 ∷ 0 ∷ []) ∷ (0 ∷ 1 ∷ 1 ∷ []) ∷ (0 ∷ 2 ∷ 2 ∷ []) ∷ (1 ∷ 3 ∷ 3 ∷ []) ∷ (1 ∷ 3 ∷ 3 ∷ []) ∷ []
unfolding trial_right earliest_finish
finishes = refl

pub finishes_empty : map (λ budget. told (earliest_finish empty_hall budget)) (0 ∷ 1 ∷ []) ≡ (0 ∷ 0 ∷ 0 ∷ []) ∷ (1 ∷ 1 ∷ 1 ∷ []) ∷ []
unfolding trial_right earliest_finish
finishes_empty = refl

-- no length of a hall that is too narrow has a packing
pub finishes_none : told (earliest_finish (turnable (trial (xyt 1 1 2) (xyt 2 1 1 ∷ []) [] [])) 2) ≡ (2 ∷ 0 ∷ 2 ∷ [])
unfolding trial_right earliest_finish
finishes_none = refl

-- Items that may be turned. An item of 2×1×1 in a hall of 1×2×1 is too wide as it is given: one step opens the choice in which it is turned, and the next
-- places
-- it. Where it may not turn, the one step says none
abbrev turned_at : ℕ → ℕ → ℕ → Triple
turned_at x y t = x ∷ y ∷ t ∷ 1 ∷ []

pub fits-turned : trial_right (trial_turning (xyt 1 2 1) (xyt 2 1 1 ∷ []) (true ∷ [])
    (with_budget 1 budget_spent 1 ∷ with_budget 9 (packing (turned_at 0 0 0 ∷ [])) 1 ∷ [])) ≡ true
unfolding trial_right
fits-turned = refl

pub may_not_turn : trial_right (trial_turning (xyt 1 2 1) (xyt 2 1 1 ∷ []) (false ∷ []) (with_budget 9 no_packing 1 ∷ [])) ≡ true
unfolding trial_right
may_not_turn = refl

-- "the lowest-numbered turnable piece being the lowest binary digit": in a hall of 3×1×1 the second of two items has to be turned, which is choice 2. Choices 0
-- and 1 take a step each, choice 2 takes two
pub second_turned : trial_right (trial_turning (xyt 3 1 1) (unit ∷ xyt 1 2 1 ∷ []) (true ∷ true ∷ [])
    (with_budget 2 budget_spent 2 ∷ with_budget 1 budget_spent 1 ∷ with_budget 9 (packing (xyt 0 0 0 ∷ turned_at 1 0 0 ∷ [])) 1 ∷ [])) ≡ true
unfolding trial_right
second_turned = refl

-- an item that may not turn has no digit: with one of them between, the same is choice 2 of four
pub no_digit_between : trial_right (trial_turning (xyt 4 1 1) (unit ∷ unit ∷ xyt 1 2 1 ∷ []) (true ∷ false ∷ true ∷ [])
    (with_budget 2 budget_spent 2 ∷ with_budget 99 (packing (xyt 0 0 0 ∷ xyt 1 0 0 ∷ turned_at 2 0 0 ∷ [])) 4 ∷ [])) ≡ true
unfolding trial_right
no_digit_between = refl

-- "square pieces count too": two units are too many for one place in each of four choices
pub squares_count : trial_right (trial_turning unit (unit ∷ unit ∷ []) (true ∷ true ∷ []) (with_budget 9 no_packing 4 ∷ with_budget 9 no_packing 0 ∷ [])) ≡ true
unfolding trial_right
squares_count = refl

-- the earliest finish goes through all choices at each length: two items of 2×1×1 take the floor of 1×2 in turn, each turned. Length 1 has four choices of
-- a step;
-- length 2 three, and two steps in the last
pub finishes_turned :
    map (λ budget. told (earliest_finish (turnable (trial_turning (xyt 1 2 3) (xyt 2 1 1 ∷ xyt 2 1 1 ∷ []) (true ∷ true ∷ []) [])) budget)) (3 ∷ 4 ∷ 8 ∷ 9 ∷ [])
    ≡ (0 ∷ 0 ∷ 3 ∷ []) ∷ (0 ∷ 1 ∷ 4 ∷ []) ∷ (0 ∷ 1 ∷ 8 ∷ []) ∷ (1 ∷ 2 ∷ 9 ∷ []) ∷ []
unfolding trial_right earliest_finish
finishes_turned = refl
