-- Items that may be turned (document 02, #106): the choices of which are turned, the problem of each, and plans with marks.
use Rattle.std.specs.Prelude.{◌&&◌, ◌≡◌, ◌*◌, ◌/◌, ◌-◌, ◌<◌}
use Rattle.prelude.specs.Names.{Bool, true, false, cond, ℕ, zero, suc}
use Rattle.model.specs.Problem.{Problem, Positions, Feasible}
use Rattle.model.specs.Domains.{odd}

-- a problem with its items as they are given, and which of them "may be turned"
pub record Turnable : Type 0 where
  pub given : Problem
  pub may_turn : ℕ → Bool

-- "allows width and depth to be exchanged": the axis from which an item that is turned, or is not, has its measure
abbrev pub measured_on : Bool → ℕ → ℕ
measured_on true zero = 1
measured_on true (suc zero) = 0
measured_on true (suc (suc a)) = suc (suc a)
measured_on false a = a

-- the problem with the marked items turned
abbrev pub turned : Problem → (ℕ → Bool) → Problem
turned p marks = record {
  items = p.items;
  size = λ a u. p.size (measured_on (marks u) a) u;
  capacity = p.capacity;
  walkway = p.walkway;
  precedences = p.precedences;
}

-- what is left of a choice at item u, where each item before it that may turn has taken a binary digit, "the lowest-numbered turnable piece being the lowest"
abbrev pub digits_from : (ℕ → Bool) → ℕ → ℕ → ℕ
digits_from may_turn c zero = c
digits_from may_turn c (suc u) = cond (may_turn u) (digits_from may_turn c u / 2) (digits_from may_turn c u)

-- "1 for turned; square pieces count too"
unfoldable pub marks_of : (ℕ → Bool) → ℕ → ℕ → Bool
marks_of may_turn c u = may_turn u && odd (digits_from may_turn c u)

-- the problem of a choice
abbrev pub choice_problem : Turnable → ℕ → Problem
choice_problem t c = turned t.given (marks_of t.may_turn c)

-- how many choices there are for the k items from u on
abbrev pub choice_count : (ℕ → Bool) → ℕ → ℕ → ℕ
choice_count may_turn u zero = 1
choice_count may_turn u (suc k) = cond (may_turn u) (2 * choice_count may_turn (suc u) k) (choice_count may_turn (suc u) k)

-- "Choices are counted upward from 0": the last
unfoldable pub last_choice : Turnable → ℕ
last_choice t = choice_count t.may_turn 0 t.given.items - 1

-- "A plan holds one mark a piece"
pub record Plan : Type 0 where
  pub positions : Positions
  pub marks : ℕ → Bool

-- a plan fits: only items that may turn are marked, and with these turned it is feasible
pub record Fits (t : Turnable) (q : Plan) : Type 0 where
  pub allowed : (u : ℕ) → u < t.given.items → q.marks u ≡ true → t.may_turn u ≡ true
  pub feasible : Feasible (turned t.given q.marks) q.positions
