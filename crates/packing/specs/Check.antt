-- What the check of a packing answers (document 01, "Fit" and refusal 9; document 02, #106 and refusal 13).
use Rattle.std.specs.Prelude.{◌↔◌, ◌≡◌, ◌+◌, Result, Ok, Err, MatchResult}
use Rattle.prelude.specs.Names.{Bool, true, false, List, ℕ}
use Rattle.refusal.specs.declared.Refusal.{Refusal}
use Rattle.refusal.specs.declared.Refusal.TheVariants.{InvalidInstance, BadMark}
use Rattle.refusal.specs.Numbers.{number_of}
use Rattle.instance.specs.declared.Instance.{Instance}
use Rattle.instance.specs.declared.Packing.{Packing}
use Rattle.instance.specs.declared.valid.ValidInstance.{ValidInstance}
use Rattle.instance.specs.Valid.{valid}
use Rattle.instance.specs.Meaning.{problem_of, positions_of}
use Rattle.model.specs.Turning.{turned}
use Rattle.turning.specs.Turned.{marks_in, turned_instance, marks_allowed, MarksAllowed}
use Rattle.model.specs.Problem as M

-- "9 is tested before 5, 8 and 10 by whoever takes a sheet value"; "13, place 0, is a plan mark above 1, or 1 on a piece that may not turn, met by check and
-- clearance after 8"; then yes or no
abbrev pub check_answer_if : Bool → Bool → Bool → Result Bool Refusal
check_answer_if false allowed feasible = Err InvalidInstance
check_answer_if true false feasible = Err BadMark
check_answer_if true true feasible = Ok feasible

-- what an instance asks for, with the items turned that a packing marks
abbrev pub turned_by : Instance → Packing → M.Problem
turned_by i q = turned (problem_of i) (marks_in q.marks)

-- the instance with its marked items turned, or 13 where a mark may not stand
abbrev pub TurnsMarked : Instance → List ℕ → Result ValidInstance Refusal → Type 0
TurnsMarked i marks r = MatchResult r (λ turned. (marks_allowed i marks ≡ true) × (turned.instance ≡ turned_instance i marks))
    (λ e. (marks_allowed i marks ≡ false) × (e ≡ BadMark))

unfoldable pub check_answer : Instance → Packing → Result Bool Refusal
check_answer i q = check_answer_if (valid i) (marks_allowed i q.marks) (M.feasible (turned_by i q) (positions_of q))

-- "Check returns 0 no, 1 yes, 100 plus the number for a refusal"
abbrev pub check_number : Result Bool Refusal → ℕ
check_number (Ok false) = 0
check_number (Ok true) = 1
check_number (Err e) = 100 + number_of e

-- The table's conditions for the check, in the order of the tests
pub data CheckFault (i : Instance) (q : Packing) (n : ℕ) : Type 0 where
  -- 9: "a sheet value with over 10 pieces, .."
  nine : valid i ≡ false → n ≡ 9 → CheckFault i q n
  -- 13: "a plan mark above 1, or 1 on a piece that may not turn"
  thirteen : valid i ≡ true → (MarksAllowed i q.marks → ⊥) → n ≡ 13 → CheckFault i q n

-- The answer, by the definition of a feasible packing alone: yes, or refused; all else is no.
pub record Decides (i : Instance) (q : Packing) (r : Result Bool Refusal) : Type 0 where
  -- 1, "yes": "A plan fits when ..", exactly for an instance and a packing that is feasible in it with the marked items turned
  pub yes : (check_number r ≡ 1) ↔ ((valid i ≡ true) × MarksAllowed i q.marks × M.Feasible (turned_by i q) (positions_of q))
  -- refused exactly for a condition that holds where none before it does
  pub refused : (n : ℕ) → (check_number r ≡ 100 + n) ↔ CheckFault i q n
