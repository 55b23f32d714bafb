-- The greatest length in conflict, by bisection.
use Rattle.std.specs.Prelude.{◌⊎◌, ◌≡◌, ◌-◌, ◌/◌, ◌≤◌, ◌<◌}
use Rattle.prelude.specs.Names.{true, false, inr, sym, ap, ◌∙◌, subst, Bool, ℕ, suc, arith}
use Rattle.model.proofs.Shorter.{conflict_shorter}
use Rattle.model.specs.Earliest.{shortened}
use Rattle.model.specs.Turning.{Turnable, choice_problem, last_choice}
use Rattle.instance.specs.Meaning.{problem_of}
use Rattle.turning.specs.Turned.{turnable_of}
use Rattle.instance.specs.Valid.{valid}
use Rattle.instance.specs.declared.Instance.{Instance}
use Rattle.instance.proofs.Sheets.{valid-says}
use Rattle.makespan.specs.Results.{choices_of, Conflicting, ConflictIf, LastConflict}
use Rattle.makespan.proofs.Lengths.{with_shifts, shortened-problem, same_choices, shortened-valid}

-- all lengths up to n are in conflict; the one past n, up to m, is not
abbrev UpTo : Turnable → ℕ → Type 0
UpTo t n = (l : ℕ) → 1 ≤ l → l ≤ n → Conflicting (shortened t l)

abbrev Past : Turnable → ℕ → ℕ → Type 0
Past t m n = (n ≡ m) ⊎ (Conflicting (shortened t (suc n)) → ⊥)

-- the greatest is `low` at least and `high` at most; j is the instance but for its shifts
pub record Between (i j : Instance) (low high : ℕ) : Type 0 where
  pub same : j ≡ with_shifts i j.container.shifts
  pub order : low ≤ high
  pub most : high ≤ i.container.shifts
  pub up_to : UpTo (turnable_of i) low
  pub past : Past (turnable_of i) i.container.shifts high

-- the instance in the middle
module _ {i j : Instance} {low high : ℕ} (β : Between i j low high) (v : valid i ≡ true) (h : low < high) where
  abbrev middle : ℕ
  middle = high - (high - low) / 2

  in_the_middle : with_shifts j middle ≡ with_shifts i middle
  in_the_middle = ap (λ i. with_shifts i middle) β.same

  pub valid_there : valid (with_shifts j middle) ≡ true
  valid_there =
      let most : middle ≤ i.container.shifts = omega (arith, β.most) in
      subst (λ i. valid i ≡ true) (sym in_the_middle) (shortened-valid i middle (omega arith) most v)

  pub choices_there : {choices : ℕ} → choices ≡ choices_of (turnable_of i) → choices ≡ choices_of (turnable_of (with_shifts j middle))
  choices_there e = e ∙ sym (ap (λ i. choices_of (turnable_of i)) in_the_middle ∙ same_choices i middle)

  -- what the test says is said of the shortened problem
  tested : (b : Bool) → ConflictIf (turnable_of (with_shifts j middle)) b → ConflictIf (shortened (turnable_of i) middle) b
  tested b said = subst (λ t. ConflictIf t b) (ap turnable_of in_the_middle ∙ shortened-problem i middle) said

  -- where it is in conflict, so are all before it
  shorter : Conflicting (shortened (turnable_of i) middle) → UpTo (turnable_of i) middle
  unfolding turnable_of problem_of last_choice
  shorter there = λ l a b n k. conflict_shorter (choice_problem (turnable_of i) n) l middle b (valid-says i v).items-few (there n k)

  pub between_above : ConflictIf (turnable_of (with_shifts j middle)) true → Between i (with_shifts j middle) middle high
  between_above said =
      record { same = in_the_middle; order = omega arith; most = β.most; up_to = shorter (tested true said); past = β.past }

  -- where it is not, it is past the new `high`
  pub between_below : ConflictIf (turnable_of (with_shifts j middle)) false → Between i (with_shifts j middle) low (middle - 1)
  between_below said =
      let next : suc (middle - 1) ≡ middle = omega arith in
      record {
        same = in_the_middle;
        order = omega arith;
        most = omega (arith, β.most);
        up_to = β.up_to;
        past = inr (subst (λ l. Conflicting (shortened (turnable_of i) l) → ⊥) (sym next) (tested false said));
      }

pub last_conflict : {i j : Instance} {low high : ℕ} → Between i j low high → high ≤ low → LastConflict (turnable_of i) low
unfolding turnable_of problem_of
last_conflict {i} {j} {low} {high} β h =
    let same : high ≡ low = omega (arith, β.order) in
    record { most = omega (arith, β.most); up_to = β.up_to; greatest = subst (Past (turnable_of i) _) same β.past }
