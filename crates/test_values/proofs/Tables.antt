-- The array that `array::from_fn` makes of a function is the table of that function.
use Rattle.std.specs.Prelude.{◌≡◌, ◌+◌, ◌<◌}
use Rattle.prelude.specs.Names.{refl, sym, ap, subst, ◌∙◌, List, ℕ, zero, suc, add-one, le_of_eq, arith, length, take, take-suc, take_all}
use Rattle.std.specs.Fn.{Mut, Called}
use Rattle.std.specs.Array.{IsFromFnResult, IsFromFnResultFrom}
use Rattle.test_values.specs.Values.{tabulate}

module _ {F B : Type 0} (g : Mut F (ℕ × Unit {0}) B) (f : F) (h : ℕ → B) (n : ℕ)
    (same : (i : ℕ) (y : B) (q : F) → i < n → Called g f (i, tt) y q → (y ≡ h i) × (q ≡ f)) where
  -- the first i entries are those of the table, and the calls that made the other k are known
  table_from : (ys : List B) (i k : ℕ) → length ys ≡ i + k → i + k ≡ n → take i ys ≡ tabulate i h → IsFromFnResultFrom g f ys i k → ys ≡ tabulate n h
  unfolding tabulate
  table_from ys i zero long e front made =
      let e' : i ≡ n = omega arith in
      sym (take_all i ys (le_of_eq (omega arith))) ∙ front ∙ ap (λ j. tabulate j h) e'
  table_from ys i (suc k) long e front (q, y, at, called, rest) =
      let here = same i y q (omega arith) called in
      table_from ys (i + 1) k (omega arith) (omega arith) (rw (add-one, take-suc ys i y (omega arith), front, at.1 y, here.0))
      (subst (λ p. IsFromFnResultFrom g p ys (i + 1) k) here.1 rest)

  pub table : (ys : List B) → IsFromFnResult g f ys n → ys ≡ tabulate n h
  unfolding tabulate
  table ys made = table_from ys 0 n (omega (arith, made.long)) (omega arith) refl made.each
