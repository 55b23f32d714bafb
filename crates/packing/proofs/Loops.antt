-- The tests of a packing, as the code makes them.
use Rattle.std.specs.Prelude.{◌&&◌, ◌||◌, ◌∷◌, ◌++◌, ◌≡◌, ◌≤◌, ◌<◌}
use Rattle.prelude.specs.Names.{Bool, true, false, or_comm, and_comm, and_assoc, List, [], map, refl, sym}
use Rattle.prelude.specs.Names.{ap, ℕ, zero, suc, arith, dec_lt, leb, eqb, length, get_or, take, take-suc, eq-eqb, ne_eqb}
use mathlib.Core.Path.{fun_ext}
use Rattle.model.specs.Below.{some_below, all_below, all_in}
use Rattle.model.specs.Problem.{Problem, Positions, spacing, ends_before, ends_ahead, inside_test, apart_on_some_axis, apart_test, ordered_test, time}
use Rattle.model.proofs.Below.{below_three, all-at, all_of, or_left, or_right}
use Rattle.model.proofs.Order.{implies_eq}
use Rattle.parts.specs.declared.Precedence.{Precedence}
use Rattle.parts.specs.declared.Item.{Item}
use Rattle.parts.specs.Sizes.{no_precedence}
use Rattle.instance.specs.declared.Instance.{Instance}
use Rattle.instance.specs.declared.Packing.{Packing}
use Rattle.instance.specs.declared.Position.{Position}
use Rattle.instance.specs.Valid.{precedences_of}
use Rattle.instance.specs.Meaning.{precedence_of, measure_on, problem_of, positions_of}
use Rattle.packing.specs.declared.axes.Axis.{Axis}
use Rattle.packing.specs.declared.axes.Axis.TheVariants.{X, Y, T}
use Rattle.packing.specs.Axes.{axis_number}
use Rattle.packing.specs.Parts.{within, inside_on, apart_from_lower, placed_at, end_of, apart_on, precedence_kept, all_kept}
use Rattle.packing.specs.declared.axes.Placed.{Placed}
use Rattle.model.specs.Problem as M

both_pass : (b : Bool) {c d : Bool} → c ≡ d → elim b as (λ _. Bool) [ true ↦ c | false ↦ false ] ≡ (b && d)
both_pass true e = e
both_pass false e = refl

pub axis_number-small : (a : Axis) → axis_number a < 3
axis_number-small X = omega arith
axis_number-small Y = omega arith
axis_number-small T = omega arith

-- the axis at each place of x, y and t has that number
pub numbered : {A : Type 0} (f : ℕ → A) (k : ℕ) → k < 3 → f (axis_number (get_or (X ∷ Y ∷ T ∷ []) k X)) ≡ f k
numbered f k h = below_three (λ k. f (axis_number (get_or (X ∷ Y ∷ T ∷ []) k X)) ≡ f k) refl refl refl k h

module _ (p : Problem) (q : Positions) where
  pub inside_loop : inside_test p q ≡ all_below 3 (inside_on p q)
  unfolding inside_test inside_on within
  inside_loop = refl

  apart_symmetric : (u v : ℕ) → apart_on_some_axis p q u v ≡ apart_on_some_axis p q v u
  unfolding apart_on_some_axis
  apart_symmetric u v = ap (some_below 3) (fun_ext λ a. or_comm (ends_before p q a u v) (ends_before p q a v u))

  -- it is enough to try each two items once, the higher number first
  apart_loop : apart_test p q ≡ all_below p.items (apart_from_lower p q)
  unfolding apart_test apart_from_lower
  apart_loop = implies_eq
      (λ e. all_of p.items (apart_from_lower p q) λ u lu. all_of u (apart_on_some_axis p q u) λ v lv.
      rw (ne_eqb u v (omega arith)) at (all-at p.items (clear u) (all-at p.items (λ x. all_below p.items (clear x)) e u lu) v (omega arith)))
      (λ e. all_of p.items (λ x. all_below p.items (clear x)) λ u lu. all_of p.items (clear u) λ v lv.
      to e u v lu lv (dec_lt v u) (dec_lt u v))
    where
      clear : ℕ → ℕ → Bool
      clear u v = eqb u v || apart_on_some_axis p q u v

      at : all_below p.items (apart_from_lower p q) ≡ true → (u v : ℕ) → u < p.items → v < u → apart_on_some_axis p q u v ≡ true
      at e u v lu l = all-at u (apart_on_some_axis p q u) (all-at p.items (apart_from_lower p q) e u lu) v l

      to : all_below p.items (apart_from_lower p q) ≡ true → (u v : ℕ) → u < p.items → v < p.items → Dec (v < u) → Dec (u < v) → clear u v ≡ true
      to e u v lu lv (yes l) d = or_right (eqb u v) (at e u v lu l)
      to e u v lu lv (no k) (yes l) = or_right (eqb u v) (rw (apart_symmetric u v) (at e v u lv l))
      to e u v lu lv (no k) (no l) = or_left _ (eq-eqb u v (omega arith))

-- The same tests over the arrays that the code reads.
module _ (items : List Item) (positions : List Position) where
  -- item u ends within a limit on the axis
  unfoldable pub within_limit : ℕ → ℕ → ℕ → Bool
  within_limit a limit u = leb (end_of a (placed_at items positions u)) limit

  kept_last : (os : List Precedence) (o : Precedence)
      → all_kept items positions (os ++ o ∷ []) ≡ (precedence_kept items positions o && all_kept items positions os)
  unfolding all_kept
  kept_last [] o = refl
  kept_last (x ∷ os) o = rw (kept_last os o, ← and_assoc, and_comm (precedence_kept items positions x) (precedence_kept items positions o), and_assoc)

  -- the first m precedences, one after the other
  pub kept_loop : (os : List Precedence) (m : ℕ) → m ≤ length os
      → all_kept items positions (take m os) ≡ all_below m (λ k. precedence_kept items positions (get_or os k no_precedence))
  unfolding all_kept
  kept_loop os zero h = refl
  kept_loop os (suc m) h =
      rw (take-suc os m no_precedence, kept_last) (sym (both_pass (precedence_kept items positions _) (sym (kept_loop os m (omega arith)))))

module _ (i : Instance) (q : Packing) where
  pub inside_by : (a : ℕ) {limit : ℕ} → limit ≡ measure_on a i.container
      → inside_on (problem_of i) (positions_of q) a ≡ all_below i.item_count (within_limit i.items q.positions a limit)
  unfolding inside_on within within_limit end_of problem_of positions_of
  inside_by a e = rw e

  pub apart_by : apart_test (problem_of i) (positions_of q) ≡ all_below i.item_count (apart_from_lower (problem_of i) (positions_of q))
  unfolding problem_of
  apart_by = apart_loop _ _

  module _ (u v : ℕ) {x y : Placed} (e : x ≡ placed_at i.items q.positions u) (f : y ≡ placed_at i.items q.positions v) where
    pub apart_by_axes : apart_on_some_axis (problem_of i) (positions_of q) u v ≡ some_below 3 (λ a. apart_on i.walkway a x y)
    unfolding apart_on_some_axis ends_before ends_ahead spacing apart_on end_of problem_of positions_of
    apart_by_axes = rw (e, f)

  pub ordered_by : ordered_test (problem_of i) (positions_of q) ≡ all_kept i.items q.positions (precedences_of i)
  unfolding ordered_test ends_ahead all_kept precedence_kept end_of problem_of positions_of
  ordered_by = go (precedences_of i)
    where
      go : (os : List Precedence)
          → all_in (λ (o : M.Precedence). ends_ahead (problem_of i) (positions_of q) time o.lag o.predecessor o.successor) (map precedence_of os)
          ≡ all_kept i.items q.positions os
      go [] = refl
      go (o ∷ os) = both_pass (precedence_kept i.items q.positions o) (go os)
