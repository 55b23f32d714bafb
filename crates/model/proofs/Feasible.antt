-- The test of a packing passes exactly when the packing is feasible.
use Rattle.std.specs.Prelude.{◌&&◌, ◌||◌, ◌⊎◌, ◌↔◌, ◌≡◌, ◌+◌, ◌<◌}
use Rattle.prelude.specs.Names.{Bool, true, ⊎_elim, ⊎_map, ℕ, ℕ_discrete, leb, eqb, leb-true, le-leb, eqb-true}
use Rattle.prelude.specs.Names.{eq-eqb}
use Rattle.model.specs.Below.{all_below}
use Rattle.model.specs.Problem.{Problem, Precedence, Positions, EndsBefore, EndsAhead, ends_before, ends_ahead, Feasible, feasible, inside_test}
use Rattle.model.specs.Problem.{apart_test, ordered_test, apart_on_some_axis, time}
use Rattle.model.proofs.Below.{and_intro, and_both, or_left, or_right, or_case, all-at, all_of, some_at, some_of, in_at, in_of}

pub all-all : (m n : ℕ) (f : ℕ → ℕ → Bool) → (all_below m (λ i. all_below n (f i)) ≡ true) ↔ ((i j : ℕ) → i < m → j < n → f i j ≡ true)
all-all m n f = (
  λ e i j li lj. all-at n (f i) (all-at m (λ i. all_below n (f i)) e i li) j lj,
  λ h. all_of m (λ i. all_below n (f i)) (λ i li. all_of n (f i) (λ j lj. h i j li lj)),
)

module _ (p : Problem) (q : Positions) where
  apart_exactly : (u v : ℕ) → (apart_on_some_axis p q u v ≡ true) ↔ ((a : ℕ) × (a < 3) × (EndsBefore p q a u v ⊎ EndsBefore p q a v u))
  unfolding apart_on_some_axis ends_before ends_ahead EndsBefore EndsAhead
  apart_exactly u v = (
    λ e.
        let (a, l, d) = some_at 3 (λ a. ends_before p q a u v || ends_before p q a v u) e in
        (a, l, ⊎_map (leb-true _ _) (leb-true _ _) (or_case (ends_before p q a u v) (ends_before p q a v u) d)),
    λ (a, l, d). some_of 3 (λ a. ends_before p q a u v || ends_before p q a v u) a l
        (⊎_elim (λ b. or_left _ (le-leb _ _ b)) (λ b. or_right (ends_before p q a u v) (le-leb _ _ b)) d),
  )

  abbrev inside : ℕ → ℕ → Bool
  inside a u = leb (q a u + p.size a u) (p.capacity a)

  abbrev clear : ℕ → ℕ → Bool
  clear u v = eqb u v || apart_on_some_axis p q u v

  abbrev kept : Precedence → Bool
  kept o = ends_ahead p q time o.lag o.predecessor o.successor

  -- the test and the record agree
  pub feasible_exactly : (feasible p q ≡ true) ↔ Feasible p q
  unfolding feasible inside_test apart_test ordered_test ends_ahead EndsAhead
  feasible_exactly = (
    λ e.
        let (i, r) = and_both (inside_test p q) (apart_test p q && ordered_test p q) e in
        let (c, o) = and_both (apart_test p q) (ordered_test p q) r in
        record {
          inside = λ a u la lu. leb-true _ _ ((all-all 3 p.items inside).0 i a u la lu);
          apart = λ u v lu lv d. ⊎_elim (λ s. absurd (d (eqb-true u v s))) (apart_exactly u v).0
              (or_case (eqb u v) (apart_on_some_axis p q u v) ((all-all p.items p.items clear).0 c u v lu lv));
          ordered = λ x m. leb-true _ _ (in_at kept p.precedences o x m);
        },
    λ f. and_intro ((all-all 3 p.items inside).1 (λ a u la lu. le-leb _ _ (f.inside a u la lu)))
        (and_intro ((all-all p.items p.items clear).1 (λ u v lu lv. elim (ℕ_discrete u v) [
          | yes e ↦ or_left (apart_on_some_axis p q u v) (eq-eqb u v e)
          | no d ↦ or_right (eqb u v) ((apart_exactly u v).1 (f.apart u v lu lv d))
        ]))
        (in_of kept p.precedences (λ x m. le-leb _ _ (f.ordered x m)))),
  )
