-- The greatest chains ending and starting in an item: the laws of proofs/Chain for both.
use Rattle.std.specs.Prelude.{◌∷◌, ◌≡◌, ◌≤◌, ◌<◌}
use Rattle.prelude.specs.Names.{true, [], ℕ}
use Rattle.model.specs.Problem.{Problem}
use Rattle.model.specs.Domains.{Domains, fixed_before}
use Rattle.model.specs.Rules.{joined, ending, starting, greatest_ending, greatest_starting}
use Rattle.model.proofs.Chain.{Transitive, most-size, back_mono, front_mono, greatest-within, greatest_bound, greatest-step}

module _ (p : Problem) (k : Domains) (a : ℕ) where
  pub greatest_ending-size : (u : ℕ) → p.size a u ≤ greatest_ending p k a u
  unfolding greatest_ending ending
  greatest_ending-size u = most-size p a (λ u v. fixed_before k a v u) (λ u v x. joined p a v u x (p.size a u)) p.items (u ∷ []) u

  pub greatest_starting-size : (u : ℕ) → p.size a u ≤ greatest_starting p k a u
  unfolding greatest_starting starting
  greatest_starting-size u = most-size p a (λ u v. fixed_before k a u v) (λ u v x. joined p a u v (p.size a u) x) p.items (u ∷ []) u

  -- a bound that every fixed "before" keeps bounds the greatest chains
  module _ (c : ℕ → ℕ) (alone : (u : ℕ) → u < p.items → p.size a u ≤ c u) where
    pub greatest_ending-within : ((v u x : ℕ) → v < p.items → u < p.items → fixed_before k a v u ≡ true → x ≤ c v → joined p a v u x (p.size a u) ≤ c u)
        → (u : ℕ) → u < p.items → greatest_ending p k a u ≤ c u
    unfolding greatest_ending ending
    greatest_ending-within step u hu =
        greatest-within p a (λ u v. fixed_before k a v u) _ (back_mono p a) c alone (λ u v x hu hv b h. step v u x hv hu b h) u hu

    pub greatest_starting-within : ((u v y : ℕ) → u < p.items → v < p.items → fixed_before k a u v ≡ true → y ≤ c v → joined p a u v (p.size a u) y ≤ c u)
        → (u : ℕ) → u < p.items → greatest_starting p k a u ≤ c u
    unfolding greatest_starting starting
    greatest_starting-within step u hu = greatest-within p a (λ u v. fixed_before k a u v) _ (front_mono p a) c alone step u hu

  -- what bounds an item, and each greatest chain beside it with the item, bounds its greatest chain
  pub greatest_ending_bound : (v c : ℕ) → v < p.items → p.size a v ≤ c
      → ((u : ℕ) → u < p.items → fixed_before k a u v ≡ true → joined p a u v (greatest_ending p k a u) (p.size a v) ≤ c) → greatest_ending p k a v ≤ c
  unfolding greatest_ending ending
  greatest_ending_bound v c hv s h = greatest_bound p a (λ u v. fixed_before k a v u) _ (back_mono p a) v c hv s h

  pub greatest_starting_bound : (v c : ℕ) → v < p.items → p.size a v ≤ c
      → ((u : ℕ) → u < p.items → fixed_before k a v u ≡ true → joined p a v u (p.size a v) (greatest_starting p k a u) ≤ c) → greatest_starting p k a v ≤ c
  unfolding greatest_starting starting
  greatest_starting_bound v c hv s h = greatest_bound p a (λ u v. fixed_before k a u v) _ (front_mono p a) v c hv s h

  -- where "before" is a strict order, greatest chains go on
  module _ (trans : Transitive p.items (fixed_before k a))
      (irreflexive : (x : ℕ) → fixed_before k a x x ≡ true → ⊥) (u v : ℕ) (hu : u < p.items) (hv : v < p.items) (b : fixed_before k a u v ≡ true) where
    pub greatest_ending-step : joined p a u v (greatest_ending p k a u) (p.size a v) ≤ greatest_ending p k a v
    unfolding greatest_ending ending
    greatest_ending-step =
        greatest-step p a (λ u v. fixed_before k a v u) _ (back_mono p a) (λ x y z hx hy hz d e. trans z y x hz hy hx e d) irreflexive v u hv hu b

    pub greatest_starting-step : joined p a u v (p.size a u) (greatest_starting p k a v) ≤ greatest_starting p k a u
    unfolding greatest_starting starting
    greatest_starting-step = greatest-step p a (λ u v. fixed_before k a u v) _ (front_mono p a) trans irreflexive u v hu hv b
