-- The fewer relations are left, the more is fixed and the more the rules ask for.
use Rattle.std.specs.Prelude.{◌∷◌, ◌≤◌}
use Rattle.prelude.specs.Names.{[], sym, ◌∙◌, ℕ, zero, suc, compare}
use Rattle.model.specs.Problem.{Problem}
use Rattle.model.specs.Domains.{Domains, index_of, place, left, gone, may_overlap, may_before, fixed_before, fixed_overlap}
use Rattle.model.specs.Rules.{ending, starting, greatest_ending, greatest_starting, rule1, rule2, rule3, rule4, rule5, asks_overlap}
use Rattle.model.specs.Rules.{asks_before, asks}
use Rattle.model.specs.Order.{◌⊑◌}
use Rattle.model.proofs.Below.{Implies, implies_refl, and_mono, or_mono, not_mono, some_mono, all_mono, ltb_mono}
use Rattle.model.proofs.Domains.{gone-is}
use Rattle.model.proofs.Ends.{joined_mono}
use Rattle.model.proofs.Chain.{longest_mono, back_mono, front_mono}

module _ (k j : Domains) (h : k ⊑ j) where
  pub left_mono : (x a u v : ℕ) → Implies (left k x a u v) (left j x a u v)
  left_mono x a u v = (h (index_of a u v)).bits (place (compare u v) x)

  pub gone_mono : (x a u v : ℕ) → Implies (gone j x a u v) (gone k x a u v)
  gone_mono x a u v e = gone-is k x a u v ∙ not_mono (left_mono x a u v) (sym (gone-is j x a u v) ∙ e)

  pub may_overlap_mono : (a u v : ℕ) → Implies (may_overlap k a u v) (may_overlap j a u v)
  unfolding may_overlap
  may_overlap_mono = left_mono 0

  pub may_before_mono : (a u v : ℕ) → Implies (may_before k a u v) (may_before j a u v)
  unfolding may_before
  may_before_mono = left_mono 1

  pub fixed_before_mono : (a u v : ℕ) → Implies (fixed_before j a u v) (fixed_before k a u v)
  unfolding fixed_before
  fixed_before_mono a u v = and_mono (not_mono (may_overlap_mono a u v)) (not_mono (may_before_mono a v u))

  pub fixed_overlap_mono : (a u v : ℕ) → Implies (fixed_overlap j a u v) (fixed_overlap k a u v)
  unfolding fixed_overlap
  fixed_overlap_mono a u v = and_mono (not_mono (may_before_mono a u v)) (not_mono (may_before_mono a v u))

  module _ (p : Problem) (a : ℕ) where
    pub greatest_ending_mono : (u : ℕ) → greatest_ending p j a u ≤ greatest_ending p k a u
    unfolding greatest_ending ending
    greatest_ending_mono u = longest_mono p a _ _ _ (back_mono p a) (λ x y. fixed_before_mono a y x) p.items (u ∷ []) u

    pub greatest_starting_mono : (u : ℕ) → greatest_starting p j a u ≤ greatest_starting p k a u
    unfolding greatest_starting starting
    greatest_starting_mono u = longest_mono p a _ _ _ (front_mono p a) (fixed_before_mono a) p.items (u ∷ []) u

    overlap_asked : (u v : ℕ) → Implies (asks_overlap p j a u v) (asks_overlap p k a u v)
    unfolding asks_overlap rule1 rule2
    overlap_asked u v = search (or_mono, all_mono, some_mono, and_mono, implies_refl, fixed_before_mono, fixed_overlap_mono) depth 9

    before_asked : (u v : ℕ) → Implies (asks_before p j a u v) (asks_before p k a u v)
    unfolding asks_before rule2 rule3 rule4 rule5
    before_asked u v =
        search (
          or_mono,
          some_mono,
          and_mono,
          not_mono,
          ltb_mono,
          joined_mono,
          fixed_before_mono,
          may_before_mono,
          fixed_overlap_mono,
          may_overlap_mono,
          greatest_ending_mono,
          greatest_starting_mono,
        ) depth 14 fits 4000

    pub asks_mono : (x u v : ℕ) → Implies (asks p j x a u v) (asks p k x a u v)
    unfolding asks
    asks_mono zero u v = overlap_asked u v
    asks_mono (suc zero) u v = before_asked u v
    asks_mono (suc (suc x)) u v = before_asked v u
