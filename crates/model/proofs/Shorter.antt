-- Lengths whose opening domains are inconsistent: so are those of every shorter one.
use Rattle.std.specs.Prelude.{◌≡◌, ◌≤◌}
use Rattle.prelude.specs.Names.{Bool, true, false, cond, [], refl, ℕ, le_refl, le_trans, arith, ltb, ltb-true}
use Rattle.model.specs.Problem.{Problem, gap, time}
use Rattle.model.specs.Domains.{Domains}
use Rattle.model.specs.Rules.{joined, longest, ending, starting, greatest_ending, greatest_starting, rule5}
use Rattle.model.specs.Propagate.{propagate}
use Rattle.model.specs.Branching.{inconsistent, opening_domains, path_domains}
use Rattle.model.specs.Order.{WellFormed, ◌⊑◌, AtRest}
use Rattle.model.specs.Search.{conflict}
use Rattle.model.specs.Run.{look}
use Rattle.model.specs.Earliest.{with_shifts}
use Rattle.model.proofs.Below.{stays, clash}
use Rattle.model.proofs.Pass.{at-rest_rests}
use Rattle.model.proofs.Propagate.{propagate-well_formed, propagate-at-rest, propagate-less, propagate-greatest, inconsistent_mono}
use Rattle.model.proofs.Admits.{opening-well_formed}
use Rattle.model.proofs.Search.{look_conflict, look-inconsistent}
use Rattle.model.proofs.Asks.{not-before, ask_c2}
use Rattle.model.proofs.Clauses.{rest-obeyed, obeyed-at-rest}
use Rattle.model.proofs.Consistent.{size_fits, pair_left, consistent-of}

module _ (p : Problem) (l : ℕ) (k : Domains) (a u : ℕ) where
  -- how long chains are does not depend on the container
  ending-same : greatest_ending (with_shifts p l) k a u ≡ greatest_ending p k a u
  unfolding greatest_ending ending longest joined gap
  ending-same = refl

  starting-same : greatest_starting (with_shifts p l) k a u ≡ greatest_starting p k a u
  unfolding greatest_starting starting longest joined gap
  starting-same = refl

module _ (p : Problem) (l m : ℕ) (h : l ≤ m) where
  capacity_mono : (a : ℕ) → (with_shifts p l).capacity a ≤ (with_shifts p m).capacity a
  capacity_mono a = go (ltb a time)
    where
      go : (b : Bool) → cond b (p.capacity a) l ≤ cond b (p.capacity a) m
      go true = le_refl _
      go false = h

  -- what is at rest in less time is at rest in more
  rest_longer : (f : Domains) → AtRest (with_shifts p l) f → AtRest (with_shifts p m) f
  unfolding rule5 joined gap
  rest_longer f rest =
      obeyed-at-rest (with_shifts p m) f (rest-obeyed (with_shifts p l) f rest)
      (λ a u v s e. not-before rest a u v s (ask_c2 (with_shifts p l) f a u v (omega (
        arith,
        ltb-true,
        capacity_mono a,
        ending-same p l f a u,
        ending-same p m f a u,
        starting-same p l f a v,
        starting-same p m f a v,
      ))))

  consistent_longer : (f : Domains) → inconsistent (with_shifts p l) f ≡ false → inconsistent (with_shifts p m) f ≡ false
  consistent_longer f c =
      consistent-of (with_shifts p m) f (λ a u ha hu. le_trans (size_fits (with_shifts p l) f c a u ha hu) (capacity_mono a))
      (pair_left (with_shifts p l) f c)

  -- so less is left in less time, and an inconsistency stays
  pub conflict_shorter : p.items ≤ 10 → look (with_shifts p m) [] ≡ conflict → look (with_shifts p l) [] ≡ conflict
  unfolding opening_domains path_domains
  conflict_shorter limited e =
      let k = opening_domains p in
      let f = propagate (with_shifts p l) k in
      let w : WellFormed f = propagate-well_formed (with_shifts p l) k (opening-well_formed p) in
      let rest = rest_longer f (propagate-at-rest (with_shifts p l) limited k (opening-well_formed p)) in
      let less : f ⊑ propagate (with_shifts p m) k = propagate-greatest (with_shifts p m) f k (at-rest_rests (with_shifts p m) f w rest)
      (propagate-less (with_shifts p l) k) in
      look-inconsistent (with_shifts p l) [] (stays _ (λ c.
      clash (inconsistent_mono (with_shifts p m) f _ less (look_conflict (with_shifts p m) [] e)) (consistent_longer f c)))
