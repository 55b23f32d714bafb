-- Rule 5 inside the event loop. A table under the chains of every goal stays under them as its numbers go on along links, and what it finds too long no
-- goal has. Where nothing is pending, the domains are the propagation and the table is exact.
use Rattle.std.specs.Prelude.{◌⊎◌, ◌≡◌, ◌+◌, ◌≤◌, ◌<◌}
use Rattle.prelude.specs.Names.{true, false, inl, inr, ⊎_elim, ⊎_map, sym, ◌∙◌, ℕ, le_refl, le_trans, arith, ltb-true}
use Rattle.prelude.specs.Names.{not-true}
use Rattle.model.specs.Problem.{Problem}
use Rattle.model.specs.Domains.{Domains, may_before}
use Rattle.model.specs.Rules.{joined, rule5, asks}
use Rattle.model.specs.Propagate.{propagate}
use Rattle.model.specs.Branching.{inconsistent}
use Rattle.model.specs.Order.{Proper, WellFormed, ◌⊑◌, AtRest}
use Rattle.model.specs.Relations.{gone, Untouched}
use Rattle.model.specs.Facts.{forced}
use Rattle.model.specs.Clauses.{of, Obeyed}
use Rattle.model.specs.Toward.{Goal, Direction, greatest, Linked, extended, between, Table, Under, Toward, Links, Cuts, ClosedBut, Closed}
use Rattle.model.proofs.Below.{stays, clash}
use Rattle.model.proofs.Order.{implies_eq, below_eq}
use Rattle.model.proofs.Ends.{joined_mono}
use Rattle.model.proofs.Monotone.{greatest_ending_mono, greatest_starting_mono}
use Rattle.model.proofs.GreatestChains.{greatest_ending-size, greatest_starting-size, greatest_ending-step, greatest_starting-step}
use Rattle.model.proofs.GreatestChains.{greatest_ending-within, greatest_starting-within}
use Rattle.model.proofs.Pass.{at-rest_rests}
use Rattle.model.proofs.Propagate.{propagate-well_formed, propagate-at-rest, propagate-less, propagate-greatest, inconsistent_mono}
use Rattle.model.proofs.Asks.{ask_c2}
use Rattle.model.proofs.Facts.{gone_mono, holds_mono, forced_before-is, forced_after_is}
use Rattle.model.proofs.Clauses.{rest-obeyed, obeyed-at-rest}
use Rattle.model.proofs.Untouched.{propagate-untouched, linked_proper}
use Rattle.model.proofs.Consistent.{before_irreflexive, before_transitive}
use Rattle.model.proofs.Packed.{chain_fits, starting-fits}
pub use Rattle.model.proofs.Clauses.{by_direction}

-- it is the total of v, what lies between, and the measure of z
pub extended-sum : (p : Problem) (a x v z m : ℕ) → Direction x → extended x p a v z m ≡ m + between x p a v z + p.size a z
unfolding joined
extended-sum p a x v z m d = by_direction (λ x. extended x p a v z m ≡ m + between x p a v z + p.size a z) (omega arith) (omega arith) x d

-- a longer chain makes a longer one
extended_mono : (p : Problem) (a x v z : ℕ) → Direction x → {m n : ℕ} → m ≤ n → extended x p a v z m ≤ extended x p a v z n
extended_mono p a x v z d {m} {n} h =
    by_direction (λ x. extended x p a v z m ≤ extended x p a v z n) (joined_mono p a z v (le_refl _) h) (joined_mono p a v z h (le_refl _)) x d

-- the measures alone
pub under_sizes : (p : Problem) (f : Domains) → Under p (λ x. p.size) f
under_sizes p f x a u d ha hu =
    by_direction (λ x. p.size a u ≤ greatest x p f a u) (greatest_starting-size p f a u) (greatest_ending-size p f a u) x d

-- a table under domains is under all that have lost more: that of the last fork serves its branches
pub under_mono : (p : Problem) (f k : Domains) → f ⊑ k → (t : Table) → Under p t k → Under p t f
under_mono p f k h t under x a u d ha hu = le_trans (under x a u d ha hu)
    (by_direction (λ x. greatest x p k a u ≤ greatest x p f a u) (greatest_starting_mono f k h p a u) (greatest_ending_mono f k h p a u) x d)

-- One goal. Its "before" is a strict order, whatever that of the present domains is
module _ (p : Problem) (f : Domains) (goal : Goal p f) where
  -- none of its chains is longer than the container
  pub goal-fits : (x a u : ℕ) → Direction x → a < 3 → u < p.items → greatest x p f a u ≤ p.capacity a
  goal-fits x a u d ha hu =
      by_direction (λ x. greatest x p f a u ≤ p.capacity a) (starting-fits p f goal.rest goal.consistent a u ha hu)
      (chain_fits p f goal.rest goal.consistent a u ha hu) x d

  module _ (t : Table) (under : Under p t f) where
    -- what a number makes along a link of domains above the goal is under it as well
    pub under-link : (k : Domains) → f ⊑ k → (x a v z : ℕ) → Direction x → a < 3 → v < p.items → z < p.items → Linked x k a v z
        → extended x p a v z (t x a v) ≤ greatest x p f a z
    under-link k h x a v z d ha hv hz l =
        let trans = before_transitive p f goal.consistent a ha (rest-obeyed p f goal.rest) in
        let irreflexive = before_irreflexive p f goal.consistent a ha in
        le_trans (extended_mono p a x v z d (under x a v d ha hv))
        (by_direction (λ x. Linked x f a v z → extended x p a v z (greatest x p f a v) ≤ greatest x p f a z)
        (λ l. greatest_starting-step p f a trans irreflexive z v hz hv (sym (forced_after_is f a v z) ∙ l))
        (λ l. greatest_ending-step p f a trans irreflexive v z hv hz (sym (forced_before-is f a v z) ∙ l)) x d
        (holds_mono f k h (of (forced x) a v z) l))

    -- what the table finds too long is not in the goal
    pub under-cut : (a u v : ℕ) → Proper p.items a u v → p.capacity a < joined p a u v (t 2 a u) (t 1 a v) → gone f 1 a u v ≡ true
    unfolding gone
    under-cut a u v s l =
        let ends = under 2 a u (omega arith) s.axis s.item_u in
        let starts = under 1 a v (omega arith) s.axis s.item_v in
        goal.rest.done 1 a u v (omega arith) s (unfold asks in ask_c2 p f a u v (le_trans l (joined_mono p a u v ends starts)))

-- The propagation is a goal, where it is consistent
module _ (p : Problem) (limited : p.items ≤ 10) (k : Domains) (w : WellFormed k) (plain : Untouched p.items k) where
  pub end-goal : inconsistent p (propagate p k) ≡ false → Goal p (propagate p k)
  end-goal c = record {
    well_formed = propagate-well_formed p k w;
    rest = propagate-at-rest p limited k w;
    consistent = c;
    untouched = propagate-untouched p k w plain;
  }

  -- without a goal the propagation is inconsistent
  pub no-goal : ((f : Domains) → Goal p f → f ⊑ k → ⊥) → inconsistent p (propagate p k) ≡ true
  no-goal none = stays (inconsistent p (propagate p k)) (λ c. none (propagate p k) (end-goal c) (propagate-less p k))

-- A table closed along every link bounds the greatest chains, in any domains: no strict order, no consistency
module _ (p : Problem) (k : Domains) (t : Table) (c : Closed p k t) where
  without_⊥ : {A : Type 0} → A ⊎ ⊥ → A
  without_⊥ = ⊎_elim (λ x. x) (λ x. absurd x)

  extended-under : (x a v z m : ℕ) → Direction x → a < 3 → v < p.items → z < p.items → Linked x k a v z → m ≤ t x a v → extended x p a v z m ≤ t x a z
  extended-under x a v z m d ha hv hz l h =
      le_trans (extended_mono p a x v z d h) (without_⊥ (c.on x a v z d (linked_proper p.items x k a v z ha hv hz l) l))

  pub closed-greatest : (x a u : ℕ) → Direction x → a < 3 → u < p.items → greatest x p k a u ≤ t x a u
  closed-greatest x a u d ha hu =
      by_direction (λ x. greatest x p k a u ≤ t x a u)
      (greatest_starting-within p k a (t 1 a) (λ v hv. c.size 1 a v (omega arith) ha hv)
      (λ z v m hz hv b. extended-under 1 a v z m (omega arith) ha hv hz (forced_after_is k a v z ∙ b)) u hu)
      (greatest_ending-within p k a (t 2 a) (λ v hv. c.size 2 a v (omega arith) ha hv)
      (λ v z m hv hz b. extended-under 2 a v z m (omega arith) ha hv hz (forced_before-is k a v z ∙ b)) u hu) x d

  -- so rule 5 asks for nothing that is left
  closed_rests : Obeyed p.items k → AtRest p k
  unfolding rule5 gone
  closed_rests o = obeyed-at-rest p k o λ a u v s e.
      let ends = closed-greatest 2 a u (omega arith) s.axis s.item_u in
      let starts = closed-greatest 1 a v (omega arith) s.axis s.item_v in
      not-true (may_before k a u v) (without_⊥ (c.cut a u v s (le_trans (ltb-true _ _ e) (joined_mono p a u v ends starts))))

-- What is pending. Exceptions may be more, but for links that are followed after all
pub closed_wider : {L L' : Links} {C C' : Cuts} {p : Problem} {k : Domains} {t : Table}
    → ((x a v z : ℕ) → Direction x → Proper p.items a v z → Linked x k a v z → L x a v z → (extended x p a v z (t x a v) ≤ t x a z) ⊎ L' x a v z)
    → ((a u v : ℕ) → C a u v → C' a u v) → ClosedBut L C p k t → ClosedBut L' C' p k t
closed_wider f g c = record {
  size = c.size;
  on = λ x a v z d s l. ⊎_elim inl (f x a v z d s l) (c.on x a v z d s l);
  cut = λ a u v s l. ⊎_map (λ e. e) (g a u v) (c.cut a u v s l);
}

module _ (L : Links) (C : Cuts) (p : Problem) (k : Domains) (t : Table) (c : ClosedBut L C p k t) where
  -- where relations are removed: the links that are new
  pub closed-less : (i : Domains) → i ⊑ k → (Q : Links)
      → ((x a v z : ℕ) → Direction x → Proper p.items a v z → Linked x i a v z → Linked x k a v z ⊎ Q x a v z)
      → ClosedBut (λ x a v z. L x a v z ⊎ Q x a v z) C p i t
  closed-less i h Q new = record {
    size = c.size;
    on = λ x a v z d s l. ⊎_elim (λ o. ⊎_map (λ e. e) inl (c.on x a v z d s o)) (λ q. inr (inr q)) (new x a v z d s l);
    cut = λ a u v s l. ⊎_map (gone_mono i k h 1 a u v) (λ q. q) (c.cut a u v s l);
  }

  -- where numbers of G grow: the links on from those items, and the cuts around them
  module _ (G : ℕ → ℕ → ℕ → Type 0) (s : Table) (up : (x a u : ℕ) → Direction x → a < 3 → u < p.items → t x a u ≤ s x a u)
      (kept : (x a u : ℕ) → Direction x → a < 3 → u < p.items → (s x a u ≡ t x a u) ⊎ G x a u) where
    pub closed-grown : ClosedBut (λ x a v z. L x a v z ⊎ G x a v) (λ a u v. C a u v ⊎ (G 2 a u ⊎ G 1 a v)) p k s
    closed-grown = record {
      size = λ x a u d ha hu. le_trans (c.size x a u d ha hu) (up x a u d ha hu);
      on = λ x a v z d r l. elim (kept x a v d r.axis r.item_u) [
        | inr g ↦ inr (inr g)
        | inl e ↦ elim (c.on x a v z d r l) [ inr m ↦ inr (inl m) | inl m ↦ inl (rw e (le_trans m (up x a z d r.axis r.item_v))) ]
      ];
      cut = λ a u v r l. elim (kept 2 a u (omega arith) r.axis r.item_u) [
        | inr g ↦ inr (inr (inl g))
        | inl e ↦ elim (kept 1 a v (omega arith) r.axis r.item_v) [
          | inr g ↦ inr (inr (inr g))
          | inl f ↦ ⊎_map (λ q. q) inl (c.cut a u v r (rw (e, f) at l))
        ]
      ];
    }

-- The end: nothing is pending
module _ (p : Problem) (limited : p.items ≤ 10) (k : Domains) (w : WellFormed k) (plain : Untouched p.items k)
    (j : Domains) (t : Table) (h : Toward p k j t) (closed : Closed p j t) (rest : Obeyed p.items j) where
  end_below : j ⊑ propagate p k
  end_below = propagate-greatest p j k (at-rest_rests p j h.well_formed (closed_rests p j t closed rest)) h.high

  pub end-verdict : inconsistent p j ≡ inconsistent p (propagate p k)
  end-verdict =
      implies_eq (λ e. no-goal p limited k w plain (λ i g l. clash (inconsistent_mono p i j (h.low i g l) e) g.consistent))
      (inconsistent_mono p j (propagate p k) end_below)

  module _ (consistent : inconsistent p j ≡ false) where
    goal : Goal p (propagate p k)
    goal = end-goal p limited k w plain (sym end-verdict ∙ consistent)

    pub end_is : j ≡ propagate p k
    end_is = below_eq j (propagate p k) h.well_formed (propagate-well_formed p k w) end_below (h.low (propagate p k) goal (propagate-less p k))

    -- so that the next fork starts from this table
    pub end-under : Under p t j
    end-under = rw end_is (h.under (propagate p k) goal (propagate-less p k))

    pub end-exact : (x a u : ℕ) → Direction x → a < 3 → u < p.items → t x a u ≡ greatest x p j a u
    end-exact x a u d ha hu = omega (arith, end-under x a u d ha hu, closed-greatest p j t closed x a u d ha hu)
