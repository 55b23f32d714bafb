-- The problem that the code works on (specs/Wide), ten items and the walkway in their measures: where nothing is removed of the items added, propagation comes
-- to the same. Each total is longer by one walkway, that behind its last item; so is the container, and rule 5's sum, of two totals, is too.
use Rattle.std.specs.Prelude.{◌∷◌, ◌⊎◌, ◌≡◌, ◌+◌, ◌≤◌, ◌<◌}
use Rattle.prelude.specs.Names.{Bool, true, false, cond, List, inl, inr, sym, ◌∙◌, ℕ, zero, suc, le_trans, dec_lt, arith}
use Rattle.prelude.specs.Names.{eqb, ltb-true, lt-ltb, le-ltb}
use Rattle.model.specs.Problem.{Problem, time, spacing, lag_between, gap}
use Rattle.model.specs.Domains.{Domains, fixed_before}
use Rattle.model.specs.Rules.{joined, greatest_ending, greatest_starting, rule5}
use Rattle.model.specs.Chain.{Chain, alone, link, measure_sum, gap_sum}
use Rattle.model.specs.Propagate.{propagate}
use Rattle.model.specs.Branching.{empty, inconsistent}
use Rattle.model.specs.Order.{WellFormed, ◌⊑◌, AtRest}
use Rattle.model.specs.Relations.{gone, Untouched}
use Rattle.model.specs.Toward.{Goal, Direction, greatest, between}
use Rattle.model.specs.Admits.{Sound}
use Rattle.model.specs.Wide.{wide}
use Rattle.model.proofs.Below.{stays, clash}
use Rattle.model.proofs.Order.{implies_eq}
use Rattle.model.proofs.Gap.{gap-past}
use Rattle.model.proofs.GreatestChains.{greatest_starting_bound, greatest_ending_bound}
use Rattle.model.proofs.Chain.{first-item, ending_total-sum, starting_total-sum, greatest_ending-greatest, greatest_ending_attained}
use Rattle.model.proofs.Chain.{greatest_starting-greatest, greatest_starting_attained}
use Rattle.model.proofs.Pass.{at-rest_rests}
use Rattle.model.proofs.Propagate.{propagate-well_formed, propagate-at-rest, propagate-less, propagate-greatest, between-rest}
use Rattle.model.proofs.Propagate.{inconsistent_mono}
use Rattle.model.proofs.Asks.{not-before, ask_c2}
use Rattle.model.proofs.Clauses.{rest-obeyed, obeyed-at-rest}
use Rattle.model.proofs.Consistent.{size_fits, pair_left, consistent-of}
use Rattle.model.proofs.Toward.{by_direction, goal-fits, end-goal}
use Rattle.model.proofs.Untouched.{fixed_untouched, obeyed_fewer, goal_lawful}

module _ (p : Problem) (a u : ℕ) where
  pub wide-size : u < p.items → (wide p).size a u ≡ p.size a u + spacing p a
  unfolding wide
  wide-size h = rw (lt-ltb u p.items h)

  pub wide-past : p.items ≤ u → (wide p).size a u ≡ 0
  unfolding wide
  wide-past h = rw (le-ltb u p.items h)

-- m is the greatest total of chains from u, with g between neighbours
record Greatest (p : Problem) (linked : ℕ → ℕ → Bool) (g : ℕ → ℕ → ℕ) (a u m : ℕ) : Type 0 where
  most : (l : List ℕ) → Chain p linked (u ∷ l) → measure_sum p a (u ∷ l) + gap_sum g (u ∷ l) ≤ m
  attained : (l : List ℕ) × Chain p linked (u ∷ l) × (measure_sum p a (u ∷ l) + gap_sum g (u ∷ l) ≡ m)

-- what may be next to u in a chain, followed in the direction x
abbrev linked : ℕ → Domains → ℕ → ℕ → ℕ → Bool
linked zero k a u v = fixed_before k a u v
linked (suc zero) k a u v = fixed_before k a u v
linked (suc (suc x)) k a u v = fixed_before k a v u

total-greatest : (p : Problem) (k : Domains) (a u : ℕ) → u < p.items → (x : ℕ) → Direction x
    → Greatest p (linked x k a) (λ u v. between x p a v u) a u (greatest x p k a u)
total-greatest p k a u hu =
    by_direction (λ x. Greatest p (linked x k a) (λ u v. between x p a v u) a u (greatest x p k a u))
    (record {
      most = λ l c. omega (arith, starting_total-sum p a u l, greatest_starting-greatest p k a u l c);
      attained = let (l, c, e) = greatest_starting_attained p k a u hu in (l, c, sym (starting_total-sum p a u l) ∙ e);
    })
    (record {
      most = λ l c. omega (arith, ending_total-sum p a u l, greatest_ending-greatest p k a u l c);
      attained = let (l, c, e) = greatest_ending_attained p k a u hu in (l, c, sym (ending_total-sum p a u l) ∙ e);
    })

-- what lies between two items is the walkway, which is in the measures, and what lies between them without it
pub wide-gap : (p : Problem) (a u v : ℕ) → gap p a u v ≡ gap (wide p) a u v + spacing p a
unfolding wide gap spacing
wide-gap p a u v = elim (eqb a time) as (λ b. cond b (lag_between p.precedences u v) p.walkway
    ≡ cond b (lag_between p.precedences u v) 0 + cond b 0 p.walkway) [ true ↦ omega arith | false ↦ omega arith ]

pub wide-between : (p : Problem) (a v z x : ℕ) → Direction x → between x p a v z ≡ between x (wide p) a v z + spacing p a
wide-between p a v z =
    by_direction (λ x. between x p a v z ≡ between x (wide p) a v z + spacing p a) (wide-gap p a z v) (wide-gap p a v z)

-- A chain stays one as items are added, and gets longer by the walkway behind its last item
module _ (p : Problem) (limited : p.items ≤ 10) (linked : ℕ → ℕ → Bool) (a : ℕ) (between wider : ℕ → ℕ → ℕ)
    (apart : (u v : ℕ) → between u v ≡ wider u v + spacing p a) where
  chain_wide : {l : List ℕ} → Chain p linked l → Chain (wide p) linked l
  unfolding wide
  chain_wide (alone h) = alone (le_trans h limited)
  chain_wide (link h b d c) = link (le_trans h limited) b d (chain_wide c)

  wide-sum : {l : List ℕ} → Chain p linked l
      → measure_sum (wide p) a l + gap_sum wider l ≡ measure_sum p a l + gap_sum between l + spacing p a
  wide-sum (alone {u} h) = omega (arith, wide-size p a u h)
  wide-sum (link {u} {v} h b d c) = omega (arith, wide-size p a u h, apart u v, wide-sum c)

  wide-no-less : {u m n : ℕ} → Greatest p linked between a u m → Greatest (wide p) linked wider a u n → m + spacing p a ≤ n
  wide-no-less f g = let (l, c, e) = f.attained in omega (arith, g.most l (chain_wide c), wide-sum c)

  -- and where no item added is linked, there are no others
  module _ (inside : (u v : ℕ) → u < 10 → v < 10 → linked u v ≡ true → v < p.items) where
    chain_own : {u : ℕ} {l : List ℕ} → u < p.items → Chain (wide p) linked (u ∷ l) → Chain p linked (u ∷ l)
    unfolding wide
    chain_own hu (alone h) = alone hu
    chain_own hu (link h b d c) = link hu b d (chain_own (inside _ _ h (first-item c) b) c)

module _ (p : Problem) (limited : p.items ≤ 10) (f : Domains) (plain : Untouched p.items f) where
  module _ (x a u : ℕ) (d : Direction x) (ha : a < 3) where
    unlinked : (u v : ℕ) → u < 10 → v < 10 → fixed_before f a u v ≡ true → (u < p.items) × (v < p.items)
    unlinked u v hu hv b = let s = fixed_untouched p.items f plain a u v ha hu hv b in (s.item_u, s.item_v)

    inside : (u v : ℕ) → u < 10 → v < 10 → linked x f a u v ≡ true → v < p.items
    inside u v hu hv = by_direction (λ x. linked x f a u v ≡ true → v < p.items) (λ b. (unlinked u v hu hv b).1) (λ b. (unlinked v u hv hu b).0) x d

    wide-greatest : u < p.items → greatest x (wide p) f a u ≡ greatest x p f a u + spacing p a
    unfolding wide
    wide-greatest hu =
        let own = total-greatest p f a u hu x d in
        let all = total-greatest (wide p) f a u (omega arith) x d in
        let apart : (u v : ℕ) → between x p a v u ≡ between x (wide p) a v u + spacing p a = λ u v. wide-between p a v u x d in
        let (l, c, e) = all.attained in
        let c = chain_own p limited _ a _ _ apart inside hu c in
        omega (arith, own.most l c, wide-sum p limited _ a _ _ apart c, wide-no-less p limited _ a _ _ apart own all)

    past-greatest : u < 10 → p.items ≤ u → greatest x (wide p) f a u ≤ 0
    unfolding wide
    past-greatest hu h =
        by_direction (λ x. greatest x (wide p) f a u ≤ 0)
        (greatest_starting_bound (wide p) f a u 0 hu (omega (arith, wide-past p a u h)) (λ v hv b. absurd (omega (arith, (unlinked u v hu hv b).0))))
        (greatest_ending_bound (wide p) f a u 0 hu (omega (arith, wide-past p a u h)) (λ v hv b. absurd (omega (arith, (unlinked v u hv hu b).1)))) x d

  pub wide-ending : (a u : ℕ) → a < 3 → u < p.items → greatest_ending (wide p) f a u ≡ greatest_ending p f a u + spacing p a
  wide-ending a u ha hu = wide-greatest 2 a u (omega arith) ha hu

-- A goal is at rest and consistent with the items added: their chains are 0 with nothing between, and every other has room
module _ (p : Problem) (sound : Sound p) (f : Domains) (goal : Goal p f) where
  own_or_none : (x a u : ℕ) → Direction x → a < 3 → u < 10
      → ((u < p.items) × (greatest x (wide p) f a u ≡ greatest x p f a u + spacing p a) × (greatest x p f a u ≤ p.capacity a))
      ⊎ ((p.items ≤ u) × (greatest x (wide p) f a u ≤ 0))
  own_or_none x a u d ha hu = elim (dec_lt u p.items) [
    | yes h ↦ inl (h, wide-greatest p sound.limited f goal.untouched x a u d ha h, goal-fits p f goal x a u d ha h)
    | no h ↦ inr (omega arith, past-greatest p sound.limited f goal.untouched x a u d ha hu (omega arith))
  ]

  wide-rest : AtRest (wide p) f
  unfolding wide rule5 joined
  wide-rest = obeyed-at-rest (wide p) f (goal_lawful p f goal).obeyed λ a u v s e.
      let l : p.capacity a + spacing p a < greatest_ending (wide p) f a u + gap (wide p) a u v + greatest_starting (wide p) f a v = ltb-true _ _ e in
      let between = wide-gap p a u v in
      elim (own_or_none 2 a u (omega arith) s.axis s.item_u) [
        | inl (hu, eu, fu) ↦ elim (own_or_none 1 a v (omega arith) s.axis s.item_v) [
          | inl (hv, ev, fv) ↦ not-before goal.rest a u v (omega arith) (ask_c2 p f a u v (omega arith))
          | inr (past, z) ↦ absurd (omega (arith, gap-past p sound a u v (inr past)))
        ]
        | inr (past, z) ↦ let none = gap-past p sound a u v (inl past) in
            absurd (elim (own_or_none 1 a v (omega arith) s.axis s.item_v) [ inl (hv, ev, fv) ↦ omega arith | inr (y, n) ↦ omega arith ])
      ]

  wide-consistent : inconsistent (wide p) f ≡ false
  unfolding wide gone empty
  wide-consistent =
      consistent-of (wide p) f (λ a u ha hu. elim (dec_lt u p.items) [
        | yes h ↦ omega (arith, wide-size p a u h, size_fits p f goal.consistent a u ha h)
        | no h ↦ omega (arith, wide-past p a u (omega arith))
      ])
      (λ a u v r. (goal_lawful p f goal).filled a u v (omega arith))

module _ (p : Problem) (sound : Sound p) (k : Domains) (w : WellFormed k) (plain : Untouched p.items k) where
  limited : p.items ≤ 10
  limited = sound.limited

  abbrev f : Domains
  f = propagate p k

  abbrev g : Domains
  g = propagate (wide p) k

  -- what is consistent for ten items is so for fewer
  consistent-own : inconsistent (wide p) g ≡ false → inconsistent p g ≡ false
  unfolding wide
  consistent-own c =
      consistent-of p g (λ a u ha hu. omega (arith, wide-size p a u hu, size_fits (wide p) g c a u ha (omega arith)))
      (λ a u v r. pair_left (wide p) g c a u v (omega arith))

  -- ten items remove no less: their chains are no shorter
  no_less : (x a u : ℕ) → Direction x → u < p.items → greatest x p g a u + spacing p a ≤ greatest x (wide p) g a u
  unfolding wide
  no_less x a u d hu =
      wide-no-less p limited _ a _ _ (λ u v. wide-between p a v u x d) (total-greatest p g a u hu x d)
      (total-greatest (wide p) g a u (omega (arith, limited)) x d)

  wide-less : g ⊑ f
  unfolding wide rule5 joined
  wide-less =
      let rest = propagate-at-rest (wide p) (omega arith) k w in
      let own : AtRest p g = obeyed-at-rest p g (obeyed_fewer p.items limited g (rest-obeyed (wide p) g rest)) (λ a u v s e.
      let ends = no_less 2 a u (omega arith) s.item_u in
      let starts = no_less 1 a v (omega arith) s.item_v in
      not-before rest a u v (omega arith) (ask_c2 (wide p) g a u v (omega (arith, ltb-true, wide-gap p a u v)))) in
      propagate-greatest p g k (at-rest_rests p g (propagate-well_formed (wide p) k w) own) (propagate-less (wide p) k)

  -- and no more, where what is left is consistent
  pub wide_propagates : inconsistent p (propagate p k) ≡ false → propagate (wide p) k ≡ propagate p k
  wide_propagates c =
      sym (between-rest (wide p) k w f (record { well_formed = propagate-well_formed p k w; low = wide-less; high = propagate-less p k })
      (wide-rest p sound f (end-goal p limited k w plain c)))

  pub wide-verdict : inconsistent (wide p) (propagate (wide p) k) ≡ inconsistent p (propagate p k)
  wide-verdict =
      implies_eq (λ e. stays _ (λ c. clash (rw (wide_propagates c) at e) (wide-consistent p sound f (end-goal p limited k w plain c))))
      (λ e. stays _ (λ c. clash (inconsistent_mono p g f wide-less e) (consistent-own c)))
