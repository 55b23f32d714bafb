-- `greatest_ending` and `greatest_starting` are the greatest totals of chains as document 01 has them: rows of distinct items, each fixed before the next.
use Rattle.std.specs.Prelude.{◌&&◌, ◌||◌, ◌∷◌, ◌≡◌, ◌+◌, ◌≤◌, ◌<◌}
use Rattle.prelude.specs.Names.{Bool, true, false, not, false≢true, cond, List, [], refl, ◌∙◌, ap, ℕ, zero, suc}
use Rattle.prelude.specs.Names.{zero-le, dec_le, le_refl, le_trans, arith, eqb, eqb-true, eq-eqb, ne_eqb, not-true}
use Rattle.model.specs.Below.{most_below}
use Rattle.model.specs.Problem.{Problem, gap}
use Rattle.model.specs.Domains.{Domains, fixed_before}
use Rattle.model.specs.Rules.{listed, joined, longest, ending, starting, greatest_ending, greatest_starting}
use Rattle.model.specs.Chain.{Chain, alone, link, total_from, Starting, starting_total, Ending, ending_total, measure_sum, gap_sum}
use Rattle.model.proofs.Below.{and_both, or_elim, or_left, or_right, or_neither, neither_or, most_some, refuted, clash, Implies, most-at}
use Rattle.model.proofs.Below.{most_le, below_suc}
use Rattle.model.proofs.Ends.{joined_mono}

guard_le : (b : Bool) (x c : ℕ) → (b ≡ true → x ≤ c) → elim b as (λ _. ℕ) [ true ↦ x | false ↦ 0 ] ≤ c
guard_le true x c h = h refl
guard_le false x c h = zero-le

guard_is : (b : Bool) (x m : ℕ) → elim b as (λ _. ℕ) [ true ↦ x | false ↦ 0 ] ≡ m → 1 ≤ m → (b ≡ true) × (x ≡ m)
guard_is true x m e h = (refl, e)
guard_is false x m e h = absurd (omega arith)

-- links of items below n compose
abbrev pub Transitive : ℕ → (ℕ → ℕ → Bool) → Type 0
Transitive n linked = (x v u : ℕ) → x < n → v < n → u < n → linked x v ≡ true → linked v u ≡ true → linked x u ≡ true

-- How many items below n are not in the list
abbrev free : ℕ → List ℕ → ℕ
free zero had = 0
free (suc n) had = free n had + cond (listed n had) 0 1

unlisted_or : (x y : Bool) → cond (x || y) 0 1 ≤ cond y 0 1
unlisted_or true y = zero-le
unlisted_or false y = le_refl _

unlisted_le : (b : Bool) → cond b 0 1 ≤ 1
unlisted_le true = zero-le
unlisted_le false = le_refl 1

free_cons_le : (n : ℕ) (had : List ℕ) (v : ℕ) → free n (v ∷ had) ≤ free n had
free_cons_le zero had v = zero-le
free_cons_le (suc n) had v = omega (arith, free_cons_le n had v, unlisted_or (eqb n v) (listed n had))

free_cons : (n : ℕ) (had : List ℕ) (v : ℕ) → v < n → listed v had ≡ false → free n (v ∷ had) < free n had
free_cons zero had v h w = absurd (omega arith)
free_cons (suc n) had v h w =
    below_suc (λ v. listed v had ≡ false → free (suc n) (v ∷ had) < free (suc n) had) n
    (λ w. rw (eq-eqb n n refl, w) (omega (arith, free_cons_le n had n)))
    (λ v l w. omega (arith, free_cons n had v l w, unlisted_or (eqb n v) (listed n had))) v h w

free_le : (n : ℕ) (had : List ℕ) → free n had ≤ n
free_le zero had = zero-le
free_le (suc n) had = omega (arith, free_le n had, unlisted_le (listed n had))

module _ (p : Problem) (a : ℕ) (linked : ℕ → ℕ → Bool) (on : ℕ → ℕ → ℕ → ℕ) where
  abbrev pub most : ℕ → List ℕ → ℕ → ℕ
  most = longest p a linked on

  -- the greatest chain, with every item at hand
  abbrev pub greatest : ℕ → ℕ
  greatest u = most p.items (u ∷ []) u

  pub most-size : (f : ℕ) (had : List ℕ) (u : ℕ) → p.size a u ≤ most f had u
  unfolding longest
  most-size zero had u = le_refl _
  most-size (suc f) had u = omega arith

  -- a chain is bounded from below by each that goes on
  pub most_ge : (f : ℕ) (had : List ℕ) (u i : ℕ) → i < p.items → linked u i ≡ true → listed i had ≡ false → on u i (most f (i ∷ had) i) ≤ most (suc f) had u
  unfolding longest
  most_ge f had u i h b w =
      let m = most-at p.items (λ v. elim (linked u v && not (listed v had)) [ true ↦ on u v (most f (v ∷ had) v) | false ↦ 0 ]) i h in
      omega (arith, rw (b, w) at m)

-- more links, longer chains
module _ (p : Problem) (a : ℕ) (linked wide : ℕ → ℕ → Bool) (on : ℕ → ℕ → ℕ → ℕ) (mono : (u v x y : ℕ) → x ≤ y → on u v x ≤ on u v y)
    (links : (u v : ℕ) → Implies (linked u v) (wide u v)) where
  pub longest_mono : (f : ℕ) (had : List ℕ) (u : ℕ) → longest p a linked on f had u ≤ longest p a wide on f had u
  unfolding longest
  longest_mono zero had u = le_refl _
  longest_mono (suc f) had u =
      let m = most_le p.items (λ v. elim (linked u v && not (listed v had)) [ true ↦ on u v (longest p a linked on f (v ∷ had) v) | false ↦ 0 ])
      (longest p a wide on (suc f) had u) (λ i l. guard_le (linked u i && not (listed i had)) _ _ (λ e.
      let (b, w) = and_both (linked u i) (not (listed i had)) e in
      le_trans (mono u i _ _ (longest_mono f (i ∷ had) i)) (most_ge p a wide on f had u i l (links u i b) (not-true _ w)))) in
      omega (arith, most-size p a wide on (suc f) had u)

-- Chains as lists: no item of l is in the list
abbrev Fresh : List ℕ → List ℕ → Type 0
Fresh had l = (x : ℕ) → listed x l ≡ true → listed x had ≡ false

fresh_cons : (had l : List ℕ) (v : ℕ) → Fresh had l → listed v l ≡ false → Fresh (v ∷ had) l
fresh_cons had l v f e x d = neither_or (ne_eqb x v (λ q. clash (rw q at d) e)) (f x d)

fresh_first : (had l : List ℕ) (v : ℕ) → Fresh had (v ∷ l) → listed v had ≡ false
fresh_first had l v f = f v (or_left (listed v l) (eq-eqb v v refl))

pub first-item : {p : Problem} {linked : ℕ → ℕ → Bool} {u : ℕ} {l : List ℕ} → Chain p linked (u ∷ l) → u < p.items
first-item (alone h) = h
first-item (link h b d c) = h

first-once : {p : Problem} {linked : ℕ → ℕ → Bool} {u : ℕ} {l : List ℕ} → Chain p linked (u ∷ l) → listed u l ≡ false
first-once (alone h) = refl
first-once (link h b d c) = d

module _ (p : Problem) (a : ℕ) (linked : ℕ → ℕ → Bool) (on : ℕ → ℕ → ℕ → ℕ) (mono : (u v x y : ℕ) → x ≤ y → on u v x ≤ on u v y) where
  chain_le : {u : ℕ} {l : List ℕ} (f : ℕ) (had : List ℕ) → Chain p linked (u ∷ l) → Fresh had l → free p.items had ≤ f
      → total_from p a on u l ≤ longest p a linked on f had u
  chain_le {u = u} f had (alone h) fr le = most-size p a linked on f had u
  chain_le zero had (link {v = v} {l = l} h b d c) fr le = absurd (omega (arith, free_cons p.items had v (first-item c) (fresh_first had l v fr)))
  chain_le {u = u} (suc f) had (link {v = v} {l = l} h b d c) fr le =
      let w = fresh_first had l v fr in
      le_trans (mono u v _ _ (chain_le f (v ∷ had) c (fresh_cons had l v (λ x e. fr x (or_right (eqb x v) e)) (first-once c))
      (omega (arith, free_cons p.items had v (first-item c) w))))
      (most_ge p a linked on f had u v (first-item c) b w)

  -- no chain is longer
  pub longest_bound : (u : ℕ) (l : List ℕ) → Chain p linked (u ∷ l) → total_from p a on u l ≤ longest p a linked on p.items (u ∷ []) u
  longest_bound u l c = chain_le p.items (u ∷ []) c (fresh_cons [] l u (λ x e. refl) (first-once c)) (free_le p.items (u ∷ []))

  -- some chain is as long
  attained : (f : ℕ) (had : List ℕ) (u : ℕ) → u < p.items → listed u had ≡ true
      → (l : List ℕ) × Chain p linked (u ∷ l) × Fresh had l × (total_from p a on u l ≡ longest p a linked on f had u)
  unfolding longest
  attained zero had u hu e = ([], alone hu, (λ x d. absurd (false≢true d)), refl)
  attained (suc f) had u hu e =
      let follow : ℕ → ℕ = λ v. elim (linked u v && not (listed v had)) [ true ↦ on u v (longest p a linked on f (v ∷ had) v) | false ↦ 0 ] in
      let next : ℕ = most_below p.items follow in
      elim (dec_le next (p.size a u)) [
        | yes h ↦ ([], alone hu, (λ x d. absurd (false≢true d)), omega arith)
        | no h ↦
            let (v, hv, q) = most_some p.items follow (omega arith) in
            let (b, t) = guard_is (linked u v && not (listed v had)) (on u v (longest p a linked on f (v ∷ had) v)) next q (omega arith) in
            let (linked-uv, free-v) = and_both (linked u v) (not (listed v had)) b in
            let (l, c, fr, s) = attained f (v ∷ had) v hv (or_left (listed v had) (eq-eqb v v refl)) in
            let fresh : Fresh had (v ∷ l) = λ x. or_elim (eqb x v) (listed x l) (λ q. rw (eqb-true x v q) (not-true _ free-v))
            (λ m. (or_neither (eqb x v) (listed x had) (fr x m)).1) in
            (v ∷ l, link hu linked-uv (refuted _ (λ d. clash e (fresh u d))) c, fresh, ap (on u v) s ∙ (t ∙ omega arith))
      ]

  pub longest_attained : (u : ℕ) → u < p.items → (l : List ℕ) × Chain p linked (u ∷ l) × (total_from p a on u l ≡ longest p a linked on p.items (u ∷ []) u)
  longest_attained u hu = let (l, c, fr, s) = attained p.items (u ∷ []) u hu (or_left false (eq-eqb u u refl)) in (l, c, s)

  -- a bound that every link keeps bounds the greatest chains
  module _ (c : ℕ → ℕ) (fits : (u : ℕ) → u < p.items → p.size a u ≤ c u)
      (step : (u v x : ℕ) → u < p.items → v < p.items → linked u v ≡ true → x ≤ c v → on u v x ≤ c u) where
    chain_within : {u : ℕ} {l : List ℕ} → Chain p linked (u ∷ l) → total_from p a on u l ≤ c u
    chain_within (alone {u = u} h) = fits u h
    chain_within (link {u = u} {v = v} h b d k) = step u v _ h (first-item k) b (chain_within k)

    pub greatest-within : (u : ℕ) → u < p.items → greatest p a linked on u ≤ c u
    greatest-within u h = let (l, k, e) = longest_attained u h in rw (← e) (chain_within k)

  chain_below : {v : ℕ} {l : List ℕ} (c : ℕ) → Chain p linked (v ∷ l) → p.size a v ≤ c
      → ((u : ℕ) → u < p.items → linked v u ≡ true → on v u (greatest p a linked on u) ≤ c) → total_from p a on v l ≤ c
  chain_below c (alone hv) s h = s
  chain_below c (link {u = v} {v = u} {l = l} hv b d k) s h = le_trans (mono v u _ _ (longest_bound u l k)) (h u (first-item k) b)

  -- what bounds an item, and the item with each greatest chain that may follow it, bounds the greatest chain from it
  pub greatest_bound : (v c : ℕ) → v < p.items → p.size a v ≤ c
      → ((u : ℕ) → u < p.items → linked v u ≡ true → on v u (greatest p a linked on u) ≤ c) → greatest p a linked on v ≤ c
  greatest_bound v c hv s h = let (l, k, e) = longest_attained v hv in rw (← e) (chain_below c k s h)

  -- where links are transitive and no item is linked with itself, the greatest chain from v goes on from u
  module _ (trans : Transitive p.items linked) (irreflexive : (x : ℕ) → linked x x ≡ true → ⊥) where
    later : {v : ℕ} {l : List ℕ} → Chain p linked (v ∷ l) → (x : ℕ) → listed x l ≡ true → (x < p.items) × (linked v x ≡ true)
    later (alone h) x e = absurd (false≢true e)
    later (link {u = u} {v = v} {l = l} h b d c) x e =
        or_elim (eqb x v) (listed x l) (λ q. rw (eqb-true x v q) (first-item c, b))
        (λ m. let (hx, r) = later c x m in (hx, trans u v x h (first-item c) hx b r)) e

    pub greatest-step : (u v : ℕ) → u < p.items → v < p.items → linked u v ≡ true → on u v (greatest p a linked on v) ≤ greatest p a linked on u
    greatest-step u v hu hv b =
        let (l, c, e) = longest_attained v hv in
        let apart = neither_or (ne_eqb u v (λ q. irreflexive u (rw (← q) at b)))
        (refuted (listed u l) (λ m. irreflexive u (trans u v u hu hv hu b (later c u m).1))) in
        rw (← e) (longest_bound u (v ∷ l) (link hu b apart c))

-- Chains followed back from their last item, and on from their first
module _ (p : Problem) (a : ℕ) where
  pub back_mono : (u v x y : ℕ) → x ≤ y → joined p a v u x (p.size a u) ≤ joined p a v u y (p.size a u)
  back_mono u v x y h = joined_mono p a v u h (le_refl _)

  pub front_mono : (u v x y : ℕ) → x ≤ y → joined p a u v (p.size a u) x ≤ joined p a u v (p.size a u) y
  front_mono u v x y h = joined_mono p a u v (le_refl _) h

module _ (p : Problem) (k : Domains) (a u : ℕ) where
  pub greatest_ending-greatest : (l : List ℕ) → Ending p k a (u ∷ l) → ending_total p a u l ≤ greatest_ending p k a u
  unfolding greatest_ending ending
  greatest_ending-greatest l c = longest_bound p a (λ u v. fixed_before k a v u) _ (back_mono p a) u l c

  pub greatest_ending_attained : u < p.items → (l : List ℕ) × Ending p k a (u ∷ l) × (ending_total p a u l ≡ greatest_ending p k a u)
  unfolding greatest_ending ending
  greatest_ending_attained hu = longest_attained p a (λ u v. fixed_before k a v u) _ (back_mono p a) u hu

  pub greatest_starting-greatest : (l : List ℕ) → Starting p k a (u ∷ l) → starting_total p a u l ≤ greatest_starting p k a u
  unfolding greatest_starting starting
  greatest_starting-greatest l c = longest_bound p a (λ u v. fixed_before k a u v) _ (front_mono p a) u l c

  pub greatest_starting_attained : u < p.items → (l : List ℕ) × Starting p k a (u ∷ l) × (starting_total p a u l ≡ greatest_starting p k a u)
  unfolding greatest_starting starting
  greatest_starting_attained hu = longest_attained p a (λ u v. fixed_before k a u v) _ (front_mono p a) u hu

-- a chain's total is the sum of its measures and of what lies between neighbours, read from either end
pub starting_total-sum : (p : Problem) (a u : ℕ) (l : List ℕ) → starting_total p a u l ≡ measure_sum p a (u ∷ l) + gap_sum (gap p a) (u ∷ l)
unfolding joined
starting_total-sum p a u [] = omega arith
starting_total-sum p a u (v ∷ l) = omega (arith, starting_total-sum p a v l)

pub ending_total-sum : (p : Problem) (a u : ℕ) (l : List ℕ) → ending_total p a u l ≡ measure_sum p a (u ∷ l) + gap_sum (λ x y. gap p a y x) (u ∷ l)
unfolding joined
ending_total-sum p a u [] = omega arith
ending_total-sum p a u (v ∷ l) = omega (arith, ending_total-sum p a v l)
