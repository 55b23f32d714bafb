-- Packed and consistent at rest, with the precedences fixed: starts by greatest chains are feasible.
use Rattle.std.specs.Prelude.{◌||◌, ◌⊎◌, ◌≡◌, ◌≤◌, ◌<◌}
use Rattle.prelude.specs.Names.{true, false, Mem, inl, inr, ⊎_map, ⊎_elim, ℕ, le_refl, le_trans, dec_le, arith}
use Rattle.model.specs.Problem.{Problem, Precedence, EndsBefore, EndsAhead, Feasible, time, gap}
use Rattle.model.specs.Domains.{Domains, fixed_before}
use Rattle.model.specs.Rules.{joined, greatest_ending, greatest_starting}
use Rattle.model.specs.Branching.{inconsistent, separated, packed, starts}
use Rattle.model.specs.Order.{Proper, AtRest}
use Rattle.model.specs.Admits.{Sound}
use Rattle.model.proofs.Below.{or_case, some_at}
use Rattle.model.proofs.Asks.{not-before, ask_c2}
use Rattle.model.proofs.Slots.{lt_or_gt, pairs_at}
use Rattle.model.proofs.Domains.{fixed_distinct}
use Rattle.model.proofs.Ends.{joined_mono, joined_ends}
use Rattle.model.proofs.Gap.{lag-gap, ahead_less, ahead_before}
use Rattle.model.proofs.GreatestChains.{greatest_ending-size, greatest_starting-size, greatest_ending_bound, greatest_starting_bound}
use Rattle.model.proofs.GreatestChains.{greatest_ending-step}
use Rattle.model.proofs.Clauses.{rest-obeyed}
use Rattle.model.proofs.Consistent.{size_fits, before_irreflexive, before-left, before_transitive}

module _ (p : Problem) (k : Domains) (rest : AtRest p k) (consistent : inconsistent p k ≡ false) where
  -- two chains where one goes on with the other fit the container: rule 5 at rest
  joined-fits : (a u v : ℕ) → a < 3 → u < p.items → v < p.items → fixed_before k a u v ≡ true
      → joined p a u v (greatest_ending p k a u) (greatest_starting p k a v) ≤ p.capacity a
  joined-fits a u v ha hu hv b = elim (dec_le (joined p a u v (greatest_ending p k a u) (greatest_starting p k a v)) (p.capacity a)) [
    | yes h ↦ h
    | no h ↦ let s : Proper p.items a u v = omega (arith, fixed_distinct k a u v b) in
        absurd (before-left p k consistent a ha u v hu hv b (not-before rest a u v s (ask_c2 p k a u v (omega arith))))
  ]

  -- so no chain is longer than the container
  pub chain_fits : (a v : ℕ) → a < 3 → v < p.items → greatest_ending p k a v ≤ p.capacity a
  chain_fits a v ha hv =
      greatest_ending_bound p k a v (p.capacity a) hv (size_fits p k consistent a v ha hv)
      (λ u hu b. le_trans (joined_mono p a u v (le_refl _) (greatest_starting-size p k a v)) (joined-fits a u v ha hu hv b))

  pub starting-fits : (a v : ℕ) → a < 3 → v < p.items → greatest_starting p k a v ≤ p.capacity a
  starting-fits a v ha hv =
      greatest_starting_bound p k a v (p.capacity a) hv (size_fits p k consistent a v ha hv)
      (λ u hu b. le_trans (joined_mono p a v u (greatest_ending-size p k a v) (le_refl _)) (joined-fits a v u ha hv hu b))

  -- where "before" is fixed, the starts keep it and what lies between
  pub starts_ahead : (a u v : ℕ) → a < 3 → u < p.items → v < p.items → fixed_before k a u v ≡ true
      → EndsAhead p (starts p k) a (gap p a u v) u v
  unfolding starts
  starts_ahead a u v ha hu hv b =
      joined_ends p (starts p k) a u v (greatest_ending p k a u) (greatest_ending p k a v)
      (omega (arith, greatest_ending-size p k a u)) (omega (arith, greatest_ending-size p k a v))
      (greatest_ending-step p k a (before_transitive p k consistent a ha (rest-obeyed p k rest)) (before_irreflexive p k consistent a ha) u v hu hv b)

  starts-before : (a u v : ℕ) → a < 3 → u < p.items → v < p.items → fixed_before k a u v ≡ true → EndsBefore p (starts p k) a u v
  starts-before a u v ha hu hv b = ahead_before p (starts p k) a u v (starts_ahead a u v ha hu hv b)

  separated-apart : (u v : ℕ) → u < p.items → v < p.items → separated k u v ≡ true
      → (a : ℕ) × (a < 3) × (EndsBefore p (starts p k) a u v ⊎ EndsBefore p (starts p k) a v u)
  unfolding separated
  separated-apart u v hu hv d =
      let (a, ha, e) = some_at 3 (λ a. fixed_before k a u v || fixed_before k a v u) d in
      (a, ha, ⊎_map (starts-before a u v ha hu hv) (starts-before a v u ha hv hu) (or_case (fixed_before k a u v) (fixed_before k a v u) e))

  -- the theorem
  pub packed-feasible : Sound p → packed p k ≡ true
      → ((o : Precedence) → Mem o p.precedences → fixed_before k time o.predecessor o.successor ≡ true)
      → Feasible p (starts p k)
  unfolding packed starts
  packed-feasible sound d fixed = record {
    inside = λ a u ha hu. omega (arith, chain_fits a u ha hu, greatest_ending-size p k a u);
    apart = λ u v hu hv h. elim (lt_or_gt u v h) [
      | inl l ↦ separated-apart u v hu hv (pairs_at p.items (separated k) d u v l hv)
      | inr l ↦ let (a, ha, s) = separated-apart v u hv hu (pairs_at p.items (separated k) d v u l hu) in (a, ha, ⊎_elim inr inl s)
    ];
    ordered = λ o m. let s = sound.named o m in
        ahead_less p (starts p k) time o.predecessor o.successor (lag-gap p o m)
        (starts_ahead time o.predecessor o.successor s.axis s.item_u s.item_v (fixed o m));
  }
