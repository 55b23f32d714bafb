-- What it says that domains are inconsistent or not; where they are not, and rule 2 has been applied, "before" is a strict order.
use Rattle.std.specs.Prelude.{◌||◌, ◌≢◌, ◌≡◌, ◌≤◌, ◌<◌}
use Rattle.prelude.specs.Names.{Bool, true, false, not, ⊎_elim, refl, ◌∙◌, ap, ℕ, arith, ltb, ltb-false, lt-ltb, le-ltb}
use Rattle.model.specs.Below.{some_below}
use Rattle.model.specs.Problem.{Problem}
use Rattle.model.specs.Domains.{Domains, may_overlap, may_before, fixed_before}
use Rattle.model.specs.Branching.{empty, inconsistent}
use Rattle.model.specs.Order.{Proper, Rising}
use Rattle.model.specs.Relations.{gone}
use Rattle.model.specs.Facts.{says}
use Rattle.model.specs.Clauses.{d2, Obeyed}
use Rattle.model.proofs.Below.{and_intro, or_left, or_neither, neither_or, some_of, none-at, none_of, clash}
use Rattle.model.proofs.Slots.{lt_or_gt}
use Rattle.model.proofs.Domains.{may_overlap-sym, fixed_before-says, fixed_distinct}
use Rattle.model.proofs.Chain.{Transitive}

-- an item that does not fit, or has no relation left with one below it
abbrev faulty : Problem → Domains → ℕ → ℕ → Bool
faulty p k a v = ltb (p.capacity a) (p.size a v) || some_below v (λ u. empty k a u v)

module _ (p : Problem) (k : Domains) (consistent : inconsistent p k ≡ false) where
  fits_or : (a v : ℕ) → a < 3 → v < p.items → (ltb (p.capacity a) (p.size a v) ≡ false) × (some_below v (λ u. empty k a u v) ≡ false)
  unfolding inconsistent
  fits_or a v ha hv =
      or_neither _ _ (none-at p.items (faulty p k a) (none-at 3 (λ b. some_below p.items (faulty p k b)) consistent a ha) v hv)

  -- each item fits
  pub size_fits : (a v : ℕ) → a < 3 → v < p.items → p.size a v ≤ p.capacity a
  size_fits a v ha hv = ltb-false _ _ (fits_or a v ha hv).0

  -- each pair has a relation left on each axis
  pub pair_left : (a u v : ℕ) → Rising p.items a u v → empty k a u v ≡ false
  pair_left a u v r = none-at v (λ x. empty k a x v) (fits_or a v r.axis r.item).1 u r.rising

  not-empty : (a u v : ℕ) → Rising p.items a u v → may_overlap k a u v ≡ false → may_before k a u v ≡ false → may_before k a v u ≡ false → ⊥
  unfolding empty
  not-empty a u v r l f g = clash (and_intro (ap not l) (and_intro (ap not f) (ap not g))) (pair_left a u v r)

  pub relation_left : (a u v : ℕ) → Proper p.items a u v → may_overlap k a u v ≡ false → may_before k a u v ≡ false → may_before k a v u ≡ false → ⊥
  relation_left a u v w l f g =
      ⊎_elim (λ h. not-empty a u v (omega arith) l f g)
      (λ h. not-empty a v u (omega arith) (may_overlap-sym k a u v ∙ l) g f) (lt_or_gt u v w.distinct)

-- Where rule 2 leaves nothing to remove, "before" is a strict order
module _ (p : Problem) (k : Domains) (consistent : inconsistent p k ≡ false) (a : ℕ) (ha : a < 3) where
  pub before_irreflexive : (x : ℕ) → fixed_before k a x x ≡ true → ⊥
  before_irreflexive x b = fixed_distinct k a x x b refl

  -- what is fixed is left
  pub before-left : (u v : ℕ) → u < p.items → v < p.items → fixed_before k a u v ≡ true → may_before k a u v ≡ false → ⊥
  before-left u v hu hv b m =
      let (o, n) = fixed_before-says k a u v b in
      relation_left p k consistent a u v (omega (arith, fixed_distinct k a u v b)) o m n

  pub before_transitive : Obeyed p.items k → Transitive p.items (fixed_before k a)
  unfolding says gone fixed_before
  before_transitive obeyed x v u hx hv hu f g =
      let apart : x ≢ u = λ q. before-left x v hx hv f (fixed_before-says k a v x (rw (← q) at g)).1 in
      obeyed _ _ (d2 2 a x v u (omega arith) (omega (arith, fixed_distinct k a x v f, fixed_distinct k a v u g))) (f, (g, tt))

-- What makes domains inconsistent, and what keeps them from it
module _ (p : Problem) (k : Domains) where
  pub large_inconsistent : (a v : ℕ) → a < 3 → v < p.items → p.capacity a < p.size a v → inconsistent p k ≡ true
  unfolding inconsistent
  large_inconsistent a v ha hv h =
      some_of 3 (λ a. some_below p.items (faulty p k a)) a ha
      (some_of p.items (faulty p k a) v hv (or_left (some_below v (λ u. empty k a u v)) (lt-ltb _ _ h)))

  pub consistent-of : ((a v : ℕ) → a < 3 → v < p.items → p.size a v ≤ p.capacity a) → ((a u v : ℕ) → Rising p.items a u v → empty k a u v ≡ false)
      → inconsistent p k ≡ false
  unfolding inconsistent
  consistent-of f g =
      none_of 3 (λ a. some_below p.items (faulty p k a)) (λ a ha. none_of p.items (faulty p k a)
      (λ v hv. neither_or (le-ltb _ _ (f a v ha hv)) (none_of v (λ u. empty k a u v) (λ u hu. g a u v (omega arith)))))
