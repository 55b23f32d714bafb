-- Rule 5 inside the event loop: chain totals that are kept while rules 1 to 4 are not yet at rest, where "before" need not be a strict order.
-- All of it is stated once for both directions x: 1 is of the chains that start in an item, 2 of those that end in it.
use Rattle.std.specs.Prelude.{◌⊎◌, ◌≡◌, ◌≤◌, ◌<◌}
use Rattle.prelude.specs.Names.{true, false, ℕ, zero, suc}
use Rattle.model.specs.Problem.{Problem, gap}
use Rattle.model.specs.Domains.{Domains}
use Rattle.model.specs.Rules.{joined, greatest_ending, greatest_starting}
use Rattle.model.specs.Branching.{inconsistent}
use Rattle.model.specs.Order.{Proper, WellFormed, ◌⊑◌, AtRest}
use Rattle.model.specs.Relations.{gone, Untouched}
use Rattle.model.specs.Facts.{forced, Holds}
use Rattle.model.specs.Clauses.{of, Order}

-- domains that propagation may end in where it finds no inconsistency
pub record Goal (p : Problem) (f : Domains) : Type 0 where
  pub well_formed : WellFormed f
  pub rest : AtRest p f
  pub consistent : inconsistent p f ≡ false
  pub untouched : Untouched p.items f

-- 1 or 2
abbrev pub Direction : ℕ → Type 0
Direction = Order

-- the total of the greatest chain starting in u (1), or ending in it (2)
abbrev pub greatest : ℕ → Problem → Domains → ℕ → ℕ → ℕ
greatest zero p k a u = greatest_starting p k a u
greatest (suc zero) p k a u = greatest_starting p k a u
greatest (suc (suc x)) p k a u = greatest_ending p k a u

-- a chain of v may go on with z: z is known before v (1), or v before z (2)
abbrev pub Linked : ℕ → Domains → ℕ → ℕ → ℕ → Type 0
Linked x k a v z = Holds k (of (forced x) a v z)

-- what lies between v and z there
abbrev pub between : ℕ → Problem → ℕ → ℕ → ℕ → ℕ
between zero p a v z = gap p a z v
between (suc zero) p a v z = gap p a z v
between (suc (suc x)) p a v z = gap p a v z

-- the total where a chain of v, of the total m, goes on with z
abbrev pub extended : ℕ → Problem → ℕ → ℕ → ℕ → ℕ → ℕ
extended zero p a v z m = joined p a z v (p.size a z) m
extended (suc zero) p a v z m = joined p a z v (p.size a z) m
extended (suc (suc x)) p a v z m = joined p a v z m (p.size a z)

-- a number for each direction, axis and item
abbrev pub Table : Type 0
Table = ℕ → ℕ → ℕ → ℕ

-- the numbers are at most the totals of the greatest chains of f
abbrev pub Under : Problem → Table → Domains → Type 0
Under p t f = (x a u : ℕ) → Direction x → a < 3 → u < p.items → t x a u ≤ greatest x p f a u

-- THE INVARIANT: from k to j relations are only removed; every goal below k is still below j, and the table is under its chains
pub record Toward (p : Problem) (k j : Domains) (t : Table) : Type 0 where
  pub well_formed : WellFormed j
  pub high : j ⊑ k
  pub low : (f : Domains) → Goal p f → f ⊑ k → f ⊑ j
  pub under : (f : Domains) → Goal p f → f ⊑ k → Under p t f

-- sets of links, by their direction, and of pairs on an axis
abbrev pub Links : Type 1
Links = ℕ → ℕ → ℕ → ℕ → Type 0

abbrev pub Cuts : Type 1
Cuts = ℕ → ℕ → ℕ → Type 0

abbrev pub NoLink : Links
NoLink x a v z = ⊥

abbrev pub NoPair : Cuts
NoPair a u v = ⊥

-- the numbers go on along every link, but for those of L; and what they find too long is removed, but for the pairs of C
pub record ClosedBut (L : Links) (C : Cuts) (p : Problem) (k : Domains) (t : Table) : Type 0 where
  pub size : (x a u : ℕ) → Direction x → a < 3 → u < p.items → p.size a u ≤ t x a u
  pub on : (x a v z : ℕ) → Direction x → Proper p.items a v z → Linked x k a v z → (extended x p a v z (t x a v) ≤ t x a z) ⊎ L x a v z
  pub cut : (a u v : ℕ) → Proper p.items a u v → p.capacity a < joined p a u v (t 2 a u) (t 1 a v) → (gone k 1 a u v ≡ true) ⊎ C a u v

-- all links followed, all cuts made
abbrev pub Closed : Problem → Domains → Table → Type 0
Closed = ClosedBut NoLink NoPair
