-- What lies between domains and their propagation: the terms in which the laws of removal are stated.
use Rattle.std.specs.Prelude.{◌≢◌, ◌≡◌, ◌<◌}
use Rattle.prelude.specs.Names.{true, false, ℕ, get_or, length}
use Rattle.model.specs.Problem.{Problem}
use Rattle.model.specs.Domains.{Domains, bit, gone}
use Rattle.model.specs.Rules.{asks}
use Rattle.model.specs.Propagate.{Slot, propagate}
use Rattle.model.specs.Branching.{separated, undecided}

-- an axis and two distinct items below n
pub record Proper (n a u v : ℕ) : Type 0 where
  pub axis : a < 3
  pub item_u : u < n
  pub item_v : v < n
  pub distinct : u ≢ v

-- an axis and a pair of items below n, the lower first
pub record Rising (n a u v : ℕ) : Type 0 where
  pub axis : a < 3
  pub rising : u < v
  pub item : v < n

-- 135 numbers from 0 to 7
pub record WellFormed (k : Domains) : Type 0 where
  pub long : length k ≡ 135
  pub small : (i : ℕ) → get_or k i 0 < 8

-- the relations of the domain m are among those of j
pub record Subdomain (m j : ℕ) : Type 0 where
  pub bits : (y : ℕ) → bit y m ≡ true → bit y j ≡ true

-- k has at most the relations of j
infix 20 ◌⊑◌
abbrev pub ◌⊑◌ : Domains → Domains → Type 0
k ⊑ j = (i : ℕ) → Subdomain (get_or k i 0) (get_or j i 0)

-- j has lost of k nothing that propagation leaves
pub record Between (p : Problem) (k j : Domains) : Type 0 where
  pub well_formed : WellFormed j
  pub low : propagate p k ⊑ j
  pub high : j ⊑ k

-- "until nothing more can be struck": no rule asks for a relation that is left
pub record AtRest (p : Problem) (k : Domains) : Type 0 where
  pub done : (x a u v : ℕ) → x < 3 → Proper p.items a u v → asks p k x a u v ≡ true → gone k x a u v ≡ true

-- a place to branch: a pair of the problem with no fixed "before", on an axis with more than one relation left
pub record Fork (p : Problem) (k : Domains) (c : Slot) : Type 0 where
  pub place : Rising p.items c.axis c.u c.v
  pub unseparated : separated k c.u c.v ≡ false
  pub several : undecided k c.axis c.u c.v ≡ true
