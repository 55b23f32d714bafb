-- Nodes of the search tree: domains of a path with their rows, queue and totals.
use Rattle.std.specs.Prelude.{◌≡◌, ◌/◌, ◌%◌}
use Rattle.prelude.specs.Names.{false, List, ℕ}
use Rattle.model.specs.Branching.{Branch, path_domains, inconsistent}
use Rattle.model.specs.Domains.{Domains}
use Rattle.model.specs.Problem.{Problem}
use Rattle.model.specs.Propagate.{Slot, propagate}
use Rattle.model.specs.Relations.{Untouched}
use Rattle.model.specs.Wide.{wide}
use Rattle.propagation.specs.Propagated.{Ready, Rested}
use Rattle.domains.specs.declared.Place.{Place}

abbrev pub slot_of : Place → Slot
slot_of c = record { axis = c.axis; u = c.u; v = c.v }

-- the slot that a number stands for
abbrev pub slot_coded : ℕ → Slot
slot_coded x = record { axis = x / 256; u = x / 16 % 16; v = x % 16 }

-- propagation of k comes to the path's domains, or both are inconsistent
pub record Leads (p : Problem) (k : Domains) (path : List Branch) : Type 0 where
  pub verdict : inconsistent p (propagate p k) ≡ inconsistent p (path_domains p path)
  pub same : inconsistent p (path_domains p path) ≡ false → propagate p k ≡ path_domains p path

-- domains with their rows, queue and totals, that propagation makes those of the path
pub record At (p : Problem) (k : Domains) (rows q t : List ℕ) (path : List Branch) : Type 0 where
  pub ready : Ready (wide p) k rows q t
  pub untouched : Untouched p.items k
  pub leads : Leads p k path

-- the path's domains themselves
pub record Seen (p : Problem) (k : Domains) (rows t : List ℕ) (path : List Branch) : Type 0 where
  pub is : k ≡ path_domains p path
  pub rested : Rested (wide p) k rows t
  pub consistent : inconsistent p k ≡ false
