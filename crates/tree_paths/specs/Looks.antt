-- What a look at a path shows: propagation of its domains, and where they branch.
use Rattle.std.specs.Prelude.{◌≡◌}
use Rattle.prelude.specs.Names.{List, ℕ}
use Rattle.model.specs.Admits.{Sound}
use Rattle.model.specs.Branching.{Branch, choice, path_domains}
use Rattle.model.specs.Domains.{Domains}
use Rattle.model.specs.Problem.{Problem}
use Rattle.model.specs.Run.{look}
use Rattle.model.specs.FirstBranches.{Passed}
use Rattle.nodes.specs.Nodes.{slot_of, At, Seen}
use Rattle.tree_paths.specs.declared.outlook.Outlook.{Outlook}
use Rattle.tree_paths.specs.declared.outlook.Outlook.TheVariants.{Conflict, Complete, Fork}
use Rattle.model.specs.Search as S

-- what is seen of a path, and what its domains are where they are consistent
abbrev pub Looked : Problem → List Branch → Domains → List ℕ → List ℕ → Outlook → Type 0
Looked p path k rows t Conflict = look p path ≡ S.conflict
Looked p path k rows t Complete = (look p path ≡ S.complete) × Seen p k rows t path
Looked p path k rows t (Fork c) = (look p path ≡ S.fork) × Seen p k rows t path × (choice (path_domains p path) ≡ slot_of c)

-- what a look is of: a path of a sound problem of n items, and pairs before a number that are separated in its domains
pub record Lookable (p : Problem) (n : ℕ) (k : Domains) (rows q t : List ℕ) (path : List Branch) (from : ℕ) : Type 0 where
  pub sound : Sound p
  pub count : p.items ≡ n
  pub at : At p k rows q t path
  pub passed : Passed (path_domains p path) from
