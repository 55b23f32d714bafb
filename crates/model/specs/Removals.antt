-- What document 01 says of the rules and of a row, with no word of passes: relations removed in any
-- order, and a path's removals with no rule applied in between. proofs/Removals shows that they
-- come to what `propagate` and `path_domains` compute.
use Rattle.std.specs.Prelude.{◌∷◌, ◌≡◌, ◌<◌}
use Rattle.prelude.specs.Names.{true, List, [], ℕ}
use Rattle.model.specs.Problem.{Problem}
use Rattle.model.specs.Domains.{Domains, may_overlap, without}
use Rattle.model.specs.Rules.{asks}
use Rattle.model.specs.Branching.{opening_domains, choice, Branch, branch_at, path_domains}
use Rattle.model.specs.Order.{Proper}

-- "These hold for distinct pieces, until nothing more can be struck": relations removed from k one
-- at a time, in any order, each asked for by a rule when it is removed. `AtRest` is the end of it
pub data Removed (p : Problem) (k : Domains) : Domains → Type 0 where
  untouched : Removed p k k
  then : {j : Domains} → Removed p k j → (x a u v : ℕ) → x < 3 → Proper p.items a u v
      → asks p j x a u v ≡ true → Removed p k (without j x a u v)

-- the relations that the branch b removes where the search is at k, removed from j
unfoldable pub branch_removals : Domains → Branch → Domains → Domains
branch_removals k b j =
    let c = choice k in
    branch_at (may_overlap k c.axis c.u c.v) b j c.axis c.u c.v

-- "A row stands for the opening knowledge with its turns struck and everything above applied": here
-- only with its turns struck. At each branch the search is at the domains of the path before it
unfoldable pub path_removals : Problem → List Branch → Domains
path_removals p [] = opening_domains p
path_removals p (b ∷ path) = branch_removals (path_domains p path) b (path_removals p path)
