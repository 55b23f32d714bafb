-- Where a search is, by the path that it has come to.
use Rattle.std.specs.Prelude.{◌∷◌, ◌≡◌, ◌≤◌, ◌<◌}
use Rattle.prelude.specs.Names.{Bool, true, false, List, [], ℕ, get_or, drop}
use Rattle.model.specs.Admits.{Sound}
use Rattle.model.specs.Branching.{Branch, second, choice, path_domains}
use Rattle.model.specs.Problem.{Problem}
use Rattle.model.specs.Run.{look}
use Rattle.sheet.specs.Sheet.{max_branches}
use Rattle.domains.specs.declared.Place.{Place}
use Rattle.domains.specs.declared.store.Store.{Store}
use Rattle.chains.specs.declared.totals.Totals.{Totals}
use Rattle.nodes.specs.Nodes.{slot_of, At, Seen}
use Rattle.nodes.specs.declared.snapshots.Snapshot.{Snapshot}
use Rattle.tree_paths.specs.Checkpoints.{branch_of, path_of, branches_of, PathIn}
use Rattle.tree_paths.specs.Looks.{Looked}
use Rattle.tree_paths.specs.declared.outlook.Outlook.{Outlook}
use Rattle.tree_paths.specs.States.{Standing}
use Rattle.tree_search.specs.declared.frontier.Frontier.{Frontier}
use Rattle.model.specs.Search as S

-- the path is one of branching points, and there is a snapshot of each at which it takes the first branch
abbrev pub Stands : Problem → Frontier → List Snapshot → List Branch → Type 0
Stands p f s path = Standing p (drop 60 f.totals.numbers) s f.kept f.depth f.from path

-- and its domains are ready to be looked at
pub record Open (p : Problem) (f : Frontier) (s : List Snapshot) (path : List Branch) : Type 0 where
  pub stands : Stands p f s path
  pub at : At p f.store.domains f.store.rows f.store.queue f.totals.numbers path

-- of a sound problem of n items
pub record AtPath (p : Problem) (n : ℕ) (f : Frontier) (s : List Snapshot) (path : List Branch) : Type 0 where
  pub sound : Sound p
  pub count : p.items ≡ n
  pub here : Open p f s path

-- the frontier after a look at its domains
abbrev pub seen_by : Frontier → Store → Totals → Frontier
seen_by f store totals = record { store = store; totals = totals; kept = f.kept; branches = f.branches; depth = f.depth; from = f.from }

-- what a look shows; nothing else has changed
pub record Shows (p : Problem) (path : List Branch) (s : List Snapshot) (old new : Frontier) (o : Outlook) : Type 0 where
  pub looked : Looked p path new.store.domains new.store.rows new.totals.numbers o
  pub stands : Stands p new s path
  pub same : new ≡ seen_by old new.store new.totals

-- the domains were looked at: they branch at a place
pub record AtFork (p : Problem) (path : List Branch) (f : Frontier) (s : List Snapshot) (c : Place) : Type 0 where
  pub sound : Sound p
  pub stands : Stands p f s path
  pub due : get_or f.branches f.depth 0 < 2
  pub fork : look p path ≡ S.fork
  pub seen : Seen p f.store.domains f.store.rows f.totals.numbers path
  pub place : choice (path_domains p path) ≡ slot_of c

-- the path has the branch that was due
pub record WentOn (p : Problem) (path : List Branch) (old new : Frontier) (s : List Snapshot) : Type 0 where
  pub ahead : Open p new s (branch_of (get_or old.branches old.depth 0) ∷ path)
  pub branches : new.branches ≡ old.branches

-- the array has the path, and nothing past it
pub record AtConflict (p : Problem) (path : List Branch) (f : Frontier) (s : List Snapshot) : Type 0 where
  pub sound : Sound p
  pub stands : Stands p f s path
  pub held : PathIn path f.branches f.depth

-- the last first branch has become second, or there was none
abbrev pub WentBack : Problem → List Branch → Frontier → List Snapshot → Bool → Type 0
WentBack p path f s true =
    (to : List Branch) × (S.backtrack path ≡ S.open_at (second ∷ to)) × Open p f s (second ∷ to) × PathIn (second ∷ to) f.branches f.depth
WentBack p path f s false = S.backtrack path ≡ S.infeasible

-- at the root, with the first branches given to go along
pub record AtRoot (p : Problem) (n length : ℕ) (given : List ℕ) (f : Frontier) (s : List Snapshot) : Type 0 where
  pub sound : Sound p
  pub count : p.items ≡ n
  pub short : length ≤ max_branches
  pub here : Open p f s []
  pub held : f.branches ≡ branches_of (path_of length given)

-- all of them are gone along, or one starts at no branching point
abbrev pub Follows : Problem → ℕ → List ℕ → Frontier → List Snapshot → Bool → Type 0
Follows p n given f s true = Open p f s (path_of n given) × (f.branches ≡ branches_of (path_of n given))
Follows p n given f s false = S.forking (look p) (path_of n given) ≡ false
