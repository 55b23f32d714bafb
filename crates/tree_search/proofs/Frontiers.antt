-- A frontier goes on from a branching point, or back to the last one that it has kept.
use Rattle.std.specs.Prelude.{◌++◌, ◌≡◌, ◌+◌, ◌-◌, ◌≤◌, ◌<◌}
use Rattle.prelude.specs.Names.{true, false, not, List, refl, ◌∙◌, ap, ℕ, arith, eqb, get_or, length, set, take, drop}
use Rattle.model.proofs.Theorems.{path_270}
use Rattle.model.specs.Branching.{Branch}
use Rattle.model.specs.Domains.{Domains}
use Rattle.model.specs.Pairs.{pair_number}
use Rattle.model.specs.Problem.{Problem}
use Rattle.model.specs.Run.{look}
use Rattle.domains.specs.Rows.{Laid}
use Rattle.domains.specs.Queue.{Coded}
use Rattle.domains.specs.declared.Place.{Place}
use Rattle.domains.specs.declared.store.Store.{Store}
use Rattle.chains.specs.Totals.{Tabled, SameMeasures}
use Rattle.chains.specs.declared.totals.Totals.{Totals}
use Rattle.nodes.specs.Choice.{Branchable, Branches}
use Rattle.nodes.specs.Nodes.{slot_of, slot_coded}
use Rattle.nodes.specs.declared.snapshots.Snapshot.{Snapshot}
use Rattle.nodes.proofs.Branches.{branchable}
use Rattle.tree_paths.specs.Checkpoints.{path_of, branches_of, PathIn, Backed}
use Rattle.tree_paths.specs.Looks.{Looked, Lookable}
use Rattle.tree_paths.specs.declared.outlook.Outlook.{Outlook}
use Rattle.tree_paths.specs.declared.outlook.Outlook.TheVariants.{Conflict, Complete, Fork}
use Rattle.tree_paths.proofs.Checkpoints.{branches_length, branches_small, path_length}
use Rattle.tree_paths.proofs.SearchState.{same_behind, fork_pair, fork_level, fork_depth, standing-next, at-next, BackTo, back_branches, back-infeasible}
use Rattle.tree_paths.proofs.SearchState.{back_exists, back_level, back_below, back-seen, back-pair, back-behind, back-coded}
use Rattle.tree_paths.proofs.SearchState.{back_branchable, standing-back, at-back}
use Rattle.tree_search.specs.Frontiers.{Stands, Open, AtPath, seen_by, Shows, AtFork, WentOn, AtConflict, WentBack, AtRoot}
use Rattle.tree_search.specs.declared.frontier.Frontier.{Frontier}
use Rattle.tree_search.proofs.Stepping.{given_next}
use Rattle.model.specs.Search as S

-- what is kept stays
pub stands_still : {p : Problem} (f : Frontier) {ss : List Snapshot} {path : List Branch} (s : Store) (t : Totals)
    → SameMeasures f.totals.numbers t.numbers → Stands p f ss path → Stands p (seen_by f s t) ss path
stands_still f s t m σ = rw (same_behind m) σ

module _ {p : Problem} {path : List Branch} {f : Frontier} {ss : List Snapshot} {c : Place} (h : AtFork p path f ss c) where
  pub fork_room : (f.depth < 270) × (f.kept < 90)
  fork_room = (fork_depth h.sound h.stands h.fork, fork_level h.sound h.stands h.fork)

  pub fork_rises : (c.u < c.v) × (c.v < 10)
  fork_rises = fork_pair p h.sound path h.fork c h.place

  pub fork_branchable : Branchable f.store.domains c
  fork_branchable = branchable p h.sound path h.stands.forks h.fork h.seen c h.place

  pub went_on : (x : Snapshot) → x.domains ≡ f.store.domains → x.rows ≡ f.store.rows → x.totals ≡ take 60 f.totals.numbers → slot_coded x.code ≡ slot_of c
      → (s : Store) → Branches f.store c (not (eqb (get_or f.branches f.depth 0) 0)) s → {from : ℕ} → from ≡ pair_number c.u c.v
      → WentOn p path f (record {
        store = s;
        totals = f.totals;
        kept = f.kept + 1 - get_or f.branches f.depth 0;
        branches = f.branches;
        depth = f.depth + 1;
        from = from;
      }) (set ss f.kept x)
  went_on x kd kr kt kc s β e =
      let b = get_or f.branches f.depth 0 in
      record {
        ahead = record {
          stands = standing-next h.sound h.stands h.fork refl h.seen c h.place x kd kr kt kc b h.due e;
          at = at-next h.sound h.stands h.fork refl h.seen c h.place x kd kr kt kc b β f.store.good.long;
        };
        branches = refl;
      }

module _ {p : Problem} {path : List Branch} {f : Frontier} {ss : List Snapshot} (h : AtConflict p path f ss) where
  pub branches_held : (length f.branches ≡ 270) × (f.depth ≤ 270)
  branches_held = (ap length h.held.entries ∙ branches_length path, omega (arith, h.held.many, path_270 p h.sound path h.stands.forks))

  module _ {bs : List ℕ} {left : ℕ} (δ : (path : List Branch) → PathIn path f.branches f.depth → Backed (S.backtrack path) bs left) where
    pub none_left : left ≡ 0 → S.backtrack path ≡ S.infeasible
    none_left = back-infeasible p path h.stands.forks (δ path h.held)

    module _ (more : left ≡ 0 → ⊥) where
      τ : BackTo p path
      τ = back_exists p path h.stands.forks (δ path h.held) more

      pub last_level : (1 ≤ f.kept) × (f.kept - 1 < 90)
      last_level = (omega (arith, back_level h.sound h.stands τ), back_below h.sound h.stands τ)

      module _ (d : Snapshot) where
        abbrev x : Snapshot
        x = get_or ss (f.kept - 1) d

        pub last_laid : Laid x.domains x.rows
        last_laid = (back-seen h.sound h.stands τ d).rested.laid

        pub last_tabled : Tabled (x.totals ++ drop 60 f.totals.numbers)
        last_tabled = (back-seen h.sound h.stands τ d).rested.tabled

        pub last_coded : Coded x.code
        last_coded = back-coded h.sound h.stands τ d

        -- the place of its number
        module _ (c : Place) (is : slot_coded x.code ≡ slot_of c) where
          pub last_rises : (c.u < c.v) × (c.v < 10)
          last_rises = back-pair h.sound h.stands τ d c is

          pub last_branchable : Branchable x.domains c
          last_branchable = back_branchable h.sound h.stands τ d c is

          pub went_back : (l s : Store) (t : Totals) → l.domains ≡ x.domains → t.numbers ≡ x.totals ++ drop 60 f.totals.numbers → Branches l c true s
              → {from : ℕ} → from ≡ pair_number c.u c.v
              → WentBack p path (record {
                store = s;
                totals = t;
                kept = f.kept - 1;
                branches = bs;
                depth = left;
                from = from;
              }) ss true
          went_back l s t ld lt β e =
              let held = back_branches p path h.stands.forks (δ path h.held) τ in (
                τ.to,
                τ.back,
                record {
                  stands = rw (lt, back-behind h.sound h.stands τ d) (standing-back h.sound h.stands τ d c is e held.many);
                  at = rw lt (at-back h.sound h.stands τ d c is l.good.long (rw ld at β));
                },
                held,
              )

-- What a look at a frontier shows
module _ {p : Problem} {n : ℕ} {f : Frontier} {ss : List Snapshot} {path : List Branch} (h : AtPath p n f ss path) where
  pub shown : (s : Store) (t : Totals) → SameMeasures f.totals.numbers t.numbers → {o : Outlook}
      → (Lookable p n f.store.domains f.store.rows f.store.queue f.totals.numbers path f.from → Looked p path s.domains s.rows t.numbers o)
      → Shows p path ss f (seen_by f s t) o
  shown s t m looked = record {
    looked = looked (record { sound = h.sound; count = h.count; at = h.here.at; passed = h.here.stands.passed });
    stands = stands_still f s t m h.here.stands;
    same = refl;
  }

  module _ {g : Frontier} {o : Outlook} (w : Shows p path ss f g o) where
    -- the branches and their number are as they were
    pub same_branches : (g.branches ≡ f.branches) × (g.depth ≡ f.depth)
    same_branches = (ap (λ (x : Frontier). x.branches) w.same, ap (λ (x : Frontier). x.depth) w.same)

    pub at_conflict : f.branches ≡ branches_of path → AtConflict p path g ss
    at_conflict e = record { sound = h.sound; stands = w.stands; held = record { many = w.stands.deep; entries = same_branches.0 ∙ e } }

  pub at_fork : {g : Frontier} {c : Place} → Shows p path ss f g (Fork c) → get_or f.branches f.depth 0 < 2 → AtFork p path g ss c
  at_fork w due = record {
    sound = h.sound;
    stands = w.stands;
    due = rw ((same_branches w).0, (same_branches w).1) due;
    fork = w.looked.0;
    seen = w.looked.1;
    place = w.looked.2;
  }

-- what is shown is no branching point
pub no_fork : (p : Problem) (path : List Branch) (k : Domains) (rows t : List ℕ) (o : Outlook) → Looked p path k rows t o
    → ((c : Place) → o ≡ Fork c → ⊥) → S.is_fork (look p path) ≡ false
no_fork p path k rows t Conflict l none = rw l refl
no_fork p path k rows t Complete l none = rw l.0 refl
no_fork p path k rows t (Fork c) l none = absurd (none c refl)

-- Along a path from the root: so many of its branches are gone along
module _ {p : Problem} {n length : ℕ} {given : List ℕ} {r : Frontier} {rs : List Snapshot} (h : AtRoot p n length given r rs) (i : ℕ) {f : Frontier}
    {ss : List Snapshot} (here : Open p f ss (path_of i given)) (held : f.branches ≡ branches_of (path_of length given)) where
  pub on_path : AtPath p n f ss (path_of i given)
  on_path = record { sound = h.sound; count = h.count; here = here }

  pub path_due : (j : ℕ) → get_or f.branches j 0 < 2
  path_due j = rw held (branches_small (path_of length given) j)

  pub followed : i < length → {g k : Frontier} {ks : List Snapshot} {o : Outlook} → Shows p (path_of i given) ss f g o → WentOn p (path_of i given) g k ks
      → Open p k ks (path_of (i + 1) given) × (k.branches ≡ branches_of (path_of length given))
  followed more w went =
      let (branches, depth) = same_branches on_path w in
      let at = depth ∙ here.stands.deep ∙ path_length i given in
      (rw (at, given_next length i given h.short more (branches ∙ held)) at went.ahead, went.branches ∙ branches ∙ held)
