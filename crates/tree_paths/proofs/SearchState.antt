-- The state of a search between two looks: a path, its domains ready to be looked at, and the snapshots to go back to.
use Rattle.std.specs.Prelude.{◌∷◌, ◌++◌, ◌⊎◌, ◌≢◌, ◌≡◌, ◌+◌, ◌-◌, ◌/◌, ◌%◌, ◌≤◌, ◌<◌}
use Rattle.prelude.specs.Names.{true, not, List, [], inl, inr, refl, sym, ap, ◌∙◌, subst, ℕ, zero, suc}
use Rattle.prelude.specs.Names.{arith, eqb, eqb-suc-zero, length, get_or, set, take, drop, length-set, length-drop, ext_get_or}
use Rattle.prelude.specs.Names.{get_or-drop, get_or-set_same, get_or-set_other, length-take-le}
use Rattle.std.proofs.lemmas.List.{take-append-drop, get_or_default}
use Rattle.std.proofs.Math.Seq.{drop-append_seam}
use Rattle.model.proofs.Fork.{choice_numbered}
use Rattle.model.proofs.Path.{path_fork}
use Rattle.model.proofs.Search.{look_fork, limit_270}
use Rattle.model.proofs.Theorems.{fork_most}
use Rattle.model.proofs.FirstBranches.{saved-count, firsts_90, fork_firsts_90, branch_passed}
use Rattle.model.specs.Admits.{Sound}
use Rattle.model.specs.Branching.{Branch, first, second, choice, path_domains}
use Rattle.model.specs.Pairs.{pair_number}
use Rattle.model.specs.Domains.{Domains}
use Rattle.model.specs.Order.{Rising}
use Rattle.model.specs.Problem.{Problem}
use Rattle.model.specs.Propagate.{Slot}
use Rattle.model.specs.Run.{look}
use Rattle.model.specs.FirstBranches.{saved, Passed}
use Rattle.nodes.specs.Choice.{branch_by, Branchable, Branched}
use Rattle.domains.specs.Queue.{max_queue}
use Rattle.nodes.specs.Nodes.{slot_of, slot_coded, At, Seen}
use Rattle.domains.specs.Queue.{Coded, pair_code}
use Rattle.model.proofs.Slots.{proper-up}
use Rattle.nodes.specs.declared.snapshots.Snapshot.{Snapshot}
use Rattle.tree_paths.specs.States.{Kept, Stacked, Standing}
use Rattle.tree_paths.specs.Checkpoints.{branch_of, PathIn, Backed, some_left, none_left}
use Rattle.chains.specs.Totals.{SameMeasures}
use Rattle.domains.specs.declared.Place.{Place}
use Rattle.nodes.proofs.Branches.{branchable, branch_at_path}
use Rattle.model.specs.Search as S

-- the root
pub standing_root : {p : Problem} {m : List ℕ} {s : List Snapshot} → length s ≡ 90 → Standing p m s 0 0 0 []
standing_root r = record { forks = tt; passed = λ i h. absurd (omega arith); deep = refl; many = refl; room = r; stacked = tt }

-- what is behind the totals does not change
pub same_behind : {t s : List ℕ} → SameMeasures t s → drop 60 s ≡ drop 60 t
same_behind {t} {s} m =
    ext_get_or 0 (drop 60 s) (drop 60 t) (simp length-drop (omega (arith, m.long)))
    (λ i h. get_or-drop 60 s i 0 ∙ m.kept (60 + i) (omega arith) ∙ sym (get_or-drop 60 t i 0))

-- the number of a branch as a Boolean
pub side_of : (m : ℕ) → branch_by (not (eqb m 0)) ≡ branch_of m
side_of zero = refl
side_of (suc m) = rw (eqb-suc-zero m)

-- a place and its number
pub place_coded : (c : Place) {x : ℕ} → pair_code c.axis c.u c.v ≡ x → slot_coded x ≡ slot_of c
place_coded c {x} e =
    let a : x / 256 ≡ c.axis = omega (arith, e, c.proper.item_u, c.proper.item_v) in
    let u : x / 16 % 16 ≡ c.u = omega (arith, e, c.proper.item_u, c.proper.item_v) in
    let v : x % 16 ≡ c.v = omega (arith, e, c.proper.item_u, c.proper.item_v) in
    λ i. record { axis = a i; u = u i; v = v i }

module _ (p : Problem) (sound : Sound p) (path : List Branch) (fork : look p path ≡ S.fork) where
  -- a branching point's place
  module _ (c : Place) (e : choice (path_domains p path) ≡ slot_of c) where
    pub fork_rising : Rising p.items c.axis c.u c.v
    fork_rising =
        let (i, u) = look_fork p path fork in
        subst (λ (s : Slot). Rising p.items s.axis s.u s.v) e (path_fork p sound path i u).place

    pub fork_pair : (c.u < c.v) × (c.v < 10)
    fork_pair = (fork_rising.rising, omega (arith, fork_rising.item, sound.limited))

    fork_passed : (b : Branch) → Passed (path_domains p (b ∷ path)) (pair_number c.u c.v)
    fork_passed b =
        subst (λ (s : Slot). Passed (path_domains p (b ∷ path)) (pair_number s.u s.v)) e
        (rw (choice_numbered (path_domains p path)) (branch_passed p sound b path fork))

-- A fork: what it shows is kept, and a branch of it taken
module _ {p : Problem} (sound : Sound p) {m : List ℕ} {s : List Snapshot} {kept depth from : ℕ} {path : List Branch}
    (σ : Standing p m s kept depth from path) where
  module _ (fork : look p path ≡ S.fork) where
    pub fork_level : kept < 90
    fork_level = omega (arith, σ.many, saved-count path, fork_firsts_90 p sound path σ.forks fork)

    pub fork_depth : depth < 270
    fork_depth = omega (arith, σ.deep, fork_most p sound path σ.forks fork, limit_270 p sound.limited)

    module _ {k : Domains} {rows t : List ℕ} (behind : drop 60 t ≡ m) (κ : Seen p k rows t path) (c : Place)
        (e : choice (path_domains p path) ≡ slot_of c) (x : Snapshot) (kd : x.domains ≡ k) (kr : x.rows ≡ rows) (kt : x.totals ≡ take 60 t)
        (kc : slot_coded x.code ≡ slot_of c) where
      abbrev next : List Snapshot
      next = set s kept x

      -- every snapshot below stays
      stacked_below : (l : List (List Branch)) → length l ≤ kept → Stacked p s m l → Stacked p next m l
      stacked_below [] h f = tt
      stacked_below (a ∷ l) h f =
          let n : length l ≢ kept = λ e. omega arith in (
            record {
              snapshot = f.0.snapshot;
              there = get_or-set_other s kept (length l) x f.0.snapshot n ∙ f.0.there;
              long = f.0.long;
              seen = f.0.seen;
              place = f.0.place;
            },
            stacked_below l (omega arith) f.1,
          )

      last_kept : Kept p next m kept path
      last_kept = record {
        snapshot = x;
        there = get_or-set_same s kept x x (omega (arith, fork_level, σ.room));
        long = rw kt (length-take-le 60 t (omega (arith, κ.rested.tabled.long)));
        seen = rw (kd, kr, kt, ← behind, take-append-drop) κ;
        place = e ∙ sym kc;
      }

      -- b is the number of the branch
      pub standing-next : (b : ℕ) → b < 2 → {from' : ℕ} → from' ≡ pair_number c.u c.v
          → Standing p m next (kept + 1 - b) (depth + 1) from' (branch_of b ∷ path)
      standing-next b small f = record {
        forks = (fork, σ.forks);
        passed = rw f (fork_passed p sound path fork c e (branch_of b));
        deep = omega (arith, σ.deep);
        many = (levels_after b small).0;
        room = length-set s kept x ∙ σ.room;
        stacked = (levels_after b small).1;
      }
        where
          levels_after : (b : ℕ) → b < 2 → (kept + 1 - b ≡ length (saved (branch_of b ∷ path))) × Stacked p next m (saved (branch_of b ∷ path))
          levels_after zero h = (omega (arith, σ.many), (rw (← σ.many) last_kept, stacked_below (saved path) (omega (arith, σ.many)) σ.stacked))
          levels_after (suc zero) h = (omega (arith, σ.many), stacked_below (saved path) (omega (arith, σ.many)) σ.stacked)
          levels_after (suc (suc b)) h = absurd (omega arith)

      pub at-next : (b : ℕ) {q rows' r : List ℕ} {j : Domains} → Branched k q c (not (eqb b 0)) j rows' r → length q ≡ max_queue
          → At p j rows' r t (branch_of b ∷ path)
      at-next b β l = rw (side_of b) at (branch_at_path p sound path σ.forks fork κ c e l β)

-- Where the search goes back to: the last first branch becomes second
pub record BackTo (p : Problem) (path : List Branch) : Type 0 where
  pub to : List Branch
  pub back : S.backtrack path ≡ S.open_at (second ∷ to)
  pub forks : S.Forking (look p) (second ∷ to)
  pub saves : saved path ≡ to ∷ saved to

back_from : (p : Problem) (path : List Branch) → S.Forking (look p) path → (S.backtrack path ≡ S.infeasible) ⊎ BackTo p path
back_from p [] f = inl refl
back_from p (first ∷ path) f = inr (record { to = path; back = refl; forks = f; saves = refl })
back_from p (second ∷ path) f = elim (back_from p path f.1) [
  | inl e ↦ inl e
  | inr τ ↦ inr (record { to = τ.to; back = τ.back; forks = τ.forks; saves = τ.saves })
]

-- by how many branches are left of the path
module _ (p : Problem) (path : List Branch) (forks : S.Forking (look p) path) {cs : List ℕ} {left : ℕ} (δ : Backed (S.backtrack path) cs left) where
  pub back_branches : (τ : BackTo p path) → PathIn (second ∷ τ.to) cs left
  back_branches τ = held (rw τ.back at δ)
    where
      held : {l : List Branch} → Backed (S.open_at l) cs left → PathIn l cs left
      held (some_left h) = h

  pub back-infeasible : left ≡ 0 → S.backtrack path ≡ S.infeasible
  back-infeasible e = elim (back_from p path forks) [ inl b ↦ b | inr τ ↦ absurd (omega (arith, (back_branches τ).many)) ]

  pub back_exists : (left ≡ 0 → ⊥) → BackTo p path
  back_exists f = elim (back_from p path forks) [ inl b ↦ absurd (f (none (rw b at δ))) | inr τ ↦ τ ]
    where
      none : {bs : List ℕ} {n : ℕ} → Backed S.infeasible bs n → n ≡ 0
      none none_left = refl

module _ {p : Problem} (sound : Sound p) {m : List ℕ} {s : List Snapshot} {kept depth from : ℕ} {path : List Branch}
    (σ : Standing p m s kept depth from path) (τ : BackTo p path) where
  pub back_level : kept ≡ suc (length (saved τ.to))
  back_level = σ.many ∙ ap length τ.saves

  pub back_below : kept - 1 < 90
  back_below = omega (arith, back_level, σ.many, saved-count path, firsts_90 p sound path σ.forks)

  last_level : Kept p s m (kept - 1) τ.to
  last_level =
      let e : length (saved τ.to) ≡ kept - 1 = omega (arith, back_level) in
      rw e at (subst (Stacked p s m) τ.saves σ.stacked).0

  -- the snapshot that is there, read with any default
  module _ (d : Snapshot) where
    abbrev x : Snapshot
    x = get_or s (kept - 1) d

    x_is : x ≡ last_level.snapshot
    x_is = get_or_default s (kept - 1) d last_level.snapshot (omega (arith, back_below, σ.room)) ∙ last_level.there

    back-code : choice (path_domains p τ.to) ≡ slot_coded x.code
    back-code = rw x_is last_level.place

    -- the number stands for two items
    pub back-coded : Coded x.code
    back-coded =
        let (i, u) = look_fork p τ.to τ.forks.0 in
        let r = subst (λ (s : Slot). Rising p.items s.axis s.u s.v) back-code (path_fork p sound τ.to i u).place in
        proper-up (record { axis = r.axis; rising = r.rising; item = omega (arith, r.item, sound.limited) })

    pub back-seen : Seen p x.domains x.rows (x.totals ++ m) τ.to
    back-seen = rw x_is last_level.seen

    -- the measures stay behind the totals that are loaded
    pub back-behind : drop 60 (x.totals ++ m) ≡ m
    back-behind = let long : length x.totals ≡ 60 = rw x_is last_level.long in rw long at (drop-append_seam x.totals m)

    -- the place of that number
    module _ (c : Place) (is : slot_coded x.code ≡ slot_of c) where
      pub back-place : choice (path_domains p τ.to) ≡ slot_of c
      back-place = back-code ∙ is

      pub back-pair : (c.u < c.v) × (c.v < 10)
      back-pair = fork_pair p sound τ.to τ.forks.0 c back-place

      pub back_branchable : Branchable x.domains c
      back_branchable = branchable p sound τ.to τ.forks.1 τ.forks.0 back-seen c back-place

      pub standing-back : {from' : ℕ} → from' ≡ pair_number c.u c.v → {left : ℕ} → left ≡ length (second ∷ τ.to)
          → Standing p m s (kept - 1) left from' (second ∷ τ.to)
      standing-back f deep = record {
        forks = τ.forks;
        passed = rw f (fork_passed p sound τ.to τ.forks.0 c back-place second);
        deep = deep;
        many = omega (arith, back_level);
        room = σ.room;
        stacked = (subst (Stacked p s m) τ.saves σ.stacked).1;
      }

      pub at-back : {q rows' r : List ℕ} {j : Domains} → length q ≡ max_queue → Branched x.domains q c true j rows' r
          → At p j rows' r (x.totals ++ m) (second ∷ τ.to)
      at-back l β = branch_at_path p sound τ.to τ.forks.1 τ.forks.0 back-seen c back-place l β
