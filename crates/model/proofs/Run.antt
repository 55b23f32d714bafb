-- The run of the search ends, and says infeasible only where no packing is left: one induction on the weight.
use Rattle.std.specs.Prelude.{◌≡◌, ◌⊎◌, ◌↔◌, ◌∷◌, ◌+◌, ◌≤◌, ◌<◌}
use Rattle.prelude.specs.Names.{refl, sym, ap, subst, inl, inr, ⊎_elim, true, false≢true, List, [], ℕ, zero, suc}
use Rattle.prelude.specs.Names.{le_refl, arith, length}
use Rattle.model.specs.Branching.{Branch, first, second}
use Rattle.model.specs.Machine.{Open, steps, Count, Invariant}
use Rattle.model.specs.Search.{Outlook, conflict, complete, fork, Checkpoint, open_at, infeasible, packed_at, backtrack, act, searching}
use Rattle.model.specs.Search.{opening, Forking, Follows, is_fork, is_complete, forking, follows, path_count, Laws}
use Rattle.model.proofs.Below.{and_intro, and_both}
use Rattle.model.proofs.Machine.{Way, no_steps, step_then, join, way_ends, way_counts, steps_keep}

module _ (look : List Branch → Outlook) where
  -- a checkpoint that follows does so one step on
  backtrack-follows : (path : List Branch) → Forking look path → Follows look (backtrack path)
  backtrack-follows [] l = tt
  backtrack-follows (second ∷ path) l = backtrack-follows path l.1
  backtrack-follows (first ∷ path) l = l

  act-follows : (path : List Branch) → Forking look path → (o : Outlook) → look path ≡ o → Follows look (act o path)
  act-follows path l conflict e = backtrack-follows path l
  act-follows path l complete e = (l, e)
  act-follows path l fork e = (e, l)

  pub follows_invariant : Invariant (searching look) (Follows look)
  follows_invariant = record { opens = tt; keeps = onward }
    where
      onward : (κ : Checkpoint) → Open (searching look) κ → Follows look κ → Follows look ((searching look).step κ)
      onward (open_at path) o l = act-follows path l (look path) refl
      onward infeasible o l = absurd o
      onward (packed_at path) o l = absurd o

  pub steps_follow : (i : ℕ) (κ : Checkpoint) → Follows look κ → Follows look (steps (searching look) i κ)
  steps_follow = steps_keep (searching look) (Follows look) follows_invariant

  -- the tests agree with what they test
  fork_exactly : (o : Outlook) → (is_fork o ≡ true) ↔ (o ≡ fork)
  fork_exactly o = (
    elim o as (λ o. is_fork o ≡ true → o ≡ fork)
        [ conflict ↦ λ e. absurd (false≢true e) | complete ↦ λ e. absurd (false≢true e) | fork ↦ λ e. refl ],
    λ e. ap is_fork e,
  )

  complete_exactly : (o : Outlook) → (is_complete o ≡ true) ↔ (o ≡ complete)
  complete_exactly o = (
    elim o as (λ o. is_complete o ≡ true → o ≡ complete)
        [ conflict ↦ λ e. absurd (false≢true e) | complete ↦ λ e. refl | fork ↦ λ e. absurd (false≢true e) ],
    λ e. ap is_complete e,
  )

  pub forking_exactly : (path : List Branch) → (forking look path ≡ true) ↔ Forking look path
  forking_exactly [] = ((λ e. tt), (λ e. refl))
  forking_exactly (b ∷ path) = (
    (λ e. let (f, r) = and_both (is_fork (look path)) (forking look path) e in ((fork_exactly (look path)).0 f, (forking_exactly path).0 r)),
    (λ l. and_intro ((fork_exactly (look path)).1 l.0) ((forking_exactly path).1 l.1)),
  )

  pub follows_exactly : (κ : Checkpoint) → (follows look κ ≡ true) ↔ Follows look κ
  follows_exactly (open_at path) = forking_exactly path
  follows_exactly infeasible = ((λ e. tt), (λ e. refl))
  follows_exactly (packed_at path) = (
    (λ e. let (r, f) = and_both (forking look path) (is_complete (look path)) e in ((forking_exactly path).0 r, (complete_exactly (look path)).0 f)),
    (λ l. and_intro ((forking_exactly path).1 l.0) ((complete_exactly (look path)).1 l.1)),
  )

-- i steps of the search
abbrev Goes : (List Branch → Outlook) → ℕ → Checkpoint → Checkpoint → Type 0
Goes look i κ μ = Way (searching look) i κ μ

module _ (look : List Branch → Outlook) where
  -- one step more in front, by what the path shows
  ahead : (o : Outlook) {i : ℕ} {path : List Branch} {κ : Checkpoint} → look path ≡ o → Goes look i (act o path) κ → Goes look (suc i) (open_at path) κ
  ahead o {i} {path} {κ} e w = step_then tt (subst (λ (x : Outlook). Goes look i (act x path) κ) (sym e) w)

  module _ {X : Type 0} {Admits : List Branch → X → Type 0} {weight : List Branch → ℕ} (L : Laws look X Admits weight) where
    -- in at most c steps the search leaves the path behind with nothing in it, or ends in it
    data Leaves (c : ℕ) (path : List Branch) : Type 0 where
      empty : {i : ℕ} → Goes look i (open_at path) (backtrack path) → i ≤ c → ((x : X) → Admits path x → ⊥) → Leaves c path
      found : {i : ℕ} {end : List Branch} → Goes look i (open_at path) (packed_at end) → i ≤ c → Leaves c path

    module _ (path : List Branch) (l : Forking look path) (c d : ℕ) (h : suc (d + d) ≤ c) where
      forked : look path ≡ fork → Leaves d (first ∷ path) → Leaves d (second ∷ path) → Leaves c path
      forked e (found p m) _ = found (ahead fork e p) (omega arith)
      forked e (empty p m f) (found p' m') = found (ahead fork e (join (searching look) p p')) (omega arith)
      forked e (empty p m f) (empty p' m' g) =
          empty (ahead fork e (join (searching look) p p')) (omega arith) (λ x a. ⊎_elim (f x) (g x) (L.fork_splits path l e x a))

      leave_by : (o : Outlook) → look path ≡ o → (look path ≡ fork → (b : Branch) → Leaves d (b ∷ path)) → Leaves c path
      leave_by conflict e ih = empty (ahead conflict e no_steps) (omega arith) (L.conflict_admits_none path l e)
      leave_by complete e ih = found (ahead complete e no_steps) (omega arith)
      leave_by fork e ih = forked e (ih e first) (ih e second)

    leave : (w : ℕ) (path : List Branch) → Forking look path → weight path ≤ w → Leaves (path_count w) path
    leave zero path l h = leave_by path l 1 0 (omega arith) (look path) refl (λ e b. absurd (omega (arith, L.weight_falls path l e b)))
    leave (suc w) path l h =
        leave_by path l (path_count (suc w)) (path_count w) (le_refl _) (look path) refl
        (λ e b. leave w (b ∷ path) (e, l) (omega (arith, L.weight_falls path l e b)))

    -- the run comes to an end: infeasible with no packing to find, or packed on a path that is complete
    pub record Ends (w : ℕ) : Type 0 where
      pub count : ℕ
      pub bounded : count ≤ path_count w
      pub counts : Count (searching look) opening count
      pub end : ((steps (searching look) count opening ≡ infeasible) × (X → ⊥))
          ⊎ ((path : List Branch) × (steps (searching look) count opening ≡ packed_at path) × (Forking look path × (look path ≡ complete)))

    ends_by : (w : ℕ) → Leaves (path_count w) [] → Ends w
    ends_by w (empty {i} p m f) = record {
      count = i;
      bounded = m;
      counts = way_counts (searching look) tt p;
      end = inl (way_ends (searching look) p, (λ x. f x (L.root_admits x)));
    }
    ends_by w (found {i} {end = q} p m) = record {
      count = i;
      bounded = m;
      counts = way_counts (searching look) tt p;
      end = inr (q, way_ends (searching look) p, subst (Follows look) (way_ends (searching look) p) (steps_follow look i opening tt));
    }

    pub ends : (w : ℕ) → weight [] ≤ w → Ends w
    ends w h = ends_by w (leave w [] tt h)

    -- a path is no longer than the opening's weight, and a fork is shorter
    pub path_bound : (path : List Branch) → Forking look path → length path + weight path ≤ weight []
    path_bound [] l = omega arith
    path_bound (b ∷ path) l = omega (arith, path_bound path l.1, L.weight_falls path l.1 l.0 b)

    pub fork_bound : (path : List Branch) → Forking look path → look path ≡ fork → length path < weight []
    fork_bound path l e = omega (arith, path_bound path l, L.weight_falls path l e first)
