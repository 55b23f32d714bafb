-- The results of a call as values.
use Rattle.std.specs.Prelude.{◌∷◌, ◌⊎◌, ◌≡◌, ◌<◌}
use Rattle.prelude.specs.Names.{Bool, true, false, List, [], inl, inr, refl, sym, ap, ◌∙◌, ℕ, zero, suc, ℕ_discrete, arith}
use Rattle.prelude.specs.Names.{length}
use Rattle.model.proofs.Below.{clash, test_false}
use Rattle.model.proofs.Run.{forking_exactly}
use Rattle.model.specs.Branching.{Branch, first, second, plan}
use Rattle.model.specs.Problem.{Problem}
use Rattle.model.specs.Machine.{steps, taken, Finished}
use Rattle.model.specs.Run.{look, tree_machine, tree_starts}
use Rattle.instance.specs.declared.Position.{Position}
use Rattle.tree_paths.specs.Checkpoints.{path_of, branches_of, PathIn}
use Rattle.tree_search.specs.Results.{outcome_of, positions_list, result_of, not_following, infeasible_after, spent_after, packed_after, tree_result}
use Rattle.tree_search.specs.declared.outcome.Outcome.TheVariants.{Packed}
use Rattle.tree_search.specs.declared.outcome.TreeResult.{TreeResult}
use Rattle.tree_search.proofs.Budget.{Comes, rest-start, rest-finished}
use Rattle.model.specs.Calls as C
use Rattle.model.specs.Search as S

-- a call from κ, by whether it follows
module _ (p : Problem) (budget : ℕ) (κ : S.Checkpoint) where
  pub result_unfollowed : S.follows (look p) κ ≡ false → not_following ≡ tree_result p budget κ
  result_unfollowed e = rw e

  -- a finished checkpoint repeats its answer
  pub comes_again : Finished (tree_machine p) κ → Comes (look p) budget κ 0 κ
  comes_again f = rest-finished (look p) budget κ (rest-start (look p) budget κ) f

  module _ (follows : S.follows (look p) κ ≡ true) where
    pub comes : {t : ℕ} {μ : S.Checkpoint} → Comes (look p) budget κ t μ
        → result_of p (record { answer = C.answer_at (tree_machine p) (tree_starts p) μ; steps = t; checkpoint = μ }) ≡ tree_result p budget κ
    comes γ = rw (follows, γ.checkpoint, γ.count)

    pub comes_infeasible : {t : ℕ} → Comes (look p) budget κ t S.infeasible → infeasible_after t ≡ tree_result p budget κ
    unfolding infeasible_after result_of
    comes_infeasible γ = comes γ

    module _ {t n : ℕ} {path : List Branch} {bs : List ℕ} (h : PathIn path bs n) where
      pub comes_spent : Comes (look p) budget κ t (S.open_at path) → spent_after t bs n ≡ tree_result p budget κ
      unfolding spent_after result_of
      comes_spent γ = rw (h.many, h.entries) (comes γ)

      pub comes_packed : {q : List Position} → q ≡ positions_list p (plan p path) → Comes (look p) budget κ t (S.packed_at path)
          → packed_after t bs n q ≡ tree_result p budget κ
      unfolding packed_after result_of
      comes_packed e γ = rw (h.many, h.entries, e) (comes γ)

-- A call by how it ends
pub data ResultIs (p : Problem) (budget : ℕ) (κ : S.Checkpoint) (r : TreeResult) : Type 0 where
  is-not_following : S.follows (look p) κ ≡ false → r ≡ not_following → ResultIs p budget κ r
  is-spent : (path : List Branch) → S.follows (look p) κ ≡ true → steps (tree_machine p) budget κ ≡ S.open_at path
      → r ≡ spent_after (taken (tree_machine p) budget κ) (branches_of path) (length path) → ResultIs p budget κ r
  is-infeasible : S.follows (look p) κ ≡ true → steps (tree_machine p) budget κ ≡ S.infeasible
      → r ≡ infeasible_after (taken (tree_machine p) budget κ) → ResultIs p budget κ r
  is-packed : (path : List Branch) → S.follows (look p) κ ≡ true → steps (tree_machine p) budget κ ≡ S.packed_at path
      → r ≡ packed_after (taken (tree_machine p) budget κ) (branches_of path) (length path) (positions_list p (plan p path)) → ResultIs p budget κ r

pub result_is : (p : Problem) (budget : ℕ) (κ : S.Checkpoint) → ResultIs p budget κ (tree_result p budget κ)
result_is p budget κ = go (S.follows (look p) κ) (steps (tree_machine p) budget κ) refl refl
  where
    held : (path : List Branch) → PathIn path (branches_of path) (length path)
    held path = record { many = refl; entries = refl }

    go : (f : Bool) (μ : S.Checkpoint) → S.follows (look p) κ ≡ f → steps (tree_machine p) budget κ ≡ μ → ResultIs p budget κ (tree_result p budget κ)
    go false μ f e = is-not_following f (sym (result_unfollowed p budget κ f))
    go true (S.open_at path) f e = is-spent path f e (sym (comes_spent p budget κ f (held path) (record { checkpoint = e; count = refl })))
    go true S.infeasible f e = is-infeasible f e (sym (comes_infeasible p budget κ f (record { checkpoint = e; count = refl })))
    go true (S.packed_at path) f e =
        is-packed path f e (sym (comes_packed p budget κ f (held path) refl (record { checkpoint = e; count = refl })))

-- a path with a beginning that is no branching point
module _ (look : List Branch → S.Outlook) (bs : List ℕ) (i : ℕ) where
  fork_within : (n : ℕ) → i < n → S.Forking look (path_of n bs) → look (path_of i bs) ≡ S.fork
  fork_within zero h f = absurd (omega arith)
  fork_within (suc n) h f = elim (ℕ_discrete i n) [ yes e ↦ rw e f.0 | no d ↦ fork_within n (omega arith) f.1 ]

  pub forking_fails : (n : ℕ) → i < n → S.is_fork (look (path_of i bs)) ≡ false → S.forking look (path_of n bs) ≡ false
  forking_fails n h e = test_false _ (forking_exactly look (path_of n bs)) (λ f. clash (rw (fork_within n h f)) e)

-- The call on a packed path, by what one step from it comes to
module _ (p : Problem) (path : List Branch) {r : TreeResult} (is : r ≡ tree_result p 1 (S.open_at path)) (budget : ℕ) where
  abbrev Again : TreeResult → Type 0
  Again s = s ≡ tree_result p budget (S.packed_at path)

  abbrev none-taken : TreeResult → TreeResult
  none-taken s = packed_after 0 s.branches s.length s.positions

  abbrev IsPacked : TreeResult → Type 0
  IsPacked s = s.outcome ≡ Packed

  back-not : (l : List Branch) → outcome_of (C.answer_at (tree_machine p) (tree_starts p) (S.backtrack l)) ≡ Packed → ⊥
  back-not [] e = let z : ◌≡◌ {A = ℕ} 0 1 = cc in omega arith
  back-not (first ∷ l) e = let z : ◌≡◌ {A = ℕ} 0 1 = cc in omega arith
  back-not (second ∷ l) e = back-not l e

  again : (IsPacked r × Again (none-taken r)) ⊎ ((IsPacked r → ⊥) × Again not_following)
  unfolding not_following result_of packed_after
  again = go (S.forking (look p) path) (look p path) refl refl
    where
      go : (f : Bool) (o : S.Outlook) → S.forking (look p) path ≡ f → look p path ≡ o
          → (IsPacked r × Again (none-taken r)) ⊎ ((IsPacked r → ⊥) × Again not_following)
      go false o f e = inr ((λ n. let q = rw f at is in let m = rw q at n in let z : ◌≡◌ {A = ℕ} 0 1 = cc in omega arith), rw f)
      go true S.conflict f e = inr ((λ n. let q = rw (f, e) at is in back-not path (rw q at n)), rw (f, e))
      go true S.fork f e = inr ((λ n. let q = rw (f, e) at is in let m = rw q at n in let z : ◌≡◌ {A = ℕ} 0 1 = cc in omega arith), rw (f, e))
      go true S.complete f e =
          let q = rw (f, e) at is in
          inl (rw q, ap none-taken q ∙ comes p budget (S.packed_at path) (rw (f, e)) (comes_again p budget (S.packed_at path) tt))

  pub again_packed : IsPacked r → Again (none-taken r)
  again_packed n = elim again [ inl (m, e) ↦ e | inr (h, e) ↦ absurd (h n) ]

  pub again_not : (IsPacked r → ⊥) → Again not_following
  again_not h = elim again [ inl (n, e) ↦ absurd (h n) | inr (g, e) ↦ e ]
