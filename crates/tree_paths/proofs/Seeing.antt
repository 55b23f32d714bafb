-- What propagation and the branching place show of a path. Propagation in code is of the problem widened to ten items.
use Rattle.std.specs.Prelude.{◌≡◌, Option, Some, None, Result, Ok, Err, is_err}
use Rattle.prelude.specs.Names.{true, false, true≢false, List, sym, ◌∙◌, subst, ℕ}
use Rattle.model.proofs.Search.{look_by, look-inconsistent}
use Rattle.model.proofs.Wide.{wide_propagates, wide-verdict}
use Rattle.model.specs.Admits.{Sound}
use Rattle.model.specs.Branching.{Branch, inconsistent, path_domains}
use Rattle.model.specs.Domains.{Domains}
use Rattle.model.specs.Problem.{Problem}
use Rattle.model.specs.Propagate.{propagate}
use Rattle.model.specs.Run.{look}
use Rattle.model.specs.FirstBranches.{Passed}
use Rattle.model.specs.Wide.{wide}
use Rattle.nodes.specs.Choice.{Chosen}
use Rattle.propagation.specs.Propagated.{Propagated, Answered}
use Rattle.domains.specs.declared.store.Conflict.{Conflict}
use Rattle.nodes.specs.Nodes.{At, Seen}
use Rattle.tree_paths.specs.Looks.{Looked}
use Rattle.domains.specs.declared.Place.{Place}
use Rattle.tree_paths.specs.declared.outlook.Outlook.{Outlook}
use Rattle.tree_paths.specs.declared.outlook.Outlook.TheVariants.{Complete, Fork}
use Rattle.model.specs.Search as S

module _ (p : Problem) (sound : Sound p) (path : List Branch) {k : Domains} {rows q t : List ℕ} (at : At p k rows q t path) where
  verdict : inconsistent (wide p) (propagate (wide p) k) ≡ inconsistent p (path_domains p path)
  verdict = wide-verdict p sound k at.ready.good.laid.well_formed at.untouched ∙ at.leads.verdict

  pub looked_conflict : inconsistent (wide p) (propagate (wide p) k) ≡ true → look p path ≡ S.conflict
  looked_conflict e = look-inconsistent p path (sym verdict ∙ e)

  pub seen : {j : Domains} {rows' t' : List ℕ} → Propagated (wide p) k j rows' t' → Seen p j rows' t' path
  seen φ =
      let c : inconsistent p (path_domains p path) ≡ false = sym verdict ∙ (rw φ.is at φ.consistent) in
      let e = φ.is ∙ wide_propagates p sound k at.ready.good.laid.well_formed at.untouched (at.leads.verdict ∙ c) ∙ at.leads.same c in
      record { is = e; rested = φ.rested; consistent = rw e c }

-- what propagation answers, by whether it is an Err
pub answered_err : (p : Problem) (k j : Domains) (rows t : List ℕ) (r : Result (Unit {0}) Conflict) → is_err r ≡ true → Answered p k j rows t r
    → inconsistent p (propagate p k) ≡ true
answered_err p k j rows t (Ok _) e h = absurd (true≢false (sym e))
answered_err p k j rows t (Err _) e h = h

pub answered_ok : (p : Problem) (k j : Domains) (rows t : List ℕ) (r : Result (Unit {0}) Conflict) → is_err r ≡ false → Answered p k j rows t r
    → Propagated p k j rows t
answered_ok p k j rows t (Ok _) e h = h
answered_ok p k j rows t (Err _) e h = absurd (true≢false e)

-- the outlook by where the domains branch
abbrev pub outlook-of : Option Place → Outlook
outlook-of None = Complete
outlook-of (Some c) = Fork c

module _ (p : Problem) (path : List Branch) {j : Domains} {rows t : List ℕ} (s : Seen p j rows t path) {n : ℕ} (count : p.items ≡ n) where
  consistent : inconsistent p (path_domains p path) ≡ false
  consistent = rw s.is at s.consistent

  pub looked_chosen : (b : Option Place) → Chosen j n b → Looked p path j rows t (outlook-of b)
  looked_chosen None χ = (look_by p path consistent (rw s.is at (χ p count)), s)
  looked_chosen (Some c) χ = (look_by p path consistent (rw s.is at (χ.2 p count)), s, rw s.is at χ.0)

  pub seen_passed : {from : ℕ} → Passed (path_domains p path) from → Passed j from
  seen_passed {from} h = subst (λ (k : Domains). Passed k from) (sym s.is) h
