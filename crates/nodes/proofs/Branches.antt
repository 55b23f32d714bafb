-- The step from a branching point to its branch.
use Rattle.std.specs.Prelude.{◌∷◌, ◌≡◌}
use Rattle.prelude.specs.Names.{Bool, List, refl, sym, ◌∙◌, ap, subst, ℕ, arith, length, set, get_or-set_same}
use Rattle.model.specs.Problem.{Problem}
use Rattle.model.specs.Domains.{Domains}
use Rattle.model.specs.Propagate.{propagate}
use Rattle.model.specs.Branching.{Branch, choice, branched, path_domains, inconsistent}
use Rattle.model.specs.Order.{Fork}
use Rattle.model.specs.Run.{look}
use Rattle.model.specs.Search.{Forking, fork}
use Rattle.model.specs.Admits.{Sound}
use Rattle.model.proofs.Path.{path_fork, path_branch}
use Rattle.model.proofs.Search.{look_fork}
use Rattle.model.proofs.Outside.{branched-untouched}
use Rattle.model.proofs.Toward.{under_mono, closed_wider}
use Rattle.domains.specs.Queue.{max_queue, queue_end}
use Rattle.chains.specs.Totals.{table}
use Rattle.nodes.specs.Choice.{branch_by, Branchable, Branched}
use Rattle.nodes.specs.Nodes.{slot_of, At, Seen}
use Rattle.domains.specs.declared.Place.{Place}
use Rattle.propagation.proofs.Pending.{closed_on, pending-start}
use Rattle.model.specs.Wide.{wide}

module _ (p : Problem) (sound : Sound p) (path : List Branch) (forking : Forking (look p) path) (is : look p path ≡ fork)
    {k : Domains} {rows t : List ℕ} (seen : Seen p k rows t path) (c : Place) (at : choice (path_domains p path) ≡ slot_of c) where
  fork_at : Fork p (path_domains p path) (slot_of c)
  fork_at = let (consistent, unpacked) = look_fork p path is in subst (Fork p (path_domains p path)) at (path_fork p sound path consistent unpacked)

  -- a branching point can be branched at
  pub branchable : Branchable k c
  branchable = record {
    place = record { axis = fork_at.place.axis; rising = fork_at.place.rising; item = omega (arith, fork_at.place.item, sound.limited) };
    several_left = rw seen.is fork_at.several;
  }

  -- what the branch leaves is at its path
  module _ {q : List ℕ} {b : Bool} {j : Domains} {rows' r : List ℕ} (long : length q ≡ max_queue) (w : Branched k q c b j rows' r) where
    left_is : j ≡ branched (path_domains p path) (branch_by b)
    unfolding branched
    left_is = w.left ∙ rw (seen.is, at) refl

    pub branch_at_path : At p j rows' r t (branch_by b ∷ path)
    branch_at_path =
        let start : queue_end (set q 0 1) ≡ 1 = get_or-set_same q 0 1 0 (omega arith) in
        let comes = ap (propagate p) left_is ∙ sym (path_branch p (branch_by b) path) in
        record {
          ready = record {
            good = w.grown.good;
            tabled = seen.rested.tabled;
            measured = seen.rested.measured;
            pending = pending-start w.grown start seen.rested.obeyed;
            under = under_mono (wide p) j k w.grown.less (table t) seen.rested.under;
            closed = closed_on w.grown (omega (arith, seen.rested.measured.ten)) 1 (omega arith) (omega (arith, start))
                (closed_wider (λ x a v z d s l h. absurd h) (λ a u v h. h) seen.rested.closed);
          };
          untouched = rw left_is (branched-untouched p sound path forking is (branch_by b));
          leads = record { verdict = ap (inconsistent p) comes; same = λ e. comes };
        }
