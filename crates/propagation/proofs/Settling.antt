-- The queue is worked off up to a place. Every goal below the domains at the start is below those of now, with totals
-- under its chains; what is still asked for has a premise from there on, and a link still to be followed is of a pair
-- from there on. At the end of the queue that is propagation.
use Rattle.std.specs.Prelude.{◌≡◌, ◌+◌, ◌≤◌, ◌<◌, Ok}
use Rattle.prelude.specs.Names.{true, List, inl, inr, ⊎_elim, sym, ℕ, arith, get_or}
use Rattle.model.specs.Problem.{Problem}
use Rattle.model.specs.Domains.{Domains}
use Rattle.model.specs.Branching.{inconsistent}
use Rattle.model.specs.Order.{Proper, WellFormed, ◌⊑◌}
use Rattle.model.specs.Relations.{Untouched}
use Rattle.model.specs.Toward.{Goal, Toward, ClosedBut, NoPair, Closed}
use Rattle.model.proofs.Order.{below_refl, below_trans}
use Rattle.model.proofs.Untouched.{obeyed_fewer, filled-consistent}
use Rattle.model.proofs.Toward.{under_mono, no-goal, closed_wider, end_is, end-under, end-exact}
use Rattle.domains.specs.Queue.{pair_code, queue_end, Queued, Good}
use Rattle.domains.specs.Narrowed.{Refuted}
use Rattle.chains.specs.Totals.{table, Tabled, Measured, SameMeasures, Fitting}
use Rattle.chains.specs.NewLinks.{Charted}
use Rattle.propagation.specs.Events.{WorkedOff}
use Rattle.propagation.specs.Propagated.{Pending, Ready, Propagated}
use Rattle.chains.proofs.Linking.{same_none, same_then}
use Rattle.propagation.proofs.Pending.{head_or_on, advance, pending_done}
use Rattle.model.specs.Propagate as M

-- of a problem, from k on
pub record Looping (p : Problem) (k j : Domains) (r s : List ℕ) (head : ℕ) : Type 0 where
  pub measured : Measured p s
  pub within : head ≤ queue_end r
  pub pending : Pending j r head
  pub toward : Toward p k j (table s)
  pub closed : ClosedBut (λ x. Queued r head (queue_end r)) NoPair p j (table s)

-- THE LOOP INVARIANT, from k, q and t on: arrays that need no problem to be good, and what they come to for each
pub record Settling (k : Domains) (rows₀ q t : List ℕ) (j : Domains) (rows r s : List ℕ) (head : ℕ) : Type 0 where
  pub good : Good j rows r
  pub tabled : Tabled s
  pub same : SameMeasures t s
  pub first : 1 ≤ head
  pub loops : (p : Problem) → Ready p k rows₀ q t → Looping p k j r s head

pub settling_start : {k : Domains} {rows q t : List ℕ} → Good k rows q → Tabled t → Settling k rows q t k rows q t 1
settling_start {k} {t = t} good tabled = record {
  good = good;
  tabled = tabled;
  same = same_none;
  first = omega arith;
  loops = λ p r. record {
    measured = r.measured;
    within = good.least;
    pending = r.pending;
    toward = record {
      well_formed = good.laid.well_formed;
      high = below_refl k;
      low = λ f g b. b;
      under = λ f g b. under_mono p f k b (table t) r.under;
    };
    closed = r.closed;
  };
}

module _ {k : Domains} {rows₀ q t : List ℕ} {j : Domains} {rows r s : List ℕ} {head : ℕ} (d : Settling k rows₀ q t j rows r s head) where
  module _ (p : Problem) (ready : Ready p k rows₀ q t) where
    loop : Looping p k j r s head
    loop = d.loops p ready

    fitting : (f : Domains) → Goal p f → f ⊑ k → Fitting p s f × (f ⊑ j)
    fitting f g b = (record { goal = g; under = loop.toward.under f g b }, loop.toward.low f g b)

    charted : {a u v : ℕ} → Proper 10 a u v → pair_code a u v ≡ get_or r head 0 → head < queue_end r → Charted p j r s (head + 1) a u v
    charted w read more = record {
      measured = loop.measured;
      first = omega arith;
      within = omega arith;
      closed = closed_wider (λ x b y z e t l h.
          inr (⊎_elim inr inl (head_or_on r head _ _ _ w (sym read) b y z (omega (arith, loop.measured.ten)) h)))
          (λ b y z h. h) loop.closed;
    }

    -- ten items
    limited : p.items ≤ 10
    limited = omega (arith, loop.measured.ten)

    plain : Untouched p.items k
    plain x a u v hx w e = omega (arith, loop.measured.ten, w.item_u, w.item_v)

    formed : WellFormed k
    formed = ready.good.laid.well_formed

    -- the queue is worked off
    pub settling_done : queue_end r ≤ head → Propagated p k j rows s
    settling_done done =
        let obeyed = pending_done j r head done loop.pending in
        let rest = obeyed_fewer p.items limited j obeyed in
        let closed : Closed p j (table s) =
        closed_wider (λ x a v z e t l (i, low, high, h). absurd (omega arith)) (λ a u v h. h) loop.closed in
        let consistent = filled-consistent p limited j d.good.laid.filled
        (λ a u ha hu. let within = d.tabled.within 2 a u (omega arith) ha (omega (arith, loop.measured.ten)) in
        omega (arith, loop.closed.size 2 a u (omega arith) ha hu, loop.measured.capacity a ha)) in
        record {
          is = end_is p limited k formed plain j (table s) loop.toward closed rest consistent;
          consistent = consistent;
          rested = record {
            laid = d.good.laid;
            tabled = d.tabled;
            measured = loop.measured;
            obeyed = obeyed;
            under = end-under p limited k formed plain j (table s) loop.toward closed rest consistent;
            closed = closed;
            exact = λ a u. end-exact p limited k formed plain j (table s) loop.toward closed rest consistent 2 a u (omega arith);
          };
        }

  -- the pair at the head is worked off
  module _ {a u v : ℕ} (w : Proper 10 a u v) (read : pair_code a u v ≡ get_or r head 0) (more : head < queue_end r) where
    pub settling_next : {l : Domains} {rows' r' s' : List ℕ} → Good l rows' r' → Tabled s' → SameMeasures s s'
        → WorkedOff a u v j r s l rows' r' s' (Ok tt)
        → Settling k rows₀ q t l rows' r' s' (head + 1)
    settling_next {l} good tabled same worked = record {
      good = good;
      tabled = tabled;
      same = same_then d.same same;
      first = omega arith;
      loops = λ p ready.
          let (e, handled) = worked p (head + 1) (charted p ready w read more) in
          let o = loop p ready in
          let g = e.narrowed.grown in
          record {
            measured = e.measured;
            within = omega (arith, g.up);
            pending = advance g head d.first more _ _ _ w (sym read) o.pending handled;
            toward = record {
              well_formed = good.laid.well_formed;
              high = below_trans l j k g.less o.toward.high;
              low = λ f h b. let (fit, m) = fitting p ready f h b in e.narrowed.low f fit m;
              under = λ f h b. let (fit, m) = fitting p ready f h b in e.under f fit m;
            };
            closed = e.narrowed.done;
          };
    }

    pub settling_none : ((p : Problem) (from : ℕ) → Charted p j r s from a u v → Refuted (Fitting p s) j)
        → (p : Problem) → Ready p k rows₀ q t → inconsistent p (M.propagate p k) ≡ true
    settling_none worked p ready =
        no-goal p (limited p ready) k (formed p ready) (plain p ready)
        (λ f g b. let (fit, m) = fitting p ready f g b in worked p (head + 1) (charted p ready w read more) f fit m)
