-- The root of the search: the opening domains ready to be propagated, or that they are inconsistent.
use Rattle.std.specs.Prelude.{◌≡◌, ◌+◌, ◌<◌}
use Rattle.prelude.specs.Names.{Bool, true, false, List, [], inl, inr, refl, sym, ◌∙◌, ap, ℕ, arith, replicate}
use Rattle.prelude.specs.Names.{ltb-true, lt-ltb}
use Rattle.model.specs.Problem.{Problem, spacing}
use Rattle.model.specs.Domains.{Domains, full_domains}
use Rattle.model.specs.Rules.{joined}
use Rattle.model.specs.Propagate.{propagate}
use Rattle.model.specs.Branching.{opening_domains, inconsistent}
use Rattle.model.specs.Order.{Proper, Between}
use Rattle.model.specs.Relations.{gone, Filled}
use Rattle.model.specs.Facts.{Saying, overlaps, nothing, removed, forced, Fact, says, Holds}
use Rattle.model.specs.Clauses.{of, c3, d2, d1_far, d1_near, g1, Obeyed}
use Rattle.model.specs.Toward.{Direction, between, Goal}
use Rattle.model.specs.Admits.{Sound}
use Rattle.model.specs.Run.{look}
use Rattle.model.specs.Search.{conflict}
use Rattle.model.specs.Wide.{wide}
use Rattle.model.proofs.Below.{and_both, clash, stays}
use Rattle.model.proofs.Admits.{full_left, opening-well_formed}
use Rattle.model.proofs.Consistent.{large_inconsistent}
use Rattle.model.proofs.Outside.{opening-untouched}
use Rattle.model.proofs.Path.{path_root}
use Rattle.model.proofs.Propagate.{propagate-less, propagate_mono, between_propagates, inconsistent_mono}
use Rattle.model.proofs.Toward.{by_direction, under_sizes, under-cut, end-goal}
use Rattle.model.proofs.Untouched.{goal_lawful}
use Rattle.model.proofs.Gap.{gap-past}
use Rattle.model.proofs.Wide.{wide-size, wide-past, wide-gap}
use Rattle.domains.specs.Queue.{no_changes}
use Rattle.domains.specs.Narrowed.{Grown, Narrowed, Refuted}
use Rattle.chains.specs.Totals.{table, capacity_at, Tabled, Measured}
use Rattle.chains.proofs.Linking.{exceeds-joined}
use Rattle.propagation.specs.Propagated.{Ready}
use Rattle.opening.specs.Layout.{LargeIf, SteppedOut, LargeItem}
use Rattle.opening.specs.Openings.{PairsCut, PairsAsked, Past, Outside}
use Rattle.nodes.specs.Nodes.{Leads, At}
use Rattle.domains.proofs.Narrowed.{grown-then}
use Rattle.propagation.proofs.Pending.{pending-start}
use Rattle.nodes.proofs.BranchRemovals.{filled_more}
use Rattle.opening.proofs.PairCuts.{too_inside}

-- Nothing is removed yet
full_holds_none : (c : Fact) → Proper 10 c.axis c.u c.v → Holds full_domains c → ⊥
unfolding says
full_holds_none c s h = by c.saying h
  where
    not-gone : (x : ℕ) → gone full_domains x c.axis c.u c.v ≡ true → ⊥
    not-gone x e = clash e (full_left x s)

    by : (s : Saying) → says s full_domains c.axis c.u c.v ≡ true → ⊥
    by overlaps e = not-gone 1 (and_both _ _ e).0
    by nothing e = not-gone 0 (and_both _ _ e).0
    by (removed x) e = not-gone x e
    by (forced x) e = not-gone 0 (and_both _ _ e).0

full_obeyed : Obeyed 10 full_domains
full_obeyed _ _ (c3 a b c u v x s) h = absurd (full_holds_none (of overlaps a u v) s h.0)
full_obeyed _ _ (d2 x a u v w o t) h = absurd (full_holds_none (of (forced x) a u v) t.uv h.0)
full_obeyed _ _ (d1_far x a u v w o t) h = absurd (full_holds_none (of (forced x) a u v) t.uv h.0)
full_obeyed _ _ (d1_near x a u v w o t) h = absurd (full_holds_none (of (removed x) a u v) t.uv h.0)
full_obeyed _ _ (g1 a q r s t x y z) h = absurd (full_holds_none (of overlaps a q r) x.uv h.0)

-- The opening domains
module _ {p : Problem} (sound : Sound p) where
  abbrev opening : Domains
  opening = opening_domains p

  -- no consistent propagation: the root is a conflict
  root_conflict : (inconsistent p (propagate p opening) ≡ false → ⊥) → look p [] ≡ conflict
  unfolding look
  root_conflict none = rw (path_root p, stays (inconsistent p (propagate p opening)) none) refl

  pub large_conflict : LargeItem p → look p [] ≡ conflict
  large_conflict (a, u, ha, hu, h) = root_conflict (clash (large_inconsistent p _ a u ha hu h))

  -- where the opening domains are consistent, their propagation is a goal
  goal : inconsistent p (propagate p opening) ≡ false → Goal p (propagate p opening)
  goal = end-goal p sound.limited opening (opening-well_formed p) (opening-untouched p sound)

  goal-filled : inconsistent p (propagate p opening) ≡ false → Filled (propagate p opening)
  goal-filled e = (goal_lawful p (propagate p opening) (goal e)).filled

  -- a pair with nothing left at once
  pub unfixed_conflict : (Filled opening → ⊥) → look p [] ≡ conflict
  unfixed_conflict none = root_conflict (λ e. none (filled_more (propagate p opening) opening (propagate-less p opening) (goal-filled e)))

  -- The measures of an instance, and the steps of its chains
  module _ {t : List ℕ} (l : SteppedOut (wide p) t) where
    alone-size : (x a u : ℕ) → Direction x → a < 3 → u < 10 → table t x a u ≡ (wide p).size a u
    alone-size x a u d ha hu = l.laid.alone x a u d ha hu ∙ l.laid.size a u ha hu

    past : Past t p.items
    past = record {
      total = λ x a u d ha lu hu. alone-size x a u d ha hu ∙ wide-past p a u lu;
      gap = λ a u v s h. omega (
        arith,
        l.step 2 a u v (omega arith) s.axis s.item_u s.item_v,
        wide-gap p a u v,
        gap-past p sound a u v h,
      );
    }

    -- the arrays are those of the widened problem
    module _ (fits : LargeIf t false) where
      pub root_tabled : Tabled t
      root_tabled = record {
        long = l.laid.long;
        small = l.small;
        within = λ x a u d ha hu. omega (arith, l.laid.alone x a u d ha hu, fits a u ha hu);
        least = λ x a v z d ha hv hz. omega (arith, l.step x a v z d ha hv hz);
        plain = λ x a v z d ha hv hz e. omega (
          arith,
          l.step x a v z d ha hv hz,
          by_direction (λ x. between x (wide p) a v z ≡ 0) (l.plain a z v ha hz hv e) (l.plain a v z ha hv hz e) x d,
        );
      }

      root_measured : Measured (wide p) t
      unfolding wide
      root_measured = record {
        ten = refl;
        capacity = λ a ha. sym (l.laid.capacity a ha);
        size = λ a u ha hu. sym (l.laid.size a u ha hu);
        step = λ x a v z d ha hv hz. omega (arith, l.step x a v z d ha hv hz, l.laid.size a z ha hz);
      }

      -- the goal has the pairs cut that are too long
      root_asked : inconsistent p (propagate p opening) ≡ false → PairsAsked t (propagate p opening)
      unfolding joined wide
      root_asked consistent = record {
        all = λ a u v s too.
            let i = too_inside root_tabled past s too in
            let size : (x w : ℕ) → Direction x → w < p.items → table t x a w ≡ p.size a w + spacing p a =
            λ x w d hw. alone-size x a w d s.axis (omega (arith, sound.limited)) ∙ wide-size p a w hw in
            under-cut p (propagate p opening) (goal consistent) (λ x. p.size) (under_sizes p (propagate p opening)) a u v i
            (omega (
              arith,
              ltb-true (capacity_at t a) _ too,
              l.laid.capacity a s.axis,
              size 2 u (omega arith) i.item_u,
              size 1 v (omega arith) i.item_v,
              l.step 2 a u v (omega arith) s.axis s.item_u s.item_v,
              wide-gap p a u v,
            ));
        filled = goal-filled consistent;
      }

      pub uncut_conflict : {k1 : Domains} → k1 ≡ opening → Refuted (PairsAsked t) k1 → look p [] ≡ conflict
      uncut_conflict opened none = root_conflict (λ e. none (propagate p opening) (root_asked e) (rw opened (propagate-less p opening)))

      module _ {k1 : Domains} {rows1 q1 : List ℕ} (opened : k1 ≡ opening) (g : Grown full_domains (no_changes (replicate 946 0)) k1 rows1 q1) {k : Domains} {rows q : List ℕ}
          (n : Narrowed (PairsAsked t) (PairsCut t) k1 q1 k rows q) (out : Outside t k1 k) where
        leads : Leads p k []
        leads = go (inconsistent p (propagate p opening)) refl
          where
            go : (b : Bool) → inconsistent p (propagate p opening) ≡ b → Leads p k []
            go true e = record {
              verdict = rw (path_root p, e)
                  (inconsistent_mono p (propagate p k) (propagate p opening) (propagate_mono p k opening (rw opened at n.grown.less)) e);
              same = λ c. absurd (clash e (rw (path_root p) at c));
            }
            go false e =
                let between : Between p opening k = record {
                  well_formed = n.grown.good.laid.well_formed;
                  low = n.low (propagate p opening) (root_asked e) (rw opened (propagate-less p opening));
                  high = rw opened at n.grown.less;
                } in
                let same = between_propagates p opening (opening-well_formed p) k between ∙ sym (path_root p) in
                record { verdict = ap (inconsistent p) same; same = λ c. same }

        ready : Ready (wide p) k rows q t
        ready = let grown = grown-then (omega arith) g n.grown in record {
          good = n.grown.good;
          tabled = root_tabled;
          measured = root_measured;
          pending = pending-start grown refl full_obeyed;
          under = λ x a u d ha hu. omega (arith, alone-size x a u d ha (omega (arith, root_measured.ten)), under_sizes (wide p) k x a u d ha hu);
          closed = record {
            size = λ x a u d ha hu. omega (arith, alone-size x a u d ha (omega (arith, root_measured.ten)));
            on = λ x a v z d s h. elim (grown.new (of (forced x) a v z) (omega (arith, root_measured.ten)) h) [
              | inl e ↦ absurd (full_holds_none (of (forced x) a v z) (omega (arith, root_measured.ten)) e)
              | inr e ↦ inr e
            ];
            cut = λ a u v s h.
                let pair : Proper 10 a u v = omega (arith, root_measured.ten) in
                inl (n.done a u v pair ((exceeds-joined root_measured a u v pair).0 ∙ lt-ltb _ _ h));
          };
        }

        pub rooted : At p k rows q t []
        rooted = record { ready = ready; untouched = out p.items sound.limited past (rw opened (opening-untouched p sound)); leads = leads }
