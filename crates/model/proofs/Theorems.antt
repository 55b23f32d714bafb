-- What the planner's mathematics comes to, in document 01's order.
use Rattle.std.specs.Prelude.{◌&&◌, ◌⊎◌, ◌↔◌, ◌≡◌, ◌+◌, ◌≤◌, ◌<◌}
use Rattle.prelude.specs.Names.{Bool, true, List, [], inl, inr, refl, sym, ap, ◌∙◌, subst, ℕ, suc, le_refl, le_trans}
use Rattle.prelude.specs.Names.{arith, leb}
use Rattle.prelude.specs.Names.{length, leb-true, le-leb, eqb-true, eq-eqb}
use native.Mathlib.Nat.{mul-le-mul_right}
use Rattle.model.specs.Problem.{Problem, Positions, Feasible, feasible}
use Rattle.model.specs.Pairs.{OnePair}
use Rattle.model.specs.Domains.{Domains}
use Rattle.model.specs.Turning.{Turnable, choice_problem, last_choice, Plan, Fits}
use Rattle.model.specs.Propagate.{propagate}
use Rattle.model.specs.Branching.{Branch, path_domains, plan}
use Rattle.model.specs.Order.{WellFormed, Between, AtRest}
use Rattle.model.specs.Removals.{Removed, path_removals}
use Rattle.model.specs.Admits.{Sound, Admits}
use Rattle.model.specs.Machine.{failed, succeeded, Running, Ended, steps, taken, Finished, Count, Invariant}
use Rattle.model.specs.Series.{stage}
use Rattle.model.specs.Search.{fork, Checkpoint, open_at, infeasible, packed_at, opening, status, Forking, Follows, follows, path_count}
use Rattle.model.specs.Calls.{budget_spent, packing, answer_at}
use Rattle.model.specs.Lists.{Service, Serves, Claim}
use Rattle.model.specs.Run.{look, tree_count, path_limit, choice_machine, ChoiceCheckpoint, choice_opening, machine, plan_at, search, ChoiceFollows}
use Rattle.model.specs.Run.{last_if_infeasible, choice_follows, run_limit, run_end, step_count, choice_steps}
use Rattle.model.proofs.Below.{and_intro, and_both}
use Rattle.model.proofs.Feasible.{feasible_exactly}
use Rattle.model.proofs.Pairs.{each-of_45}
use Rattle.model.proofs.Propagate.{propagate-at-rest, between-rest}
use Rattle.model.proofs.Sound.{propagate_admits}
use Rattle.model.proofs.Weight.{weight_bound}
use Rattle.model.proofs.Removals.{any_order, one_propagation}
use Rattle.model.proofs.Machine.{steps_add, taken_add, taken_is, finished_stays, finished-takes-none, past-count, count_unique, steps_keep}
use Rattle.model.proofs.Machine.{way_ends, way_counts}
use Rattle.model.proofs.Series.{sum_bound, Decides, Decided, decided, Refuted, all_failed, one_succeeded, failed_succeeded, stage_invariant}
use Rattle.model.proofs.Turning.{fits-choice, choice-fits, choice-sound}
use Rattle.model.proofs.Run.{path_bound, fork_bound}
use Rattle.model.proofs.Calls.{spent-takes-all}
use Rattle.model.proofs.Lists.{claim}
use Rattle.model.proofs.Search.{FeasiblePacking, search_laws, limit_270, count_bounded, starts-feasible, tree_decides}
use Rattle.model.proofs.Run as R

-- Document 01, "Fit"

-- the test of a plan says yes exactly when it fits
pub feasible_test : (p : Problem) (q : Positions) → (feasible p q ≡ true) ↔ Feasible p q
feasible_test = feasible_exactly

-- the starts of a plan that fits lie in the container
pub starts-within : (p : Problem) → Sound p → (q : Positions) → Feasible p q → (a u : ℕ) → a < 3 → u < p.items → q a u < p.capacity a
starts-within p σ q f a u la lu = omega (arith, f.inside a u la lu, σ.positive a u la lu)

-- "Knowledge and striking"

-- the rules are sound: domains that admit a feasible packing still do when nothing more can be removed
pub rules-sound : (p : Problem) → Sound p → (q : Positions) → Feasible p q → (k : Domains) → WellFormed k → Admits p k q → Admits p (propagate p k) q
rules-sound = propagate_admits

-- "until nothing more can be struck": propagation comes to rest, and whoever removes only what is asked for and comes to rest comes to the same
pub rules-rest : (p : Problem) → Sound p → (k : Domains) → WellFormed k → AtRest p (propagate p k)
rules-rest p σ = propagate-at-rest p σ.limited

pub one_rest : (p : Problem) (k : Domains) → WellFormed k → (j : Domains) → Between p k j → AtRest p j → j ≡ propagate p k
one_rest = between-rest

-- in particular whoever removes one relation at a time, each asked for by a rule, in any order
pub any_rest : (p : Problem) → Sound p → (k : Domains) → WellFormed k → (j : Domains) → Removed p k j → AtRest p j → j ≡ propagate p k
any_rest p σ k w = any_order p σ.limited k w

-- "A row stands for the opening knowledge with its turns struck and everything above applied": one propagation of all branches gives the
-- domains of a path, though the search propagates after each
pub path_at-once : (p : Problem) (path : List Branch) → propagate p (path_removals p path) ≡ path_domains p path
path_at-once = one_propagation

-- "The search"

-- document 02, #102: "each of 0 to 44 belongs to exactly one pair", the one worked out from it: so numbers and pairs of ten items undo one another
pub numbers_of_pairs : (i : ℕ) → i < 45 → OnePair 10 i
numbers_of_pairs = each-of_45

-- how the run ends: "none, or placed with its plan"; "a none note" holds "the last one"
pub data RunEnds (t : Turnable) : Type 0 where
  ends_infeasible : run_end t ≡ stage (last_choice t) infeasible → ((q : Plan) → Fits t q → ⊥) → RunEnds t
  ends_packed : (c : ℕ) (path : List Branch) → c ≤ last_choice t → run_end t ≡ stage c (packed_at path)
      → Fits t (plan_at t (stage c (packed_at path))) → RunEnds t

module _ (p : Problem) (σ : Sound p) where
  -- "A row of turns has at most 3 × n × (n − 1) entries", and one that is a branching point has fewer
  pub path_most : (path : List Branch) → Forking (look p) path → length path ≤ path_limit p
  path_most path f = omega (arith, path_bound (look p) (search_laws p σ) path f, weight_bound p (path_domains p []))

  pub fork_most : (path : List Branch) → Forking (look p) path → look p path ≡ fork → length path < path_limit p
  fork_most path f e = omega (arith, fork_bound (look p) (search_laws p σ) path f e, weight_bound p (path_domains p []))

  pub path_270 : (path : List Branch) → Forking (look p) path → length path ≤ 270
  path_270 path f = omega (arith, path_most path f, limit_270 p σ.limited)

module _ (t : Turnable) (σ : Sound t.given) where
  -- a choice has a feasible packing
  abbrev X : ℕ → Type 0
  X c = FeasiblePacking (choice_problem t c)

  abbrev count_of : ℕ → ℕ
  count_of c = tree_count (choice_problem t c)

  each : (c : ℕ) → Decides (choice_machine t c) (X c) (count_of c)
  each c = tree_decides (choice_problem t c) (choice-sound t σ c)

  -- the choice that the run ends in
  by_choice : Decided (choice_machine t) (last_choice t) X count_of each
  by_choice = decided (choice_machine t) (last_choice t) X count_of each

  abbrev end-state : Checkpoint
  end-state = steps (choice_machine t by_choice.number) (count_of by_choice.number) opening

  end-within : by_choice.number ≤ last_choice t
  end-within = elim by_choice.ending [ all_failed e _ _ ↦ omega arith | one_succeeded h _ _ _ ↦ h ]

  end-finished : Finished (machine t) (stage by_choice.number end-state)
  end-finished = elim by_choice.ending [ all_failed _ e _ ↦ subst Ended (sym e) tt | one_succeeded _ e _ _ ↦ subst Ended (sym e) tt ]

  choice_counts : Count (machine t) choice_opening (choice_steps t (suc by_choice.number))
  choice_counts = way_counts (machine t) end-finished by_choice.way

  within_limit : choice_steps t (suc by_choice.number) ≤ run_limit t
  within_limit =
      le_trans (sum_bound count_of (path_count (path_limit t.given)) (λ c. count_bounded (choice_problem t c) (choice-sound t σ c)) (suc
      by_choice.number))
      (mul-le-mul_right {m = suc by_choice.number} {n = suc (last_choice t)} (path_count (path_limit t.given)) (omega (arith, end-within)))

  count_here : step_count t ≡ choice_steps t (suc by_choice.number)
  unfolding step_count
  count_here = omega (arith, taken_is (machine t) (run_limit t) (choice_steps t (suc by_choice.number)) choice_opening choice_counts, within_limit)

  -- "The number of these steps is finite; it is the sheet's step count", and there is no other
  pub counted : Count (machine t) choice_opening (step_count t)
  counted = rw count_here choice_counts

  pub one_count : (c : ℕ) → Count (machine t) choice_opening c → c ≡ step_count t
  one_count c k = count_unique (machine t) choice_opening c (step_count t) k counted

  -- "takes steps from the opening note until the note is finished": the run is where the search is after that many steps, or more
  pub run_after : (i : ℕ) → step_count t ≤ i → steps (machine t) i choice_opening ≡ run_end t
  unfolding run_end
  run_after i h =
      past-count (machine t) choice_opening (step_count t) i counted h
      ∙ sym (past-count (machine t) choice_opening (step_count t) (run_limit t) counted (omega (arith, count_here, within_limit)))

  at-end : run_end t ≡ stage by_choice.number end-state
  at-end = sym (run_after (choice_steps t (suc by_choice.number)) (omega (arith, count_here))) ∙ way_ends (machine t) by_choice.way

  -- it is the sum over the choices up to the one that the run ends in, "Each choice is searched whole"
  pub count_sums : step_count t ≡ choice_steps t (suc (run_end t).number)
  count_sums = count_here ∙ ap (λ (s : ChoiceCheckpoint). choice_steps t (suc s.number)) (sym at-end)

  -- before that choice none has a feasible packing
  pub earlier_refuted : (c : ℕ) → c < (run_end t).number → (q : Positions) → Feasible (choice_problem t c) q → ⊥
  earlier_refuted c h q f =
      let l : c < by_choice.number = omega (arith, ap (λ (s : ChoiceCheckpoint). s.number) at-end) in
      elim by_choice.ending [ all_failed e _ r ↦ r c (omega arith) (q, f) | one_succeeded _ _ _ r ↦ r c l (q, f) ]

  -- what the search comes to from a checkpoint that follows follows too; the opening does
  pub follows_invariant : Invariant (machine t) (ChoiceFollows t)
  follows_invariant =
      stage_invariant (choice_machine t) (last_choice t) (λ c. Follows (look (choice_problem t c))) (λ c. R.follows_invariant (look (choice_problem t c)))
      (λ c. tt)

  pub reached-follows : (i : ℕ) (s : ChoiceCheckpoint) → ChoiceFollows t s → ChoiceFollows t (steps (machine t) i s)
  reached-follows = steps_keep (machine t) (ChoiceFollows t) follows_invariant

  -- a packed checkpoint that follows has a plan that fits, whether the run comes to it or not
  pub packed-fits : (c : ℕ) (path : List Branch) → ChoiceFollows t (stage c (packed_at path)) → Fits t (plan_at t (stage c (packed_at path)))
  packed-fits c path φ =
      choice-fits t c (plan (choice_problem t c) path) (starts-feasible (choice_problem t c) (choice-sound t σ c) path φ.follows)

  -- the run ends infeasible, and nothing fits however it is turned; or packed, with a plan that fits
  pub run_ends : RunEnds t
  run_ends = go by_choice.number end-state at-end end-within (elim by_choice.ending [ all_failed n e r ↦ inl (e, n, r) | one_succeeded _ e _ _ ↦ inr e ])
    where
      follows-end : {s : ChoiceCheckpoint} → run_end t ≡ s → ChoiceFollows t s
      follows-end e =
          subst (ChoiceFollows t) (run_after (step_count t) (le_refl _) ∙ e) (reached-follows (step_count t) choice_opening follows_invariant.opens)

      go : (c : ℕ) (κ : Checkpoint) → run_end t ≡ stage c κ → c ≤ last_choice t
          → ((status κ ≡ failed) × (c ≡ last_choice t) × Refuted X (suc (last_choice t))) ⊎ (status κ ≡ succeeded) → RunEnds t
      go c infeasible e h (inl (_, n, r)) = ends_infeasible (e ∙ ap (λ (m : ℕ). stage m infeasible) n)
          (λ q f. let (d, l, x) = fits-choice t σ q f in r d (omega arith) (q.positions, x))
      go c (packed_at path) e h (inr _) = ends_packed c path h e (packed-fits c path (follows-end e))
      go c (open_at path) e h (inl (s, _, _)) = absurd (subst Running s tt)
      go c (packed_at path) e h (inl (s, _, _)) = absurd (failed_succeeded s refl)
      go c (open_at path) e h (inr s) = absurd (subst Running s tt)
      go c infeasible e h (inr s) = absurd (failed_succeeded refl s)

  -- none exactly when nothing fits, however its items are turned
  pub infeasible_exactly : (run_end t ≡ stage (last_choice t) infeasible) ↔ ((q : Plan) → Fits t q → ⊥)
  infeasible_exactly = elim run_ends [
    | ends_infeasible e f ↦ ((λ _. f), (λ _. e))
    | ends_packed c path h e f ↦ (
      (λ i. let z : ◌≡◌ {A = ℕ} 0 1 = cc (ap (λ (s : ChoiceCheckpoint). s.state) (sym i ∙ e)) in absurd (omega arith)),
      (λ n. absurd (n _ f)),
    )
  ]

  -- whatever call answers with a plan, it fits
  pub answer-fits : (budget : ℕ) (s : ChoiceCheckpoint) → ChoiceFollows t s → (q : Plan) → (search t budget s).answer ≡ packing q → Fits t q
  answer-fits budget s f q e = go (steps (machine t) budget s).number (steps (machine t) budget s).state (reached-follows budget s f) e
    where
      go : (c : ℕ) (κ : Checkpoint) → ChoiceFollows t (stage c κ) → answer_at (machine t) (plan_at t) (stage c κ) ≡ packing q → Fits t q
      go c (open_at path) f e = let z : ◌≡◌ {A = ℕ} 0 1 = cc in absurd (omega arith)
      go c infeasible f e = let z : ◌≡◌ {A = ℕ} 0 1 = cc in absurd (omega arith)
      go c (packed_at path) f e = let z : plan_at t (stage c (packed_at path)) ≡ q = cc in subst (Fits t) z (packed-fits c path f)

  -- the claim about a whole list of calls, for whoever serves each call by the search: "After every list on a sheet that isn't refused"
  pub every_list : {C X P : Type 0} (w : Service ChoiceCheckpoint C X P) → Serves (machine t) w (ChoiceFollows t) → (calls : List C)
      → Claim (machine t) w (step_count t) calls
  every_list w υ = claim (machine t) (ChoiceFollows t) follows_invariant w υ (step_count t) counted

module _ (t : Turnable) where
  -- "spent has taken exactly the allowance"
  pub spent_exactly : (budget : ℕ) (s : ChoiceCheckpoint) → (search t budget s).answer ≡ budget_spent → (search t budget s).steps ≡ budget
  spent_exactly = spent-takes-all (machine t) (plan_at t)

  -- "A finished note repeats its answer with 0 steps"
  pub finished_repeats : (budget : ℕ) (s : ChoiceCheckpoint) → Finished (machine t) s
      → search t budget s ≡ record { answer = answer_at (machine t) (plan_at t) s; steps = 0; checkpoint = s }
  finished_repeats budget s f = rw (finished_stays (machine t) budget s f, finished-takes-none (machine t) budget s f)

  -- i steps and then j are i + j steps
  pub steps_compose : (i j : ℕ) (s : ChoiceCheckpoint) → steps (machine t) (i + j) s ≡ steps (machine t) j (steps (machine t) i s)
  steps_compose = steps_add (machine t)

  pub steps_add_up : (i j : ℕ) (s : ChoiceCheckpoint) → taken (machine t) (i + j) s ≡ taken (machine t) i s + taken (machine t) j (steps (machine t) i s)
  steps_add_up = taken_add (machine t)

  -- the test of a checkpoint says yes exactly when it follows
  pub follows_exactly : (s : ChoiceCheckpoint) → (choice_follows t s ≡ true) ↔ ChoiceFollows t s
  follows_exactly s = (
    (λ e.
        let (w, r) = and_both (leb s.number (last_choice t)) (last_if_infeasible s.state s.number (last_choice t) && inner) e in
        let (l, f) = and_both (last_if_infeasible s.state s.number (last_choice t)) inner r in
        record {
          within = leb-true _ _ w;
          follows = (R.follows_exactly (look (choice_problem t s.number)) s.state).0 f;
          failed_last = (last_exactly s.state s.number).0 l;
        }),
    (λ φ. and_intro (le-leb _ _ φ.within) (and_intro ((last_exactly s.state s.number).1 φ.failed_last)
        ((R.follows_exactly (look (choice_problem t s.number)) s.state).1 φ.follows))),
  )
    where
      inner : Bool
      inner = follows (look (choice_problem t s.number)) s.state

      last_exactly : (κ : Checkpoint) (n : ℕ) → (last_if_infeasible κ n (last_choice t) ≡ true) ↔ (status κ ≡ failed → n ≡ last_choice t)
      last_exactly (open_at path) n = ((λ _ e. let z : ◌≡◌ {A = ℕ} 0 1 = cc in absurd (omega arith)), (λ _. refl))
      last_exactly infeasible n = ((λ e _. eqb-true n (last_choice t) e), (λ f. eq-eqb n (last_choice t) (f refl)))
      last_exactly (packed_at path) n = ((λ _ e. let z : ◌≡◌ {A = ℕ} 0 1 = cc in absurd (omega arith)), (λ _. refl))
