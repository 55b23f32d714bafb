-- A call goes through the choices: each is a call of its own problem's search, and where that is infeasible the next one's, from its opening.
use Rattle.std.specs.Prelude.{◌&&◌, ◌≡◌, ◌+◌, ◌-◌, ◌≤◌, ◌<◌}
use Rattle.prelude.specs.Names.{Bool, true, false, List, refl, sym, ap, ◌∙◌, subst, ℕ, zero, suc, dec_lt, arith, zero-add}
use Rattle.prelude.specs.Names.{le-leb, lt-ltb, ltb}
use Rattle.prelude.specs.Names.{le-ltb, length, eq-eqb, ne_eqb, and-false, lt-leb}
use Rattle.model.proofs.Machine.{taken_open, finished_stays, finished-takes-none}
use Rattle.model.proofs.Series.{by_status, failed_succeeded, call-within, call-onward}
use Rattle.model.proofs.Theorems.{finished_repeats}
use Rattle.model.specs.Branching.{Branch, plan}
use Rattle.model.specs.Machine.{failed, Machine, Running, Ended, steps, taken}
use Rattle.model.specs.Problem.{Problem}
use Rattle.model.specs.Series.{stage}
use Rattle.model.specs.Turning.{Turnable, choice_problem, last_choice, marks_of}
use Rattle.model.specs.Run.{look, tree_machine, choice_machine, ChoiceCheckpoint, machine, plan_at, last_if_infeasible, choice_follows}
use Rattle.refusal.specs.declared.Refusal.TheVariants.{NotFollowing}
use Rattle.instance.specs.declared.Checkpoint.{Checkpoint}
use Rattle.instance.specs.declared.Instance.{Instance}
use Rattle.instance.specs.declared.Status.{Status}
use Rattle.instance.specs.Meaning.{problem_of}
use Rattle.instance.specs.Valid.{valid}
use Rattle.instance.proofs.Sheets.{valid-says}
use Rattle.turning.specs.Turned.{may_turn_in, turnable_of, mark_of, each_of_ten, choice_marks, turned_instance}
use Rattle.turning.proofs.Problems.{valid-turned, choice-turned}
use Rattle.turning.proofs.Counts.{may_not-past, unmarked}
use Rattle.tree_paths.specs.Checkpoints.{branches_of, value_path, value_at, with_status, well_formed, following, checkpoint_of}
use Rattle.tree_paths.proofs.Checkpoints.{checkpoint_as}
use Rattle.tree_search.specs.Results.{positions_list, not_following, tree_result}
use Rattle.tree_search.specs.declared.outcome.TreeResult.{TreeResult}
use Rattle.tree_search.proofs.Outcomes.{is-not_following, is-spent, is-infeasible, is-packed, result_is}
use Rattle.search.specs.Results.{marks_list, packing_of, result_of, result_refused, followed_if, followed, infeasible_after, spent_after, packed_after}
use Rattle.search.specs.Results.{answer_in, search_result}
use Rattle.search.specs.declared.answer.SearchResult.{SearchResult}
use Rattle.model.specs.Calls as C
use Rattle.model.specs.Search as S
use Rattle.tree_search.specs.Results as T
use Rattle.tree_search.specs.declared.outcome.Outcome.{Outcome}

-- outcomes of four kinds
abbrev pub kind : Outcome → ℕ
kind Outcome.Packed = 0
kind Outcome.Infeasible = 1
kind Outcome.Spent = 2
kind Outcome.NotFollowing = 3

-- no call takes more steps than its budget
taken-most : {S : Type 0} (M : Machine S) (i : ℕ) (κ : S) → taken M i κ ≤ i
taken-most M zero κ = omega arith
taken-most M (suc i) κ = by_status (M.status κ)
    (λ e. rw (taken_open M i κ (subst Running (sym e) tt)) (omega (arith, taken-most M i (M.step κ))))
    (λ e. rw (finished-takes-none M (suc i) κ (subst Ended (sym e) tt)) (omega arith))
    (λ e. rw (finished-takes-none M (suc i) κ (subst Ended (sym e) tt)) (omega arith))

pub steps-within : (p : Problem) (left : ℕ) (κ : S.Checkpoint) {r : TreeResult} → r ≡ tree_result p left κ → r.steps ≤ left
unfolding T.infeasible_after T.spent_after T.packed_after not_following
steps-within p left κ {r} q = elim (result_is p left κ) [
  | is-not_following f w ↦ omega (arith, ap (λ (x : TreeResult). x.steps) (q ∙ w))
  | is-spent to f e w ↦ omega (arith, ap (λ (x : TreeResult). x.steps) (q ∙ w), taken-most (tree_machine p) left κ)
  | is-packed to f e w ↦ omega (arith, ap (λ (x : TreeResult). x.steps) (q ∙ w), taken-most (tree_machine p) left κ)
  | is-infeasible f e w ↦ omega (arith, ap (λ (x : TreeResult). x.steps) (q ∙ w), taken-most (tree_machine p) left κ)
]

-- the marks of a choice are 0 past the items
pub marks-listed : (i : Instance) (c : ℕ) → choice_marks (turnable_of i) c ≡ marks_list i.item_count (marks_of (may_turn_in i) c)
unfolding choice_marks turnable_of marks_list
marks-listed i c = λ k. each_of_ten (λ u. mark_of (at u k))
  where
    at : (u : ℕ) → marks_of (may_turn_in i) c u ≡ (ltb u i.item_count && marks_of (may_turn_in i) c u)
    at u = elim (dec_lt u i.item_count) [
      | yes h ↦ rw (lt-ltb u i.item_count h)
      | no h ↦ unmarked (may_turn_in i) c u (may_not-past i.item_count i.items u (omega arith)) ∙ rw (le-ltb u i.item_count (omega arith))
    ]

pub choice-listed : (i : Instance) (c : ℕ) → choice_marks (turnable_of i) c ≡ marks_list (turnable_of i).given.items (marks_of (turnable_of i).may_turn c)
unfolding turnable_of problem_of
choice-listed = marks-listed

-- a packed checkpoint is not infeasible
not-infeasible : (p : Problem) (budget : ℕ) (path : List Branch) {r : TreeResult} → r ≡ tree_result p budget (S.packed_at path)
    → r.outcome ≡ Outcome.Infeasible → ⊥
unfolding T.infeasible_after T.spent_after T.packed_after not_following
not-infeasible p budget path {r} q o = elim (result_is p budget (S.packed_at path)) [
  | is-not_following f w ↦ omega (arith, ap kind o, ap (λ (x : TreeResult). kind x.outcome) (q ∙ w))
  | is-spent to f e w ↦ omega (arith, ap kind o, ap (λ (x : TreeResult). kind x.outcome) (q ∙ w))
  | is-packed to f e w ↦ omega (arith, ap kind o, ap (λ (x : TreeResult). kind x.outcome) (q ∙ w))
  | is-infeasible f e w ↦
      failed_succeeded (ap S.status e) (ap S.status (finished_stays (tree_machine p) budget (S.packed_at path) tt))
]

-- the instance with the marks of a choice turned: the choice's problem, and valid
pub choice-instance : (i : Instance) → length i.items ≡ 10 → valid i ≡ true → (c : ℕ) {marks : List ℕ} {j : Instance}
    → marks ≡ choice_marks (turnable_of i) c → j ≡ turned_instance i marks → (problem_of j ≡ choice_problem (turnable_of i) c) × (valid j ≡ true)
choice-instance i long v c {marks} {j} m e =
    (ap problem_of (e ∙ ap (turned_instance i) m) ∙ choice-turned i long (valid-says i v).items-few c, ap valid e ∙ valid-turned i long marks v)

module _ (t : Turnable) (c : Checkpoint) where
  -- a call from s under what is left of the budget, m steps after the start
  abbrev from_if : Bool → ℕ → ℕ → ChoiceCheckpoint → SearchResult
  from_if true m left s =
      let end = steps (machine t) left s in
      result_of t (record { answer = C.answer_at (machine t) (plan_at t) end; steps = m + taken (machine t) left s; checkpoint = end })
  from_if false m left s = result_refused NotFollowing c

  abbrev pub result_from : ℕ → ℕ → ChoiceCheckpoint → SearchResult
  result_from m left s = from_if (choice_follows t s) m left s

  -- from the start it is the whole call
  pub from_start : (budget : ℕ) (s : ChoiceCheckpoint) → result_from 0 budget s ≡ followed t budget c s
  from_start budget s = go (choice_follows t s)
    where
      go : (b : Bool) → from_if b 0 budget s ≡ followed_if b t budget c s
      go true = rw (zero-add (taken (machine t) budget s))
      go false = refl

  -- where it comes to
  from_is : (m left : ℕ) (s : ChoiceCheckpoint) {e : ChoiceCheckpoint} {n : ℕ} → choice_follows t s ≡ true → steps (machine t) left s ≡ e → taken
      (machine t) left s ≡ n
      → result_from m left s ≡ result_of t (record { answer = C.answer_at (machine t) (plan_at t) e; steps = m + n; checkpoint = e })
  from_is m left s f e n = rw (f, e, n)

  module _ (choice m left : ℕ) where
    -- an open or packed checkpoint of a choice follows where its path does
    in_choice : (κ : S.Checkpoint) {b : Bool} → choice ≤ last_choice t → last_if_infeasible κ choice (last_choice t) ≡ true
        → S.follows (look (choice_problem t choice)) κ ≡ b → choice_follows t (stage choice κ) ≡ b
    in_choice κ h l f = rw (le-leb choice (last_choice t) h, l, f)

    -- an infeasible choice before the last: the next one from its opening, under what is left
    pub goes_on : (path : List Branch) {r : TreeResult} → r ≡ tree_result (choice_problem t choice) left (S.open_at path) → r.outcome ≡ Outcome.Infeasible
        → choice < last_choice t
        → (r.steps ≤ left) × (result_from m left (stage choice (S.open_at path)) ≡ result_from (m + r.steps) (left - r.steps) (stage (suc choice) S.opening))
    unfolding T.infeasible_after T.spent_after T.packed_after not_following
    goes_on path {r} q o h = elim (result_is p left κ) [
      | is-not_following f w ↦ absurd (omega (arith, ap kind o, ap (λ (x : TreeResult). kind x.outcome) (q ∙ w)))
      | is-spent to f e w ↦ absurd (omega (arith, ap kind o, ap (λ (x : TreeResult). kind x.outcome) (q ∙ w)))
      | is-packed to f e w ↦ absurd (omega (arith, ap kind o, ap (λ (x : TreeResult). kind x.outcome) (q ∙ w)))
      | is-infeasible f e w ↦
          let n : r.steps ≡ taken (tree_machine p) left κ = ap (λ (x : TreeResult). x.steps) (q ∙ w) in
          let (l, s, more) = call-onward (choice_machine t) (last_choice t) choice left κ h tt (ap S.status e) in
          let end = steps (machine t) (left - taken (tree_machine p) left κ) next in (
            rw n l,
            rw n (from_is m left (stage choice κ) (in_choice κ (omega arith) refl f) s more
                ∙ (ap (λ (k : ℕ). result_of t (record { answer = C.answer_at (machine t) (plan_at t) end; steps = k; checkpoint = end })) (omega arith)
                ∙ sym (from_is (m + taken (tree_machine p) left κ) (left - taken (tree_machine p) left κ) next (rw (le-leb (suc choice)
                (last_choice t) h)) refl refl))),
          )
    ]
      where
        p : Problem
        p = choice_problem t choice

        κ : S.Checkpoint
        κ = S.open_at path

        next : ChoiceCheckpoint
        next = stage (suc choice) S.opening

    -- any other, and the last: the call's own
    pub ends_in : (κ : S.Checkpoint) {r : TreeResult} → r ≡ tree_result (choice_problem t choice) left κ → choice ≤ last_choice t
        → last_if_infeasible κ choice (last_choice t) ≡ true → (r.outcome ≡ Outcome.Infeasible → last_choice t ≤ choice)
        → choice_marks t choice ≡ marks_list t.given.items (marks_of t.may_turn choice)
        → answer_in t c choice m r ≡ result_from m left (stage choice κ)
    unfolding T.infeasible_after T.spent_after T.packed_after not_following infeasible_after spent_after packed_after
        result_of packing_of value_at positions_list
    ends_in κ {r} q h l last marks = elim (result_is p left κ) [
      | is-not_following f w ↦ ap (answer_in t c choice m) (q ∙ w) ∙ sym (rw (in_choice κ h l f))
      | is-spent to f e w ↦ ap (answer_in t c choice m) (q ∙ w) ∙ sym (comes f e (λ d. absurd (subst Running d tt)))
      | is-packed to f e w ↦
          ap (answer_in t c choice m) (q ∙ w)
          ∙ (ap (packed_after (m + taken (tree_machine p) left κ) (branches_of to) (length to) choice (positions_list p (plan p to))) marks
          ∙ sym (comes f e (λ d. absurd (failed_succeeded d refl))))
      | is-infeasible f e w ↦ ap (answer_in t c choice m) (q ∙ w) ∙ sym (comes f e (λ _. last (ap (λ (x : TreeResult). x.outcome) (q ∙ w))))
    ]
      where
        p : Problem
        p = choice_problem t choice

        comes : {μ : S.Checkpoint} → S.follows (look p) κ ≡ true → steps (tree_machine p) left κ ≡ μ → (S.status μ ≡ failed → last_choice t ≤ choice)
            → result_from m left (stage choice κ) ≡ result_of t (record {
              answer = C.answer_at (machine t) (plan_at t) (stage choice μ);
              steps = m + taken (tree_machine p) left κ;
              checkpoint = stage choice μ;
            })
        comes f e g =
            let (s, n) = call-within (choice_machine t) (last_choice t) choice left κ (λ d. g (ap S.status (sym e) ∙ d)) in
            from_is m left (stage choice κ) (in_choice κ h l f) (s ∙ ap (stage choice) e) n

-- The call on a finished checkpoint
module _ (i : Instance) (c : Checkpoint) (budget : ℕ) where
  -- packed: as its path is in its choice
  pub packed_in : (path : List Branch) → c.choice ≤ last_choice (turnable_of i) → {r : TreeResult}
      → r ≡ tree_result (choice_problem (turnable_of i) c.choice) budget (S.packed_at path)
      → answer_in (turnable_of i) c c.choice 0 r ≡ followed (turnable_of i) budget c (stage c.choice (S.packed_at path))
  packed_in path h {r} q =
      ends_in (turnable_of i) c c.choice 0 budget (S.packed_at path) q h refl (λ o. absurd (not-infeasible _ budget path q o))
      (choice-listed i c.choice)
      ∙ from_start (turnable_of i) c budget (stage c.choice (S.packed_at path))

  -- infeasible: with the last choice, and with no other
  pub infeasible_last : {last : ℕ} → last ≡ last_choice (turnable_of i) → last ≡ c.choice
      → infeasible_after 0 c.choice ≡ followed (turnable_of i) budget c (stage c.choice S.infeasible)
  unfolding infeasible_after result_of value_at
  infeasible_last e f =
      let here : choice_follows (turnable_of i) (stage c.choice S.infeasible) ≡ true =
      rw (le-leb c.choice (last_choice (turnable_of i)) (omega arith), eq-eqb c.choice (last_choice (turnable_of i)) (omega arith)) in
      sym (ap (λ (b : Bool). followed_if b (turnable_of i) budget c (stage c.choice S.infeasible)) here
      ∙ ap (result_of (turnable_of i)) (finished_repeats (turnable_of i) budget (stage c.choice S.infeasible) tt))

  pub infeasible_early : (last_choice (turnable_of i) ≡ c.choice → ⊥)
      → result_refused NotFollowing c ≡ followed (turnable_of i) budget c (stage c.choice S.infeasible)
  infeasible_early f =
      let off : choice_follows (turnable_of i) (stage c.choice S.infeasible) ≡ false =
      rw (ne_eqb c.choice (last_choice (turnable_of i)) (λ e. f (sym e)), and-false) in
      sym (ap (λ (b : Bool). followed_if b (turnable_of i) budget c (stage c.choice S.infeasible)) off)

-- One call by the tests of the table
module _ (i : Instance) (c : Checkpoint) (budget : ℕ) (v : valid i ≡ true) (w : well_formed c ≡ true) where
  -- a choice beyond the last
  pub beyond : last_choice (turnable_of i) < c.choice → result_refused NotFollowing c ≡ search_result i c budget
  unfolding search_result following checkpoint_of
  beyond h = rw (v, w, lt-leb c.choice (last_choice (turnable_of i)) h)

  -- else the call is that of its status
  pub searched : {s : Status} → c.status ≡ s → {r : SearchResult} → r ≡ followed (turnable_of i) budget c (stage c.choice (with_status s (value_path c)))
      → r ≡ search_result i c budget
  unfolding search_result following
  searched e q = rw (v, w, checkpoint_as c e) q
