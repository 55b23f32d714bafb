-- Steps of any machine: they compose, a run has one count, and past it stays as it is.
use Rattle.std.specs.Prelude.{◌≡◌, ◌+◌, ◌-◌, ◌≤◌, ◌<◌}
use Rattle.prelude.specs.Names.{refl, sym, ap, ◌∙◌, subst, ℕ, zero, suc, min, le_of_suc-le-suc, zero-add, suc-add, arith}
use native.Mathlib.Nat.{not-suc-le-zero}
use Rattle.model.specs.Machine.{Status, running, failed, succeeded, Machine, Running, Ended, Open, Finished, steps, taken, Count, Invariant}

-- not both open and finished
pub ended_not_running : (s : Status) → Ended s → Running s → ⊥
ended_not_running running = λ f o. f
ended_not_running failed = λ f o. o
ended_not_running succeeded = λ f o. o

pub running_is : (s : Status) → Running s → s ≡ running
running_is running = λ o. refl
running_is failed = λ o. absurd o
running_is succeeded = λ o. absurd o

-- what is done only while running is not done at the end
ended_skips : {A : Type 0} (x y : A) (s : Status) → Ended s → elim s as (λ _. A) [ running ↦ x | failed ↦ y | succeeded ↦ y ] ≡ y
ended_skips x y running = λ f. absurd f
ended_skips x y failed = λ f. refl
ended_skips x y succeeded = λ f. refl

status_or : {A : Type 0} (s : Status) → (Running s → A) → (Ended s → A) → A
status_or running = λ f g. f tt
status_or failed = λ f g. g tt
status_or succeeded = λ f g. g tt

module _ {S : Type 0} (M : Machine S) where
  -- one step, by what the state is
  pub steps_open : (i : ℕ) (κ : S) → Open M κ → steps M (suc i) κ ≡ steps M i (M.step κ)
  steps_open i κ o = rw (running_is (M.status κ) o, steps)

  pub taken_open : (i : ℕ) (κ : S) → Open M κ → taken M (suc i) κ ≡ suc (taken M i (M.step κ))
  taken_open i κ o = rw (running_is (M.status κ) o, taken)

  pub finished_stays : (i : ℕ) (κ : S) → Finished M κ → steps M i κ ≡ κ
  finished_stays zero κ f = refl
  finished_stays (suc i) κ f = ended_skips _ κ (M.status κ) f

  -- "A finished note repeats its answer with 0 steps"
  pub finished-takes-none : (i : ℕ) (κ : S) → Finished M κ → taken M i κ ≡ 0
  finished-takes-none zero κ f = refl
  finished-takes-none (suc i) κ f = ended_skips _ 0 (M.status κ) f

  -- steps compose, and those taken add up
  pub steps_add : (i j : ℕ) (κ : S) → steps M (i + j) κ ≡ steps M j (steps M i κ)
  steps_add zero j κ = rw zero-add refl
  steps_add (suc i) j κ = status_or (M.status κ)
      (λ o. rw suc-add (steps_open (i + j) κ o ∙ (steps_add i j (M.step κ) ∙ ap (steps M j) (sym (steps_open i κ o)))))
      (λ f. finished_stays (suc i + j) κ f ∙ sym (ap (steps M j) (finished_stays (suc i) κ f) ∙ finished_stays j κ f))

  pub taken_add : (i j : ℕ) (κ : S) → taken M (i + j) κ ≡ taken M i κ + taken M j (steps M i κ)
  taken_add zero j κ = simp zero-add
  taken_add (suc i) j κ = status_or (M.status κ)
      (λ o. rw (suc-add, taken_open (i + j) κ o, taken_open i κ o, steps_open i κ o) (omega (arith, taken_add i j (M.step κ))))
      (λ f. rw (finished-takes-none (suc i + j) κ f, finished-takes-none (suc i) κ f, finished_stays (suc i) κ f, finished-takes-none j κ f) refl)

  -- past its count the run stays as it is
  pub past-count : (κ : S) (c i : ℕ) → Count M κ c → c ≤ i → steps M i κ ≡ steps M c κ
  past-count κ c i k h =
      let e : c + (i - c) ≡ i = omega arith in
      rw e at (steps_add c (i - c) κ ∙ finished_stays (i - c) (steps M c κ) k.finished)

  -- the count from a later point of the run
  pub count-later : (s c : ℕ) (κ : S) → Count M κ c → Count M (steps M s κ) (c - s)
  count-later s c κ k = record {
    finished = subst (Finished M) (sym (past-count κ c (s + (c - s)) k (omega arith)) ∙ steps_add s (c - s) κ) k.finished;
    before = λ j h. subst (Open M) (steps_add s j κ) (k.before (s + j) (omega arith));
  }

  -- a call takes the lesser of its budget and the count from its state on
  pub taken_is : (i c : ℕ) (κ : S) → Count M κ c → taken M i κ ≡ min i c
  taken_is zero c κ k = omega arith
  taken_is (suc i) zero κ k = rw (finished-takes-none (suc i) κ k.finished) (omega arith)
  taken_is (suc i) (suc c) κ k =
      let o = k.before zero (omega arith) in
      let e : suc c - 1 ≡ c = omega arith in
      rw (taken_open i κ o) (omega (arith, taken_is i c (M.step κ) (rw (steps_open 0 κ o, e) at (count-later 1 (suc c) κ k))))

  -- there is one count
  pub count_unique : (κ : S) (c d : ℕ) → Count M κ c → Count M κ d → c ≡ d
  count_unique κ c d k l = omega (arith, taken_is (c + d) c κ k, taken_is (c + d) d κ l)

  -- where the state is open in the end, all of the budget was taken
  pub open_takes-all : (i : ℕ) (κ : S) → Open M (steps M i κ) → taken M i κ ≡ i
  open_takes-all zero κ o = refl
  open_takes-all (suc i) κ o = status_or (M.status κ)
      (λ r. taken_open i κ r ∙ ap suc (open_takes-all i (M.step κ) (subst (Open M) (steps_open i κ r) o)))
      (λ f. absurd (ended_not_running (M.status κ) f (subst (Open M) (finished_stays (suc i) κ f) o)))

  -- an invariant holds of each state that is come to
  pub steps_keep : (I : S → Type 0) → Invariant M I → (i : ℕ) (κ : S) → I κ → I (steps M i κ)
  steps_keep I ι zero κ h = h
  steps_keep I ι (suc i) κ h = status_or (M.status κ)
      (λ o. subst I (sym (steps_open i κ o)) (steps_keep I ι i (M.step κ) (ι.keeps κ o h)))
      (λ f. subst I (sym (finished_stays (suc i) κ f)) h)

-- i steps, each on an open state
pub data Way {S : Type 0} (M : Machine S) : ℕ → S → S → Type 0 where
  no_steps : {κ : S} → Way M zero κ κ
  step_then : {i : ℕ} {κ μ : S} → Open M κ → Way M i (M.step κ) μ → Way M (suc i) κ μ

module _ {S : Type 0} (M : Machine S) where
  pub join : {i j : ℕ} {κ μ ξ : S} → Way M i κ μ → Way M j μ ξ → Way M (i + j) κ ξ
  join no_steps q = rw zero-add q
  join (step_then e p) q = rw suc-add (step_then e (join p q))

  pub way_ends : {i : ℕ} {κ μ : S} → Way M i κ μ → steps M i κ ≡ μ
  way_ends no_steps = refl
  way_ends (step_then {i} {κ} {μ} o p) = steps_open M i κ o ∙ way_ends p

  way_open : {i : ℕ} {κ μ : S} → Way M i κ μ → (j : ℕ) → j < i → Open M (steps M j κ)
  way_open no_steps j h = absurd (not-suc-le-zero h)
  way_open (step_then o p) zero h = o
  way_open (step_then {i} {κ} {μ} o p) (suc j) h = subst (Open M) (sym (steps_open M j κ o)) (way_open p j (le_of_suc-le-suc h))

  -- a way to a finished state counts the steps
  pub way_counts : {i : ℕ} {κ μ : S} → Finished M μ → Way M i κ μ → Count M κ i
  way_counts f p = record { finished = subst (Finished M) (sym (way_ends p)) f; before = way_open p }

  -- and the other way round
  pub count_way : (c : ℕ) (κ : S) → Count M κ c → Way M c κ (steps M c κ)
  count_way zero κ k = no_steps
  count_way (suc c) κ k =
      let o = k.before zero (omega arith) in
      subst (Way M (suc c) κ) (sym (steps_open M c κ o)) (step_then o (count_way c (M.step κ) (record {
        finished = subst (Finished M) (steps_open M c κ o) k.finished;
        before = λ j h. subst (Open M) (steps_open M j κ o) (k.before (suc j) (omega arith));
      })))
