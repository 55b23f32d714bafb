-- Lengths at which the opening domains of every choice are inconsistent: each takes a step a choice, and as many steps as there are choices tell.
use Rattle.std.specs.Prelude.{◌≡◌, ◌+◌, ◌-◌, ◌*◌, ◌≤◌, ◌<◌}
use Rattle.prelude.specs.Names.{[], refl, sym, ap, ◌∙◌, subst, ℕ, zero, suc, dec_lt, le_refl, zero-add, suc-add, add-zero}
use Rattle.prelude.specs.Names.{sub-zero}
use Rattle.prelude.specs.Names.{arith}
use native.Mathlib.Nat.{suc-mul, zero-mul}
use Rattle.model.proofs.Earliest.{shortened-sound, too_few, refuted, found, tried, from-spent, from-none}
use Rattle.model.proofs.Machine.{count_unique}
use Rattle.model.proofs.Search.{FeasiblePacking, search_laws, starts-feasible, tree_decides}
use Rattle.model.proofs.Theorems.{ends_infeasible, ends_packed, run_ends, count_sums}
use Rattle.model.proofs.Turning.{fits-choice, choice-fits, choice-sound}
use Rattle.model.specs.Admits.{Sound}
use Rattle.model.specs.Branching.{plan}
use Rattle.model.specs.Calls.{budget_spent, no_packing}
use Rattle.model.specs.Earliest.{shortened, Finish, steps_before, finish_from}
use Rattle.model.specs.Machine.{Ended, Finished, steps}
use Rattle.model.specs.Problem.{Problem}
use Rattle.model.specs.Run.{look, tree_machine, tree_count, choice_opening, search, step_count, choice_steps}
use Rattle.model.specs.Search.{Outlook, conflict, complete, fork, opening, act, status}
use Rattle.model.specs.Turning.{Turnable, choice_problem, last_choice, Plan, Fits}
use Rattle.makespan.specs.Results.{choices_of, Conflicting}

-- One step shows such a length impossible
module _ (p : Problem) (σ : Sound p) (e : look p [] ≡ conflict) where
  conflict_infeasible : FeasiblePacking p → ⊥
  conflict_infeasible x = (search_laws p σ).conflict_admits_none [] tt e x ((search_laws p σ).root_admits x)

  conflict_count : tree_count p ≡ 1
  conflict_count = count_unique (tree_machine p) opening (tree_count p) 1 (tree_decides p σ).counts (record {
    finished = rw e tt;
    before = λ i h. let z : i ≡ 0 = omega arith in rw z tt;
  })

-- and with items that may be turned, one for each choice
module _ (t : Turnable) (σ : Sound t.given) (e : Conflicting t) where
  count-each : (n : ℕ) → n ≤ suc (last_choice t) → choice_steps t n ≡ n
  count-each zero h = refl
  count-each (suc n) h = omega (arith, count-each n (omega arith), conflict_count (choice_problem t n) (choice-sound t σ n) (e n (omega arith)))

  none-fits : (q : Plan) → Fits t q → ⊥
  none-fits q f = let (c, l, x) = fits-choice t σ q f in conflict_infeasible (choice_problem t c) (choice-sound t σ c) (e c l) (q.positions, x)

  pub conflicts_count : step_count t ≡ suc (last_choice t)
  conflicts_count = elim (run_ends t σ) [
    | ends_infeasible r f ↦ count_sums t σ ∙ (ap (λ s. choice_steps t (suc s.number)) r ∙ count-each (suc (last_choice t)) (le_refl _))
    | ends_packed c path l r f ↦ absurd (none-fits _ f)
  ]

  pub conflicts_none : (budget : ℕ) → suc (last_choice t) ≤ budget
      → ((search t budget choice_opening).answer ≡ no_packing) × ((search t budget choice_opening).steps ≡ suc (last_choice t))
  conflicts_none budget h = elim (tried t σ budget) [
    | too_few l a s ↦ absurd (omega (arith, conflicts_count))
    | refuted l a s r f ↦ (a, s ∙ conflicts_count)
    | found l a s r f ↦ absurd (none-fits _ f)
  ]

  pub conflicts_spent : (budget : ℕ) → budget ≤ last_choice t
      → ((search t budget choice_opening).answer ≡ budget_spent) × ((search t budget choice_opening).steps ≡ budget)
  conflicts_spent budget h = elim (tried t σ budget) [
    | too_few l a s ↦ (a, s)
    | refuted l a s r f ↦ absurd (omega (arith, conflicts_count))
    | found l a s r f ↦ absurd (none-fits _ f)
  ]

-- So k such lengths take k times as many steps as there are choices, or as many as the budget has
pub before-none : (f : Finish) → steps_before 0 f ≡ f
before-none f = ap (λ m. record { answer = f.answer; length = f.length; steps = m }) (zero-add f.steps)

pub before_twice : (m n : ℕ) (f : Finish) → steps_before m (steps_before n f) ≡ steps_before (m + n) f
before_twice m n f = ap (λ m. record { answer = f.answer; length = f.length; steps = m }) (omega arith)

module _ (t : Turnable) (σ : Sound t.given) where
  abbrev w : ℕ
  w = choices_of t

  abbrev Conflicts : ℕ → ℕ → Type 0
  Conflicts shown k = (l : ℕ) → shown < l → l ≤ shown + k → Conflicting (shortened t l)

  same_choices : (l : ℕ) → last_choice (shortened t l) ≡ last_choice t
  unfolding last_choice
  same_choices l = refl

  -- the first of them
  skip_one : (more shown budget : ℕ) → Conflicting (shortened t (suc shown)) → w ≤ budget
      → finish_from t (suc more) shown budget ≡ steps_before w (finish_from t more (suc shown) (budget - w))
  skip_one more shown budget e h =
      let (a, s) = conflicts_none (shortened t (suc shown)) (shortened-sound t (suc shown) σ) e budget (omega (arith, same_choices (suc shown))) in
      from-none t more shown budget w (s ∙ ap suc (same_choices (suc shown))) a

  pub skip : (k more shown budget : ℕ) → Conflicts shown k → k * w ≤ budget
      → finish_from t (k + more) shown budget ≡ steps_before (k * w) (finish_from t more (shown + k) (budget - k * w))
  skip zero more shown budget c h =
      rw (zero-add more, add-zero shown, zero-mul w, sub-zero budget) (sym (before-none (finish_from t more shown budget)))
  skip (suc k) more shown budget c h =
      let m : suc k * w ≡ k * w + w = suc-mul k w in
      let next : shown + suc k ≡ suc shown + k = omega arith in
      let less : budget - (k * w + w) ≡ budget - w - k * w = omega arith in
      let swap : k * w + w ≡ w + k * w = omega arith in
      let rest = finish_from t more (suc shown + k) (budget - w - k * w) in
      rw (suc-add, next, m, less, swap) (skip_one (k + more) shown budget (c (suc shown) (omega arith) (omega arith)) (omega arith)
      ∙ (ap (steps_before w) (skip k more (suc shown) (budget - w) (λ l a b. c l (omega arith) (omega arith)) (omega arith))
      ∙ before_twice w (k * w) rest))

  -- where the budget is spent on them, after j lengths
  pub skip_short : (k more shown budget j : ℕ) → Conflicts shown k → j < k → j * w ≤ budget → budget < suc j * w
      → finish_from t (k + more) shown budget ≡ record { answer = budget_spent; length = shown + j; steps = budget }
  skip_short zero more shown budget j c h l g = absurd (omega arith)
  skip_short (suc k) more shown budget zero c h l g =
      let one : suc zero * w ≡ w = suc-mul zero w ∙ rw (zero-mul w, zero-add w) in
      let (a, s) = conflicts_spent (shortened t (suc shown)) (shortened-sound t (suc shown) σ) (c (suc shown) (omega arith) (omega arith)) budget
      (omega (arith, same_choices (suc shown))) in
      rw (suc-add, add-zero) (from-spent t (k + more) shown budget budget s a)
  skip_short (suc k) more shown budget (suc j) c h l g =
      let m : suc j * w ≡ j * w + w = suc-mul j w in
      let n : suc (suc j) * w ≡ suc j * w + w = suc-mul (suc j) w in
      let next : shown + suc j ≡ suc shown + j = omega arith in
      let all : w + (budget - w) ≡ budget = omega arith in
      rw (suc-add, next) (skip_one (k + more) shown budget (c (suc shown) (omega arith) (omega arith)) (omega arith)
      ∙ (ap (steps_before w) (skip_short k more (suc shown) (budget - w) j (λ l a b. c l (omega arith) (omega arith)) (omega arith) (omega arith) (omega arith))
      ∙ ap (λ m. record { answer = budget_spent; length = suc shown + j; steps = m }) all))

-- As many steps as there are choices say none exactly there
pub conflicting_none : (t : Turnable) → Sound t.given → Conflicting t → (search t (choices_of t) choice_opening).answer ≡ no_packing
conflicting_none t σ c = (conflicts_none t σ c (choices_of t) (le_refl _)).0

-- a search takes a step at least
some_step : (p : Problem) → Sound p → 1 ≤ tree_count p
some_step p σ = go (tree_count p) refl
  where
    go : (n : ℕ) → tree_count p ≡ n → 1 ≤ n
    go zero e = absurd (subst (λ (n : ℕ). Finished (tree_machine p) (steps (tree_machine p) n opening)) e (tree_decides p σ).counts.finished)
    go (suc n) e = omega arith

-- a search of one step that finds nothing begins with a conflict
one_step : (p : Problem) → Sound p → tree_count p ≡ 1 → (FeasiblePacking p → ⊥) → look p [] ≡ conflict
one_step p σ e none = go (look p []) refl
  where
    finished : Ended (status (act (look p []) []))
    finished = subst (λ (n : ℕ). Finished (tree_machine p) (steps (tree_machine p) n opening)) e (tree_decides p σ).counts.finished

    go : (o : Outlook) → look p [] ≡ o → look p [] ≡ conflict
    go conflict d = d
    go complete d = absurd (none (plan p [], starts-feasible p σ [] (tt, d)))
    go fork d = absurd (subst (λ (o : Outlook). Ended (status (act o []))) d finished)

module _ (t : Turnable) (σ : Sound t.given) where
  at_least : (n : ℕ) → n ≤ choice_steps t n
  at_least zero = omega arith
  at_least (suc n) = omega (arith, at_least n, some_step (choice_problem t n) (choice-sound t σ n))

  -- where n choices take no more than n steps, each takes one
  one_each : (n : ℕ) → choice_steps t n ≤ n → (c : ℕ) → c < n → tree_count (choice_problem t c) ≡ 1
  one_each zero h c l = absurd (omega arith)
  one_each (suc n) h c l =
      let more = some_step (choice_problem t n) (choice-sound t σ n) in
      elim (dec_lt c n) [
        | yes k ↦ one_each n (omega (arith, at_least n)) c k
        | no k ↦ let e : c ≡ n = omega arith in rw e (omega (arith, at_least n))
      ]

  pub none_conflicting : (search t (choices_of t) choice_opening).answer ≡ no_packing → Conflicting t
  none_conflicting e c h = elim (tried t σ (choices_of t)) [
    | too_few l a s ↦ absurd (let z : ◌≡◌ {A = ℕ} 0 1 = cc in omega arith)
    | found l a s r f ↦ absurd (let z : ◌≡◌ {A = ℕ} 0 1 = cc in omega arith)
    | refuted l a s r none ↦ elim (run_ends t σ) [
      | ends_packed d path w g f ↦ absurd (none _ f)
      | ends_infeasible g f ↦
          let count : choice_steps t (suc (last_choice t)) ≡ step_count t = sym (count_sums t σ ∙ ap (λ s. choice_steps t (suc s.number)) g) in
          one_step (choice_problem t c) (choice-sound t σ c) (one_each (suc (last_choice t)) (omega arith) c (omega arith))
          (λ x. none _ (choice-fits t c x.0 x.1))
    ]
  ]
