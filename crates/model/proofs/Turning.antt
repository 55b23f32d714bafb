-- Choices are all the ways of turning: each choice is one, and each way has its choice.
use Rattle.std.specs.Prelude.{◌&&◌, ◌⊎◌, ◌≡◌, ◌+◌, ◌-◌, ◌*◌, ◌/◌, ◌%◌, ◌≤◌, ◌<◌}
use Rattle.prelude.specs.Names.{Bool, true, false, cond, inl, inr, refl, sym, ap, ◌∙◌, subst, ℕ, zero, suc}
use Rattle.prelude.specs.Names.{arith, eq-eqb, ne_eqb}
use Rattle.model.specs.Problem.{Problem, Positions, EndsAhead, EndsBefore, Feasible, spacing, time}
use Rattle.model.specs.Domains.{odd}
use Rattle.model.specs.Admits.{Sound}
use Rattle.model.specs.Turning.{Turnable, measured_on, turned, digits_from, marks_of, choice_problem, choice_count, last_choice, Plan, Fits}
use Rattle.model.proofs.Below.{and_both, clash}

-- what every sheet says holds with items turned
same_axes : (b : Bool) (a : ℕ) → a < 3 → measured_on b a < 3
same_axes true zero h = omega arith
same_axes true (suc zero) h = omega arith
same_axes true (suc (suc a)) h = h
same_axes false a h = h

pub marks-sound : (p : Problem) (marks : ℕ → Bool) → Sound p → Sound (turned p marks)
marks-sound p marks σ = record {
  limited = σ.limited;
  positive = λ a u ha hu. σ.positive (measured_on (marks u) a) u (same_axes (marks u) a ha) hu;
  named = σ.named;
}

-- the choice of some marks, by the k items from u on
abbrev number : (ℕ → Bool) → (ℕ → Bool) → ℕ → ℕ → ℕ
number may_turn marks u zero = 0
number may_turn marks u (suc k) = cond (may_turn u) (cond (marks u) 1 0 + 2 * number may_turn marks (suc u) k) (number may_turn marks (suc u) k)

module _ (may_turn marks : ℕ → Bool) where
  digit_le : (b : Bool) → cond b 1 0 ≤ 1
  digit_le true = omega arith
  digit_le false = omega arith

  number_small : (k u : ℕ) → number may_turn marks u k < choice_count may_turn u k
  number_small zero u = omega arith
  number_small (suc k) u = go (may_turn u) (number_small k (suc u))
    where
      go : (b : Bool) → number may_turn marks (suc u) k < choice_count may_turn (suc u) k
          → cond b (cond (marks u) 1 0 + 2 * number may_turn marks (suc u) k) (number may_turn marks (suc u) k)
          < cond b (2 * choice_count may_turn (suc u) k) (choice_count may_turn (suc u) k)
      go true h = omega (arith, digit_le (marks u))
      go false h = h

  -- at each item the digits left are those of the items from it on
  digits-left : (n u k : ℕ) → u + k ≡ n → digits_from may_turn (number may_turn marks 0 n) u ≡ number may_turn marks u k
  digits-left n zero k e = let h : k ≡ n = omega arith in rw h refl
  digits-left n (suc u) k e = go (may_turn u) refl (digits-left n u (suc k) (omega arith))
    where
      go : (b : Bool) → may_turn u ≡ b → digits_from may_turn (number may_turn marks 0 n) u ≡ number may_turn marks u (suc k)
          → cond b (digits_from may_turn (number may_turn marks 0 n) u / 2) (digits_from may_turn (number may_turn marks 0 n) u)
          ≡ number may_turn marks (suc u) k
      go true t h =
          let e : number may_turn marks u (suc k) ≡ cond (marks u) 1 0 + 2 * number may_turn marks (suc u) k = rw t in
          omega (arith, digit_le (marks u))
      go false t h = h ∙ rw t

  odd_digit : (b : Bool) (x : ℕ) → odd (cond b 1 0 + 2 * x) ≡ b
  odd_digit true x = eq-eqb ((1 + 2 * x) % 2) 1 (omega arith)
  odd_digit false x = ne_eqb ((0 + 2 * x) % 2) 1 (λ e. omega arith)

  -- the marks of that choice are these
  pub marks-back : (n u : ℕ) → u < n → (marks u ≡ true → may_turn u ≡ true) → marks_of may_turn (number may_turn marks 0 n) u ≡ marks u
  unfolding marks_of
  marks-back n u h f = go (may_turn u) refl (n - suc u) (omega arith)
    where
      go : (b : Bool) → may_turn u ≡ b → (k : ℕ) → u + suc k ≡ n → (b && odd (digits_from may_turn (number may_turn marks 0 n) u)) ≡ marks u
      go true t k e =
          let r : number may_turn marks u (suc k) ≡ cond (marks u) 1 0 + 2 * number may_turn marks (suc u) k = rw t in
          ap odd (digits-left n u (suc k) e ∙ r) ∙ odd_digit (marks u) _
      go false t k e = sym (absent (marks u) refl)
        where
          absent : (b : Bool) → marks u ≡ b → b ≡ false
          absent true q = absurd (clash (f q) t)
          absent false q = refl

-- marks that agree on the items make the same packings feasible
module _ (p : Problem) (σ : Sound p) (m n : ℕ → Bool) (same : (u : ℕ) → u < p.items → m u ≡ n u) (q : Positions) where
  ahead_same : (a g u v : ℕ) → u < p.items → EndsAhead (turned p m) q a g u v → EndsAhead (turned p n) q a g u v
  unfolding EndsAhead
  ahead_same a g u v h e = subst (λ (b : Bool). q a u + p.size (measured_on b a) u + g ≤ q a v) (same u h) e

  before_same : (a u v : ℕ) → u < p.items → EndsBefore (turned p m) q a u v → EndsBefore (turned p n) q a u v
  unfolding EndsBefore spacing
  before_same a u v h e = ahead_same a _ u v h e

  pub turned_same : Feasible (turned p m) q → Feasible (turned p n) q
  turned_same f = record {
    inside = λ a u ha hu. subst (λ (b : Bool). q a u + p.size (measured_on b a) u ≤ p.capacity a) (same u hu) (f.inside a u ha hu);
    apart = λ u v hu hv h. let (a, ha, s) = f.apart u v hu hv h in (a, ha, either a u v hu hv s);
    ordered = λ o w. ahead_same time o.lag o.predecessor o.successor (σ.named o w).item_u (f.ordered o w);
  }
    where
      either : (a u v : ℕ) → u < p.items → v < p.items → EndsBefore (turned p m) q a u v ⊎ EndsBefore (turned p m) q a v u
          → EndsBefore (turned p n) q a u v ⊎ EndsBefore (turned p n) q a v u
      either a u v hu hv (inl e) = inl (before_same a u v hu e)
      either a u v hu hv (inr e) = inr (before_same a v u hv e)

last_most : (t : Turnable) (c : ℕ) → c < choice_count t.may_turn 0 t.given.items → c ≤ last_choice t
unfolding last_choice
last_most t c h = omega arith

module _ (t : Turnable) where
  -- the choice of a plan's marks
  abbrev plan-choice : Plan → ℕ
  plan-choice q = number t.may_turn q.marks 0 t.given.items

  -- a plan that fits is a feasible packing of some choice
  pub fits-choice : Sound t.given → (q : Plan) → Fits t q → (c : ℕ) × (c ≤ last_choice t) × Feasible (choice_problem t c) q.positions
  fits-choice σ q f = (
    plan-choice q,
    last_most t (plan-choice q) (number_small t.may_turn q.marks t.given.items 0),
    turned_same t.given σ q.marks (marks_of t.may_turn (plan-choice q))
        (λ u h. sym (marks-back t.may_turn q.marks t.given.items u h (f.allowed u h))) q.positions f.feasible,
  )

  -- and the other way round
  pub choice-fits : (c : ℕ) (q : Positions) → Feasible (choice_problem t c) q → Fits t (record { positions = q; marks = marks_of t.may_turn c })
  unfolding marks_of
  choice-fits c q f = record { allowed = λ u h e. (and_both (t.may_turn u) (odd (digits_from t.may_turn c u)) e).0; feasible = f }

  pub choice-sound : Sound t.given → (c : ℕ) → Sound (choice_problem t c)
  choice-sound σ c = marks-sound t.given (marks_of t.may_turn c) σ
