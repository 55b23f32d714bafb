-- What one call and every list of calls come to, in values, from the contract of `search`: its result is `search_result`.
-- An instance's array of items holds ten, as every value of the type does.
use Rattle.std.specs.Prelude.{◌&&◌, ◌↔◌, ◌≡◌, ◌+◌, ◌≤◌, ◌<◌}
use Rattle.prelude.specs.Names.{Bool, true, false, List, refl, sym, ap, ◌∙◌, subst, ℕ, arith, length, get_or, ltb, lt-ltb}
use Rattle.model.proofs.Below.{and_intro, and_both, clash, test_false}
use Rattle.model.proofs.Lists.{all-refused}
use Rattle.model.proofs.Turning.{choice-sound, marks-sound, turned_same}
use Rattle.model.specs.Admits.{Sound}
use Rattle.model.specs.Lists.{Reaches, call_served, Serves, AllRefused}
use Rattle.model.specs.Machine.{steps, taken}
use Rattle.model.specs.Problem.{Problem}
use Rattle.model.specs.Series.{stage}
use Rattle.model.specs.Turning.{Turnable, turned, choice_problem, Plan, Fits}
use Rattle.model.specs.Run.{look, ChoiceCheckpoint, choice_opening, machine, plan_at, search, ChoiceFollows, choice_follows}
use Rattle.refusal.specs.declared.Refusal.TheVariants.{InvalidInstance, NotFollowing}
use Rattle.instance.specs.Meaning.{problem_of, positions_of}
use Rattle.instance.specs.Valid.{valid}
use Rattle.instance.specs.Values.{opening_checkpoint, origin_packing}
use Rattle.instance.specs.declared.Checkpoint.{Checkpoint}
use Rattle.instance.specs.declared.Instance.{Instance}
use Rattle.instance.specs.declared.Packing.{Packing}
use Rattle.turning.specs.Turned.{turnable_of, is_turned, mark_of, marks_in}
use Rattle.turning.proofs.Ten.{each_at}
use Rattle.turning.proofs.Problems.{mark_back, mark_small}
use Rattle.tree_search.proofs.Positions.{positions-back, feasible-same}
use Rattle.search.specs.Calls.{values}
use Rattle.tree_paths.specs.Checkpoints.{checkpoint_of, well_formed, following, Following, branches_of, value_at, value_of}
use Rattle.search.specs.Results.{answer_number, answer_of, marks_list, packing_of, packing_with, result_of, result_refused, result_if, search_result}
use Rattle.search.specs.Results.{SearchFault}
use Rattle.search.specs.Results.{nine, ten}
use Rattle.search.specs.declared.answer.SearchResult.{SearchResult}
use Rattle.tree_paths.proofs.Checkpoints.{Short, checkpoint-back, value-well_formed}
use Rattle.opening.proofs.Sound.{valid-sound}
use Rattle.model.proofs.Theorems as T
use Rattle.model.specs.Calls as C
use Rattle.model.specs.Search as S

-- the value of the opening checkpoint
pub opening-value : value_of choice_opening ≡ opening_checkpoint
unfolding value_at branches_of opening_checkpoint
opening-value = refl

-- the test of a checkpoint says yes exactly when it follows
pub following_exactly : (t : Turnable) (c : Checkpoint) → (following t c ≡ true) ↔ Following t c
unfolding following
following_exactly t c = (
  (λ h. let (w, f) = and_both (well_formed c) (choice_follows t (checkpoint_of c)) h in
      record { is_well_formed = w; follows = (T.follows_exactly t (checkpoint_of c)).0 f }),
  (λ φ. and_intro φ.is_well_formed ((T.follows_exactly t (checkpoint_of c)).1 φ.follows)),
)

-- a checkpoint that follows has a path of at most 270 branches, and its value follows
module _ (t : Turnable) (σ : Sound t.given) (s : ChoiceCheckpoint) (f : ChoiceFollows t s) where
  pub short : Short s.state
  short = go s.state f.follows
    where
      p : Problem
      p = choice_problem t s.number

      go : (κ : S.Checkpoint) → S.Follows (look p) κ → Short κ
      go (S.open_at path) f = T.path_270 p (choice-sound t σ s.number) path f
      go S.infeasible f = tt
      go (S.packed_at path) f = T.path_270 p (choice-sound t σ s.number) path f.0

  pub held-follows : Following t (value_of s)
  held-follows = record {
    is_well_formed = value-well_formed s.number s.state short;
    follows = subst (ChoiceFollows t) (sym (checkpoint-back s short)) f;
  }

-- an answer of the model is no refusal
pub answer-small : (a : C.Answer Plan) → answer_number (answer_of a) < 100
answer-small C.budget_spent = omega arith
answer-small C.no_packing = omega arith
answer-small (C.packing q) = omega arith

pub answered_small : (t : Turnable) (r : C.Result ChoiceCheckpoint Plan) → answer_number (result_of t r).answer < 100
unfolding result_of
answered_small t r = answer-small r.answer

-- One call by the table: it is refused with 9, or with 10, or it is the search's
pub data CallIs (i : Instance) (c : Checkpoint) (budget : ℕ) (r : SearchResult) : Type 0 where
  invalid : valid i ≡ false → r ≡ result_refused InvalidInstance c → CallIs i c budget r
  not_following : valid i ≡ true → (Following (turnable_of i) c → ⊥) → r ≡ result_refused NotFollowing c → CallIs i c budget r
  searched : valid i ≡ true → Following (turnable_of i) c → r ≡ result_of (turnable_of i) (search (turnable_of i) budget (checkpoint_of c))
      → CallIs i c budget r

module _ (i : Instance) (c : Checkpoint) (budget : ℕ) where
  abbrev result : SearchResult
  result = search_result i c budget

  -- the search's own
  abbrev own : SearchResult
  own = result_of (turnable_of i) (search (turnable_of i) budget (checkpoint_of c))

  pub call-is : CallIs i c budget (search_result i c budget)
  unfolding search_result
  call-is = go (valid i) (following (turnable_of i) c) refl refl
    where
      go : (v f : Bool) → valid i ≡ v → following (turnable_of i) c ≡ f → CallIs i c budget (result_if (valid i) (turnable_of i) c budget)
      go false f d e = invalid d (rw d)
      go true false d e = not_following d (λ φ. clash ((following_exactly (turnable_of i) c).1 φ) e) (rw (d, e))
      go true true d e = searched d ((following_exactly (turnable_of i) c).0 e) (rw (d, e))

  -- a call on a checkpoint that follows is refused for nothing
  pub served_is : valid i ≡ true → Following (turnable_of i) c → result ≡ own
  served_is v φ = elim call-is [ invalid d r ↦ absurd (clash v d) | not_following d n r ↦ absurd (n φ) | searched d f r ↦ r ]

  code : {r : SearchResult} → result ≡ r → answer_number result.answer ≡ answer_number r.answer
  code e = ap (λ (x : SearchResult). answer_number x.answer) e

  own-small : answer_number own.answer < 100
  own-small = answered_small (turnable_of i) (search (turnable_of i) budget (checkpoint_of c))

  fault-code : {n : ℕ} → SearchFault i c n → answer_number result.answer ≡ 100 + n
  unfolding search_result result_refused
  fault-code (nine v k) = rw (v, k)
  fault-code (ten v h k) = rw (v, test_false _ (following_exactly (turnable_of i) c) h, k)

  -- "A call that meets no condition of the table is not refused", and any other gets its number
  pub refuses : (n : ℕ) → (answer_number (search_result i c budget).answer ≡ 100 + n) ↔ SearchFault i c n
  unfolding result_refused
  refuses n = (
    (λ e. elim call-is [
      | invalid d r ↦ nine d (omega (arith, code r))
      | not_following d f r ↦ ten d f (omega (arith, code r))
      | searched d φ r ↦ absurd (omega (arith, code r, own-small))
    ]),
    fault-code,
  )

  -- "a refused search hands its note back with 0 steps", and "all ten are 0": 100 and above are a refusal's numbers
  pub handed_back : 100 ≤ answer_number (search_result i c budget).answer → let r = search_result i c budget in
      (r.checkpoint ≡ c) × (r.steps ≡ 0) × (r.packing ≡ origin_packing)
  unfolding result_refused
  handed_back h = elim call-is [
    | invalid d r ↦ (rw r, rw r, rw r)
    | not_following d f r ↦ (rw r, rw r, rw r)
    | searched d φ r ↦ absurd (omega (arith, code r, own-small))
  ]

-- The packing of a plan that fits fits: it has the plan's starts and marks at its items
module _ (t : Turnable) (σ : Sound t.given) (q : Plan) where
  abbrev value : Packing
  value = packing_of t q

  pub mark_at : (u : ℕ) → u < t.given.items → get_or value.marks u 0 ≡ mark_of (q.marks u)
  unfolding packing_of marks_list
  mark_at u h = each_at (λ u. mark_of (ltb u t.given.items && q.marks u)) u 0 (omega (arith, σ.limited)) ∙ rw (lt-ltb u t.given.items h)

  turned_at : (u : ℕ) → u < t.given.items → marks_in value.marks u ≡ q.marks u
  turned_at u h = ap is_turned (mark_at u h) ∙ mark_back (q.marks u)

  pub packing-fits : Fits t q → Fits t (record { positions = positions_of (packing_of t q); marks = marks_in (packing_of t q).marks })
  unfolding packing_of positions_of
  packing-fits f = record {
    allowed = λ u h e. f.allowed u h (sym (turned_at u h) ∙ e);
    feasible = turned_same t.given σ q.marks (marks_in value.marks) (λ u h. sym (turned_at u h)) (positions_of value)
        (feasible-same (turned t.given q.marks) (marks-sound t.given q.marks σ) q.positions (positions_of value)
        (positions-back t.given σ.limited q.positions) f.feasible);
  }

module _ (i : Instance) (v : valid i ≡ true) (long : length i.items ≡ 10) where
  abbrev t : Turnable
  t = turnable_of i

  sound : Sound t.given
  unfolding turnable_of
  sound = valid-sound i v long

  -- a call on the value of a checkpoint that follows is the model's
  pub call-held : (s : ChoiceCheckpoint) → ChoiceFollows t s → (budget : ℕ) → search_result i (value_of s) budget ≡ result_of t (search t budget s)
  call-held s f budget =
      served_is i (value_of s) budget v (held-follows t sound s f)
      ∙ ap (λ (s : ChoiceCheckpoint). result_of t (search t budget s)) (checkpoint-back s (short t sound s f))

  reaches : (m n : ℕ) (s : ChoiceCheckpoint) (c : ℕ) (κ : S.Checkpoint) → n ≡ taken (machine t) m s
      → search_result i (value_of s) m ≡ result_of t (record { answer = C.answer_at (machine t) (plan_at t) (stage c κ); steps = n; checkpoint = stage c κ })
      → Reaches (machine t) (values i) m s (stage c κ)
  unfolding result_of
  reaches m n s c (S.open_at path) d e = record { code = rw e; next = rw e; steps = rw e d; plan = rw e }
  reaches m n s c S.infeasible d e = record { code = rw e; next = rw e; steps = rw e d; plan = rw e }
  reaches m n s c (S.packed_at path) d e = record { code = rw e; next = rw e; steps = rw e d; plan = rw e }

  -- what is asked of one call holds of `search`
  pub values_serve : Serves (machine t) (values i) (ChoiceFollows t)
  values_serve = record {
    opens = sym opening-value;
    calls = λ m s f. let e = steps (machine t) m s in call_served refl (reaches m _ s e.number e.state refl (call-held s f m));
  }

  -- placed comes with a packing that fits, whatever checkpoint was handed in, and with marks of 0 and 1
  pub placed-is : (c : Checkpoint) (budget : ℕ) → answer_number (search_result i c budget).answer ≡ 1
      → (q : Plan) × Fits t q × ((search_result i c budget).packing ≡ packing_of t q)
  unfolding result_refused result_of
  placed-is c budget e = elim (call-is i c budget) [
    | invalid d r ↦ absurd (omega (arith, code i c budget r))
    | not_following d n r ↦ absurd (omega (arith, code i c budget r))
    | searched d φ r ↦
        let end = steps (machine t) budget (checkpoint_of c) in
        let f = T.reached-follows t sound budget (checkpoint_of c) φ.follows in
        let (q, g, w) = fits end.number end.state f (sym (code i c budget r) ∙ e) in
        (q, g, ap (λ (x : SearchResult). x.packing) r ∙ w)
  ]
    where
      fits : (n : ℕ) (κ : S.Checkpoint) → ChoiceFollows t (stage n κ) → answer_number (answer_of (C.answer_at (machine t) (plan_at t) (stage n κ))) ≡ 1
          → (q : Plan) × Fits t q × (packing_with t (C.answer_at (machine t) (plan_at t) (stage n κ)) ≡ packing_of t q)
      fits n (S.open_at path) f e = absurd (omega arith)
      fits n S.infeasible f e = absurd (omega arith)
      fits n (S.packed_at path) f e = (plan_at t (stage n (S.packed_at path)), T.packed-fits t sound n path f, refl)

  pub placed_fits : (c : Checkpoint) (budget : ℕ) → answer_number (search_result i c budget).answer ≡ 1
      → Fits t (record { positions = positions_of (search_result i c budget).packing; marks = marks_in (search_result i c budget).packing.marks })
  placed_fits c budget e = let (q, f, w) = placed-is c budget e in
      subst (λ (x : Packing). Fits t (record { positions = positions_of x; marks = marks_in x.marks })) (sym w) (packing-fits t sound q f)

  pub placed-marks : (c : Checkpoint) (budget : ℕ) → answer_number (search_result i c budget).answer ≡ 1 → (u : ℕ) → u < i.item_count
      → get_or (search_result i c budget).packing.marks u 0 ≤ 1
  unfolding turnable_of problem_of
  placed-marks c budget e u h = let (q, f, w) = placed-is c budget e in
      omega (arith, ap (λ (x : Packing). get_or x.marks u 0) w, mark_at t sound q u h, mark_small (q.marks u))

-- 0 is the number of "spent" alone, 1 of "placed", 2 of "none"
pub zero-is-spent : (a : C.Answer Plan) → answer_number (answer_of a) ≡ 0 → a ≡ C.budget_spent
zero-is-spent C.budget_spent e = refl
zero-is-spent C.no_packing e = absurd (omega arith)
zero-is-spent (C.packing q) e = absurd (omega arith)

pub one_is-packed : (a : C.Answer Plan) → answer_number (answer_of a) ≡ 1 → (q : Plan) × (a ≡ C.packing q)
one_is-packed C.budget_spent e = absurd (omega arith)
one_is-packed C.no_packing e = absurd (omega arith)
one_is-packed (C.packing q) e = (q, refl)

pub two_is-none : (a : C.Answer Plan) → answer_number (answer_of a) ≡ 2 → a ≡ C.no_packing
two_is-none C.budget_spent e = absurd (omega arith)
two_is-none C.no_packing e = refl
two_is-none (C.packing q) e = absurd (omega arith)

-- "spent has taken exactly the allowance", whatever checkpoint was handed in
pub spent_exactly : (i : Instance) (c : Checkpoint) (budget : ℕ) → answer_number (search_result i c budget).answer ≡ 0
    → (search_result i c budget).steps ≡ budget
unfolding result_refused result_of
spent_exactly i c budget e = elim (call-is i c budget) [
  | invalid d r ↦ absurd (omega (arith, code i c budget r))
  | not_following d n r ↦ absurd (omega (arith, code i c budget r))
  | searched d φ r ↦ rw r (T.spent_exactly (turnable_of i) budget (checkpoint_of c) (zero-is-spent _ (sym (code i c budget r) ∙ e)))
]

-- "on a refused sheet every call is refused, and the note stays the opening one": 109 is 9's
pub every_call_refused : (i : Instance) → valid i ≡ false → (budgets : List ℕ) → AllRefused (values i) 109 budgets
unfolding search_result result_refused
every_call_refused i v = all-refused (values i) 109 (λ m c. rw v) (λ m c. rw v)
