-- The mission's third demand holds: for whoever serves calls by the search, so in values and on bytes.
use Rattle.std.specs.Prelude.{◌∷◌, ◌++◌, ◌↔◌, ◌≡◌, ◌+◌, ◌≤◌, ◌<◌}
use Rattle.prelude.specs.Names.{Bool, true, false, List, [], refl, sym, ap, ◌∙◌, ℕ, dec_lt, arith, get_or}
use Rattle.model.specs.Admits.{Sound}
use Rattle.model.specs.Branching.{Branch}
use Rattle.model.specs.Lists.{Service, status_number, budget_sum, returned_code, returned_plan, plan_by, Right, Serves}
use Rattle.model.specs.Machine.{steps}
use Rattle.model.specs.Series.{stage}
use Rattle.model.specs.Turning.{Turnable, last_choice, Plan, Fits}
use Rattle.model.specs.Run.{ChoiceCheckpoint, choice_opening, machine, plan_at, run_end, step_count, ChoiceFollows}
use Rattle.formats.specs.Reading.{Bytes}
use Rattle.instance.specs.Meaning.{problem_of}
use Rattle.instance.specs.Reads.{Reads, Full}
use Rattle.instance.specs.Valid.{valid}
use Rattle.instance.specs.declared.Checkpoint.{Checkpoint}
use Rattle.instance.specs.declared.Instance.{Instance}
use Rattle.turning.proofs.Problems.{mark_small}
use Rattle.turning.specs.Turned.{turnable_of, plan_of}
use Rattle.packing.proofs.Decides.{yes_fits, fits-yes}
use Rattle.packing.specs.Check.{check_answer, check_number}
use Rattle.opening.proofs.Sound.{valid-sound}
use Rattle.search.specs.Calls.{values}
use Rattle.search.specs.Results.{answer_number, packing_of, search_result, nine}
use Rattle.buffers.specs.Bytes.{packing_in}
use Rattle.c_api.proofs.Plans.{reads_one, reads-sound, yes_exactly, placed_checks}
use Rattle.c_api.specs.Calls.{check_code}
use Rattle.c_api.specs.Lists.{on_bytes}
use Rattle.demands.specs.Demand3.{run_number, SearchDemand, Demand3}
use Rattle.instance.proofs.Readings.{decode_refuses}
use Rattle.model.proofs.Theorems as T
use Rattle.model.specs.Search as S
use Rattle.search.proofs.Claim as Values
use Rattle.c_api.proofs.Claim as OnBytes
use Rattle.c_api.proofs.Faults as Faults

-- 2 is the number of "none" alone
packed-not_two : (c : ℕ) (path : List Branch) {s : ChoiceCheckpoint} → s ≡ stage c (S.packed_at path) → status_number (S.status s.state) ≡ 2 → ⊥
packed-not_two c path e z = omega (arith, ap (λ (s : ChoiceCheckpoint). status_number (S.status s.state)) e)

module _ {C X P : Type 0} (t : Turnable) (σ : Sound t.given) (w : Service ChoiceCheckpoint C X P) (check : P → ℕ)
    (υ : Serves (machine t) w (ChoiceFollows t)) (checks : (s : ChoiceCheckpoint) → Fits t (plan_at t s) → check (w.plan_of s) ≡ 1)
    (plan_fits : (q : P) → check q ≡ 1 → (r : Plan) × Fits t r) where
  -- the end of the run
  abbrev end : ChoiceCheckpoint
  end = steps (machine t) (step_count t) choice_opening

  end-run : end ≡ run_end t
  end-run = T.run_after t σ (step_count t) (omega arith)

  infeasible_last : run_number t ≡ 2 → run_end t ≡ stage (last_choice t) S.infeasible
  infeasible_last z = elim (T.run_ends t σ) [
    | T.ends_infeasible e f ↦ e
    | T.ends_packed c path l e f ↦ absurd (packed-not_two c path (end-run ∙ e) z)
  ]

  none_exactly : (run_number t ≡ 2) ↔ ((q : Plan) → Fits t q → ⊥)
  none_exactly = (
    (λ z. (T.infeasible_exactly t σ).0 (infeasible_last z)),
    (λ f. ap (λ (s : ChoiceCheckpoint). status_number (S.status s.state)) (end-run ∙ (T.infeasible_exactly t σ).1 f)),
  )

  -- where the run does not end with none, it is placed, and the check says yes to its plan
  record Placed : Type 0 where
    number : run_number t ≡ 1
    yes : (c : C) → check (plan_by w c end (S.status end.state)) ≡ 1

  placed : (run_number t ≡ 2 → ⊥) → Placed
  placed n = go (T.run_ends t σ)
    where
      go : T.RunEnds t → Placed
      go (T.ends_infeasible e f) = absurd (n (ap (λ (s : ChoiceCheckpoint). status_number (S.status s.state)) (end-run ∙ e)))
      go (T.ends_packed c path l e f) = let d = end-run ∙ e in record { number = rw d; yes = λ _. rw d (checks (stage c (S.packed_at path)) f) }

  call-right : (earlier : List C) (c : C) → Right (machine t) w (step_count t) earlier c
  call-right earlier c = (T.every_list t σ w υ (earlier ++ (c ∷ []))).each earlier c [] refl

  -- a call that is neither refused nor spent answers as the run does
  record AsRun (earlier : List C) (c : C) : Type 0 where
    number : returned_code w earlier c ≡ run_number t
    plan : returned_plan w earlier c ≡ plan_by w c end (S.status end.state)

  as_run : (earlier : List C) (c : C) → 0 < returned_code w earlier c → returned_code w earlier c < 100 → AsRun earlier c
  as_run earlier c l h = go (dec_lt (budget_sum w earlier + w.budget c) (step_count t))
    where
      go : Dec (budget_sum w earlier + w.budget c < step_count t) → AsRun earlier c
      go (yes k) = absurd (omega (arith, ((call-right earlier c).spent h).1 k))
      go (no k) = record { number = (call-right earlier c).answer h (omega arith); plan = (call-right earlier c).plan h (omega arith) }

  call_none : (earlier : List C) (c : C) → returned_code w earlier c ≡ 2 → (q : Plan) → Fits t q → ⊥
  call_none earlier c e = none_exactly.0 (sym (as_run earlier c (omega arith) (omega arith)).number ∙ e)

  call-placed : (earlier : List C) (c : C) → returned_code w earlier c ≡ 1 → check (returned_plan w earlier c) ≡ 1
  call-placed earlier c e =
      let r = as_run earlier c (omega arith) (omega arith) in
      rw r.plan ((placed (λ z. omega (arith, r.number))).yes c)

  search_demand : SearchDemand t w check
  search_demand = record {
    count = T.counted t σ;
    one_count = T.one_count t σ;
    count_sums = T.count_sums t σ;
    earlier_choices = T.earlier_refuted t σ;
    every_list = T.every_list t σ w υ;
    run_none = none_exactly;
    run_placed = λ n. (placed n).number;
    none_last = infeasible_last;
    none_means = call_none;
    none_unchecked = λ earlier c e q y. let (r, f) = plan_fits q y in call_none earlier c e r f;
    nothing_fits = λ f earlier c h l. (call-right earlier c).answer h l ∙ none_exactly.1 f;
    placed_checks = call-placed;
  }

-- In values

module _ (i : Instance) (v : valid i ≡ true) (φ : Full i) where
  abbrev t : Turnable
  t = turnable_of i

  pub sound : Sound t.given
  unfolding turnable_of
  sound = valid-sound i v φ.items_room

  small : (q : Plan) (u : ℕ) → u < i.item_count → get_or (packing_of t q).marks u 0 ≤ 1
  unfolding turnable_of problem_of
  small q u h = omega (arith, Values.mark_at t sound q u h, mark_small (q.marks u))

  pub value-checks : (q : Plan) → Fits t q → check_number (check_answer i (packing_of t q)) ≡ 1
  value-checks q f = fits-yes i (packing_of t q) v (small q) (Values.packing-fits t sound q f)

  in_values : SearchDemand t (values i) (λ q. check_number (check_answer i q))
  in_values =
      search_demand t sound (values i) _ (Values.values_serve i v φ.items_room) (λ s. value-checks (plan_at t s)) (λ q y. (plan_of q, yes_fits i q y))

-- a call that says placed is on a valid instance
placed-valid : (i : Instance) (c : Checkpoint) (budget : ℕ) → answer_number (search_result i c budget).answer ≡ 1
    → (b : Bool) → valid i ≡ b → valid i ≡ true
placed-valid i c budget e true v = v
placed-valid i c budget e false v = absurd (omega (arith, (Values.refuses i c budget 9).1 (nine v refl)))

placed_fits : (i : Instance) → Full i → (c : Checkpoint) (budget : ℕ) → answer_number (search_result i c budget).answer ≡ 1
    → check_number (check_answer i (search_result i c budget).packing) ≡ 1
placed_fits i φ c budget e =
    let v = placed-valid i c budget e (valid i) refl in
    fits-yes i (search_result i c budget).packing v (Values.placed-marks i v φ.items_room c budget e) (Values.placed_fits i v φ.items_room c budget e)

-- On bytes

module _ (sheet : List ℕ) (bytes : Bytes sheet) (r : Reads sheet) where
  bytes_fit : (q : List ℕ) → check_code sheet q ≡ 1 → (a : Plan) × Fits (turnable_of r.instance) a
  bytes_fit q y =
      let (c, f) = (yes_exactly sheet q bytes).0 y in
      (plan_of (packing_in q), rw (reads_one sheet r c.sheet_reads) f)

  in_bytes : SearchDemand (turnable_of r.instance) (on_bytes sheet r.instance) (check_code sheet)
  in_bytes =
      search_demand (turnable_of r.instance) (reads-sound sheet bytes r) (on_bytes sheet r.instance) (check_code sheet)
      (OnBytes.bytes_serve sheet bytes r) (λ s. placed_checks sheet bytes r (plan_at (turnable_of r.instance) s)) bytes_fit

pub demand3 : Demand3
demand3 = record {
  in_values = in_values;
  in_bytes = in_bytes;
  another_length = OnBytes.another_length;
  placed_fits = placed_fits;
  placed_bytes_fit = Faults.placed_fits;
  spent_exactly = Values.spent_exactly;
  spent_bytes_exactly = Faults.spent_exactly;
  refused_values = Values.every_call_refused;
  refused_bytes = λ sheet e f. OnBytes.every_call_refused sheet e ((decode_refuses sheet e).1 f);
}
