-- What a call comes to, case by case, and that a path that is to be written has room in a note.
use Rattle.std.specs.Prelude.{◌↔◌, ◌≡◌, ◌*◌, ◌≤◌, ◌<◌, Result}
use Rattle.prelude.specs.Names.{Bool, true, false, List, refl, sym, subst, ℕ, arith, eqb, length, eqb-true, eq-eqb}
use Rattle.model.proofs.Below.{and_both}
use Rattle.model.specs.Admits.{Sound}
use Rattle.model.specs.Machine.{steps}
use Rattle.model.specs.Run.{machine, plan_at}
use Rattle.model.specs.Turning.{Turnable, Plan}
use Rattle.refusal.specs.declared.Refusal.{Refusal}
use Rattle.refusal.specs.declared.Refusal.TheVariants.{BadArgument, NotFollowing}
use Rattle.instance.specs.Valid.{valid}
use Rattle.instance.specs.declared.Checkpoint.{Checkpoint}
use Rattle.instance.specs.declared.Instance.{Instance}
use Rattle.instance.specs.declared.Packing.{Packing}
use Rattle.turning.specs.Turned.{turnable_of}
use Rattle.packing.specs.Check.{check_answer, check_number}
use Rattle.tree_paths.proofs.Checkpoints.{value_short}
use Rattle.search.proofs.Claim.{short, CallIs, invalid, not_following, searched, call-is}
use Rattle.opening.proofs.Sound.{valid-sound}
use Rattle.tree_paths.specs.Checkpoints.{checkpoint_of, value_of}
use Rattle.search.specs.declared.answer.Answer.{Answer}
use Rattle.search.specs.declared.answer.Answer.TheVariants.{Packed, Infeasible, BudgetSpent, Refused}
use Rattle.search.specs.declared.answer.SearchResult.{SearchResult}
use Rattle.buffers.specs.Bytes.{packing_in}
use Rattle.buffers.specs.Checkpoints.{checkpoint_in, is_checkpoint}
use Rattle.c_api.specs.Calls.{plan_fits, buffers_fit, instance_checked, note_follows, rewritten, when_packed, instance_searched, PathFits}
use Rattle.c_api.specs.Notes.{Lengths}
use Rattle.model.proofs.Theorems as T
use Rattle.model.specs.Calls as C
use Rattle.search.specs.Results as R

-- buffers of the right lengths: the test and the record agree
pub lengths_exactly : (i : Instance) (note steps plan : List ℕ) → (buffers_fit i note steps plan ≡ true) ↔ Lengths i note steps plan
lengths_exactly i note steps plan = (
  (λ h.
      let (a, b) = and_both (eqb (length note) 275) _ h in
      let (d, e) = and_both (eqb (length steps) 4) (plan_fits i (length plan)) b in
      record { note_is = eqb-true _ _ a; steps_are = eqb-true _ _ d; plan_is = eqb-true _ _ e }),
  (λ l. rw (eq-eqb _ _ l.note_is, eq-eqb _ _ l.steps_are, eq-eqb _ _ l.plan_is)),
)

module _ (i : Instance) (note : List ℕ) (allowance : ℕ) (steps plan : List ℕ) where
  pub wrong_lengths : buffers_fit i note steps plan ≡ false
      → instance_searched i note allowance steps plan ≡ R.result_refused BadArgument (checkpoint_in note)
  unfolding instance_searched
  wrong_lengths h = rw h

  pub no-checkpoint : buffers_fit i note steps plan ≡ true → is_checkpoint note ≡ false
      → instance_searched i note allowance steps plan ≡ R.result_refused NotFollowing (checkpoint_in note)
  unfolding instance_searched note_follows
  no-checkpoint h k = rw (h, k)

  pub as_searched : valid i ≡ true → buffers_fit i note steps plan ≡ true → is_checkpoint note ≡ true
      → instance_searched i note allowance steps plan ≡ R.search_result i (checkpoint_in note) allowance
  unfolding instance_searched note_follows R.search_result
  as_searched v h k = rw (v, h, k)

-- "A row of turns has at most .. entries": what is written of a result fits a note
module _ (i : Instance) (v : valid i ≡ true) (long : length i.items ≡ 10) where
  abbrev t : Turnable
  t = turnable_of i

  sound : Sound t.given
  unfolding turnable_of
  sound = valid-sound i v long

  fits : (a : C.Answer Plan) (n : ℕ) → n ≤ 270 → PathFits (R.answer_of a) n
  fits C.budget_spent n h = h
  fits C.no_packing n h = h
  fits (C.packing q) n h = h

  -- the path of a result fits
  abbrev Fit : SearchResult → Type 0
  Fit r = PathFits r.answer r.checkpoint.length

  pub path_fits : (c : Checkpoint) (budget : ℕ) → PathFits (R.search_result i c budget).answer (R.search_result i c budget).checkpoint.length
  unfolding R.result_refused R.result_of
  path_fits c budget = go (call-is i c budget)
    where
      go : CallIs i c budget (R.search_result i c budget) → Fit (R.search_result i c budget)
      go (invalid d r) = subst Fit (sym r) tt
      go (not_following d n r) = subst Fit (sym r) tt
      go (searched d φ r) =
          let end = steps (machine t) budget (checkpoint_of c) in
          let f = T.reached-follows t sound budget (checkpoint_of c) φ.follows in
          let s = value_short end.number end.state (short t sound end f) in
          subst Fit (sym r) (fits (C.answer_at (machine t) (plan_at t) end) (value_of end).length s)

-- the check of a plan of the right length
pub checked-is : (i : Instance) (plan : List ℕ) (q : Packing) (r : Result Bool Refusal) → length plan ≡ 7 * i.item_count
    → q ≡ packing_in plan → r ≡ check_answer i q → check_number r ≡ check_number (instance_checked i plan)
checked-is i plan q r h e k = rw (eq-eqb _ _ h, ← e, k)

-- What is written, by the answer's number: 1 is placed, 100 and above are a refusal's numbers
pub plan-placed : (a : Answer) (old new : List ℕ) → R.answer_number a ≡ 1 → new ≡ when_packed a old new
plan-placed BudgetSpent old new e = absurd (omega arith)
plan-placed Packed old new e = refl
plan-placed Infeasible old new e = absurd (omega arith)
plan-placed (Refused r) old new e = absurd (omega arith)

pub plan-kept : (a : Answer) (old new : List ℕ) → (R.answer_number a ≡ 1 → ⊥) → old ≡ when_packed a old new
plan-kept BudgetSpent old new n = refl
plan-kept Packed old new n = absurd (n refl)
plan-kept Infeasible old new n = refl
plan-kept (Refused r) old new n = refl

pub not_refused : (a : Answer) (old new : List ℕ) → R.answer_number a < 100 → new ≡ rewritten a old new
not_refused BudgetSpent old new h = refl
not_refused Packed old new h = refl
not_refused Infeasible old new h = refl
not_refused (Refused r) old new h = absurd (omega arith)

pub path_room : (a : Answer) (n : ℕ) → PathFits a n → R.answer_number a < 100 → n ≤ 270
path_room BudgetSpent n f h = f
path_room Packed n f h = f
path_room Infeasible n f h = f
path_room (Refused r) n f h = absurd (omega arith)

-- "Every refusal leaves lent buffers untouched"
pub refused-keeps : (a : Answer) (x y z x' y' z' : List ℕ) → 100 ≤ R.answer_number a
    → (rewritten a x x' ≡ x) × (rewritten a y y' ≡ y) × (when_packed a z z' ≡ z)
refused-keeps BudgetSpent x y z x' y' z' e = absurd (omega arith)
refused-keeps Packed x y z x' y' z' e = absurd (omega arith)
refused-keeps Infeasible x y z x' y' z' e = absurd (omega arith)
refused-keeps (Refused r) x y z x' y' z' e = (refl, refl, refl)
