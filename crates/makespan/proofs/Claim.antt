-- What a finish comes to in values: it is refused with 9 and for nothing else, and otherwise it is the model's.
use Rattle.std.specs.Prelude.{◌↔◌, ◌≡◌, ◌+◌, ◌≤◌, ◌<◌}
use Rattle.prelude.specs.Names.{Bool, true, false, refl, ap, ℕ, arith}
use Rattle.model.proofs.Below.{clash}
use Rattle.model.specs.Earliest.{earliest_finish}
use Rattle.refusal.specs.declared.Refusal.TheVariants.{InvalidInstance}
use Rattle.turning.specs.Turned.{turnable_of}
use Rattle.instance.specs.Valid.{valid}
use Rattle.instance.specs.Values.{origin_packing}
use Rattle.instance.specs.declared.Instance.{Instance}
use Rattle.search.proofs.Claim.{answer-small}
use Rattle.search.specs.Results.{answer_number}
use Rattle.makespan.specs.Results.{finish_of, finish_refused, finish_result}
use Rattle.makespan.specs.declared.finish.Finish.{Finish}

module _ (i : Instance) (budget : ℕ) where
  pub valid-is : valid i ≡ true → finish_result i budget ≡ finish_of (turnable_of i) (earliest_finish (turnable_of i) budget)
  unfolding finish_result
  valid-is v = rw v

  pub invalid_is : valid i ≡ false → finish_result i budget ≡ finish_refused InvalidInstance
  unfolding finish_result
  invalid_is v = rw v

  -- a finish by the table: 9, or the model's
  abbrev number : Finish → ℕ
  number f = answer_number f.answer

  pub small : valid i ≡ true → answer_number (finish_result i budget).answer < 100
  unfolding finish_of
  small v = omega (arith, ap number (valid-is v), answer-small (earliest_finish (turnable_of i) budget).answer)

  pub finish_refuses : (n : ℕ) → (answer_number (finish_result i budget).answer ≡ 100 + n) ↔ ((valid i ≡ false) × (n ≡ 9))
  unfolding finish_refused
  finish_refuses n = go (valid i) refl
    where
      go : (b : Bool) → valid i ≡ b → (answer_number (finish_result i budget).answer ≡ 100 + n) ↔ ((valid i ≡ false) × (n ≡ 9))
      go true v = ((λ e. absurd (omega (arith, small v))), (λ (f, e). absurd (clash v f)))
      go false v = ((λ e. (v, omega (arith, ap number (invalid_is v)))), (λ (f, e). omega (arith, ap number (invalid_is v))))

  -- a refusal comes with nothing
  pub refused-empty : 100 ≤ answer_number (finish_result i budget).answer → let r = finish_result i budget in
      (r.length ≡ 0) × (r.steps ≡ 0) × (r.packing ≡ origin_packing)
  unfolding finish_refused
  refused-empty h = go (valid i) refl
    where
      go : (b : Bool) → valid i ≡ b → let r = finish_result i budget in (r.length ≡ 0) × (r.steps ≡ 0) × (r.packing ≡ origin_packing)
      go true v = absurd (omega (arith, small v))
      go false v = (rw (invalid_is v), rw (invalid_is v), rw (invalid_is v))
