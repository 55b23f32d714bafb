-- Split runs agree with the one run: the claim about every list of calls, for whoever serves each call by the machine's steps.
use Rattle.std.specs.Prelude.{◌∷◌, ◌↔◌, ◌≡◌, ◌+◌, ◌-◌, ◌≤◌, ◌<◌}
use Rattle.prelude.specs.Names.{List, [], refl, sym, ap, ◌∙◌, subst, ℕ, min, dec_lt, add_assoc, add-zero, zero-add}
use Rattle.prelude.specs.Names.{arith, lt-ltb, le-ltb}
use Rattle.model.specs.Machine.{Status, running, failed, succeeded, Machine, Ended, steps, Count, Invariant}
use Rattle.model.specs.Lists.{Service, status_number, held_from, held, added, budget_sum, returned_code, returned_plan, plan_by, Right, Claim}
use Rattle.model.specs.Lists.{Served, call_refused, call_served, Serves, AllRefused}
use Rattle.model.proofs.Below.{clash}
use Rattle.model.proofs.Machine.{running_is, steps_add, past-count, count-later, taken_is, steps_keep}

-- The numbers of answers

number_small : (s : Status) → status_number s < 100
number_small running = omega arith
number_small failed = omega arith
number_small succeeded = omega arith

ended_not-zero : (s : Status) → Ended s → status_number s ≡ 0 → ⊥
ended_not-zero running = λ f e. f
ended_not-zero failed = λ f e. omega arith
ended_not-zero succeeded = λ f e. omega arith

-- no state but a placed one has a plan
unplanned : {S C X P : Type 0} (w : Service S C X P) (c : C) (κ : S) (s : Status) → (status_number s ≡ 1 → ⊥) → plan_by w c κ s ≡ w.no_plan c
unplanned w c κ running = λ n. refl
unplanned w c κ failed = λ n. refl
unplanned w c κ succeeded = λ n. absurd (n refl)

module _ {S C X P : Type 0} (M : Machine S) (Follows : S → Type 0) (ι : Invariant M Follows) (w : Service S C X P) (υ : Serves M w Follows)
    (count : ℕ) (k : Count M M.opening count) where
  -- the run after s steps
  abbrev at : ℕ → S
  at s = steps M s M.opening

  abbrev budget-of : C → X → ℕ
  budget-of c x = w.budget c

  later-at : (s i : ℕ) → steps M i (at s) ≡ at (s + i)
  later-at s i = sym (steps_add M s i M.opening)

  call_at : (s : ℕ) (c : C) → Served M w c (at s)
  call_at s c = υ.calls c (at s) (steps_keep M Follows ι s M.opening ι.opens)

  -- a list that starts where the run is after s steps
  record From (s : ℕ) (x : X) (cs : List C) : Type 0 where
    checkpoint : held_from w x cs ≡ w.hold (at (s + added w budget-of x cs))
    total : min s count + added w w.steps x cs ≡ min (s + added w budget-of x cs) count

  from : (cs : List C) (s : ℕ) → From s (w.hold (at s)) cs
  from [] s = record { checkpoint = rw add-zero refl; total = omega arith }
  from (c ∷ cs) s = elim (call_at s c) [
    | call_refused a l e ↦ record {
      checkpoint = rw (e, le-ltb _ 100 l, zero-add) (from cs s).checkpoint;
      total = rw (e, le-ltb _ 100 l) (omega (arith, (from cs s).total));
    }
    | call_served a γ ↦
        let l = lt-ltb (w.code c (w.hold (at s))) 100 (omega (arith, γ.code, number_small (M.status (steps M (w.budget c) (at s))))) in
        let m = taken_is M (w.budget c) (count - s) (at s) (count-later M s count M.opening k) in
        let n = γ.next ∙ ap w.hold (later-at s (w.budget c)) in
        let next = from cs (s + w.budget c) in
        record { checkpoint = rw (n, l, ← add_assoc) next.checkpoint; total = rw (n, l) (omega (arith, γ.steps, next.total)) }
  ]

  -- from the opening
  whole : (cs : List C) → From 0 w.opening cs
  whole cs = subst (λ (x : X). From 0 x cs) (sym υ.opens) (from cs 0)

  -- after a list the note holds the run after as many steps as the sum
  pub held-is : (cs : List C) → held w cs ≡ w.hold (at (budget_sum w cs))
  held-is cs = rw zero-add at (whole cs).checkpoint

  past_the_count : (s : ℕ) → count ≤ s → at s ≡ at count
  past_the_count s = past-count M M.opening count s k

  lesser : (s : ℕ) → at s ≡ at (min s count)
  lesser s = elim (dec_lt s count) [
    | yes h ↦ let e : min s count ≡ s = omega arith in rw e
    | no h ↦ let e : min s count ≡ count = omega arith in rw e (past_the_count s (omega arith))
  ]

  spent_when : (s : ℕ) → (status_number (M.status (at s)) ≡ 0) ↔ (s < count)
  spent_when s = (
    elim (dec_lt s count) [
      | yes h ↦ λ e. h
      | no h ↦ λ e. absurd (ended_not-zero (M.status (at count)) k.finished (rw (past_the_count s (omega arith)) at e))
    ],
    λ h. ap status_number (running_is (M.status (at s)) (k.before s h)),
  )

  -- a call after a list is refused and the note stays, or it answers as the run after so many steps
  call-right : (earlier : List C) (c : C) → Right M w count earlier c
  call-right earlier c = elim (call_at (budget_sum w earlier) c) [
    | call_refused a l e ↦
        let r : 100 ≤ returned_code w earlier c = rw (returned_code, held-is earlier) l in
        record {
          not_refused = ((λ h. absurd (omega arith)), (λ h. absurd (clash h a)));
          unchanged = λ h. rw (held-is earlier) e;
          spent = λ h. absurd (omega arith);
          answer = λ h. absurd (omega arith);
          plan = λ h. absurd (omega arith);
          no_plan = λ h. absurd (omega arith);
        }
    | call_served a γ ↦
        let there : ℕ = budget_sum w earlier + w.budget c in
        let μ = later-at (budget_sum w earlier) (w.budget c) in
        let code : returned_code w earlier c ≡ status_number (M.status (at there)) = cc (held-is earlier, μ, γ.code) in
        let plan : returned_plan w earlier c ≡ plan_by w c (at there) (M.status (at there)) = cc (held-is earlier, μ, γ.plan) in
        let l : returned_code w earlier c < 100 = omega (arith, number_small (M.status (at there))) in
        record {
          not_refused = ((λ h. a), (λ h. l));
          unchanged = λ h. absurd (omega arith);
          spent = λ h. rw code (spent_when there);
          answer = λ h g. code ∙ rw (past_the_count there g);
          plan = λ h g. plan ∙ rw (past_the_count there g);
          no_plan = λ h n. plan ∙ unplanned w c (at there) (M.status (at there)) (λ e. n (code ∙ e));
        }
  ]

  -- the claim about every list of calls
  pub claim : (calls : List C) → Claim M w count calls
  claim calls = record {
    checkpoint = held-is calls ∙ ap w.hold (lesser (budget_sum w calls));
    total = omega (arith, (whole calls).total);
    each = λ earlier c later e. call-right earlier c;
  }

-- where every call is refused with one number, and leaves the note
module _ {S C X P : Type 0} (w : Service S C X P) (code : ℕ) (refuses : (c : C) (x : X) → w.code c x ≡ code) (keeps : (c : C) (x : X) → w.next c x ≡ x) where
  stays : (cs : List C) (x : X) → held_from w x cs ≡ x
  stays [] x = refl
  stays (c ∷ cs) x = rw (keeps c x) (stays cs x)

  pub all-refused : (calls : List C) → AllRefused w code calls
  all-refused calls = record { each = λ earlier c later e. refuses c (held w earlier); checkpoint = stays calls w.opening }
