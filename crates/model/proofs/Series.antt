-- A series of machines ends where the first one succeeds, or where the last fails, and its steps are the sum of theirs. A call on it is a call on the machine
-- that runs, and, where that fails, one on the next from its opening.
use Rattle.std.specs.Prelude.{◌≡◌, ◌+◌, ◌-◌, ◌*◌, ◌≤◌, ◌<◌}
use Rattle.prelude.specs.Names.{refl, sym, ap, ◌∙◌, subst, ℕ, zero, suc, dec_lt, le-ltb, lt-ltb, arith}
use native.Mathlib.Nat.{suc-mul}
use Rattle.model.specs.Below.{sum_below}
use Rattle.model.specs.Machine.{Status, running, failed, succeeded, Machine, Running, Ended, Open, Finished, steps, taken, Count, Invariant}
use Rattle.model.specs.Series.{Stage, stage, stage_by, stage_after, series, StageFollows}
use Rattle.model.proofs.Machine.{ended_not_running, running_is, steps_open, taken_open, finished_stays, finished-takes-none}
use Rattle.model.proofs.Machine.{Way, no_steps, step_then, join, count_way}

-- no sum is above as many times what each is no more than
pub sum_bound : (f : ℕ → ℕ) (w : ℕ) → ((n : ℕ) → f n ≤ w) → (n : ℕ) → sum_below n f ≤ n * w
sum_bound f w h zero = omega arith
sum_bound f w h (suc n) = rw (suc-mul n w) (omega (arith, h n, sum_bound f w h n))

-- a status is one of three
pub by_status : {A : Type 0} (s : Status) → (s ≡ running → A) → (s ≡ failed → A) → (s ≡ succeeded → A) → A
by_status running f g h = f refl
by_status failed f g h = g refl
by_status succeeded f g h = h refl

-- and not two of them
pub failed_succeeded : {s : Status} → s ≡ failed → s ≡ succeeded → ⊥
failed_succeeded e f = let z : ◌≡◌ {A = ℕ} 0 1 = cc in omega arith

-- a machine ends after c steps, failed only where there is no X, and succeeded only where there is one
pub record Decides {S : Type 0} (M : Machine S) (X : Type 0) (c : ℕ) : Type 0 where
  pub opens : Open M M.opening
  pub counts : Count M M.opening c
  pub none : M.status (steps M c M.opening) ≡ failed → X → ⊥
  pub some : M.status (steps M c M.opening) ≡ succeeded → X

-- no number below n has an X
abbrev pub Refuted : (ℕ → Type 0) → ℕ → Type 0
Refuted X n = (m : ℕ) → m < n → X m → ⊥

refuted_next : (X : ℕ → Type 0) (n : ℕ) → Refuted X n → (X n → ⊥) → Refuted X (suc n)
refuted_next X n r f m h x = elim (dec_lt m n) [ yes l ↦ r m l x | no l ↦ let e : m ≡ n = omega arith in f (subst X e x) ]

module _ {S : Type 0} (F : ℕ → Machine S) (last : ℕ) where
  abbrev M : Machine (Stage S)
  M = series F last

  on_running : (n : ℕ) (κ : S) → (F n).status κ ≡ running → stage_after F last n κ ≡ stage n κ
  on_running n κ e = ap (λ (s : Status). stage_by F last s n κ) e

  on_succeeded : (n : ℕ) (κ : S) → (F n).status κ ≡ succeeded → stage_after F last n κ ≡ stage n κ
  on_succeeded n κ e = ap (λ (s : Status). stage_by F last s n κ) e

  on_failed : (n : ℕ) (κ : S) → (F n).status κ ≡ failed → n < last → stage_after F last n κ ≡ stage (suc n) (F (suc n)).opening
  on_failed n κ e h = ap (λ (s : Status). stage_by F last s n κ) e ∙ rw (lt-ltb n last h)

  on_last : (n : ℕ) (κ : S) → (F n).status κ ≡ failed → last ≤ n → stage_after F last n κ ≡ stage n κ
  on_last n κ e h = ap (λ (s : Status). stage_by F last s n κ) e ∙ rw (le-ltb n last h)

  -- One call

  -- where machine n does not fail, or is the last, the call is its own
  pub call-within : (n i : ℕ) (κ : S) → ((F n).status (steps (F n) i κ) ≡ failed → last ≤ n)
      → (steps M i (stage n κ) ≡ stage n (steps (F n) i κ)) × (taken M i (stage n κ) ≡ taken (F n) i κ)
  call-within n zero κ f = (refl, refl)
  call-within n (suc i) κ f = by_status ((F n).status κ)
      (λ e.
      let o : Open (F n) κ = subst Running (sym e) tt in
      let s : steps (F n) (suc i) κ ≡ steps (F n) i ((F n).step κ) = steps_open (F n) i κ o in
      let later = call-within n i ((F n).step κ) (λ d. f (ap (F n).status s ∙ d)) in
      let here = stays ((F n).step κ) (λ d. f (ap (F n).status (s ∙ finished_stays (F n) i ((F n).step κ) (subst Ended (sym d) tt)) ∙ d)) in (
        steps_open M i (stage n κ) o ∙ (ap (steps M i) here ∙ (later.0 ∙ ap (stage n) (sym s))),
        taken_open M i (stage n κ) o ∙ (ap (λ (s : Stage S). suc (taken M i s)) here ∙ (ap suc later.1 ∙ sym (taken_open (F n) i κ o))),
      ))
      (λ e. over (subst Ended (sym e) tt))
      (λ e. over (subst Ended (sym e) tt))
    where
      over : Finished (F n) κ → (steps M (suc i) (stage n κ) ≡ stage n (steps (F n) (suc i) κ)) × (taken M (suc i) (stage n κ) ≡ taken (F n) (suc i) κ)
      over e = (
        finished_stays M (suc i) (stage n κ) e ∙ ap (stage n) (sym (finished_stays (F n) (suc i) κ e)),
        finished-takes-none M (suc i) (stage n κ) e ∙ sym (finished-takes-none (F n) (suc i) κ e),
      )

      stays : (μ : S) → ((F n).status μ ≡ failed → last ≤ n) → stage_after F last n μ ≡ stage n μ
      stays μ g = by_status ((F n).status μ) (on_running n μ) (λ e. on_last n μ e (g e)) (on_succeeded n μ)

  -- where it fails and is not the last, the call goes on with the next
  pub call-onward : (n i : ℕ) (κ : S) → n < last → Open (F n) κ → (F n).status (steps (F n) i κ) ≡ failed
      → let m = taken (F n) i κ in let next = stage (suc n) (F (suc n)).opening in
      (m ≤ i) × (steps M i (stage n κ) ≡ steps M (i - m) next) × (taken M i (stage n κ) ≡ m + taken M (i - m) next)
  call-onward n zero κ h o f = absurd (subst Running f o)
  call-onward n (suc i) κ h o f = by_status ((F n).status μ)
      (λ e.
      let (l, later, count) = call-onward n i μ h (subst Running (sym e) tt) failed_later in
      let j : suc i - taken (F n) (suc i) κ ≡ i - taken (F n) i μ = omega (arith, t) in (
        omega (arith, t),
        first ∙ (ap (steps M i) (on_running n μ e) ∙ (later ∙ ap (λ (j : ℕ). steps M j next) (sym j))),
        omega (arith, t, took, count, ap (taken M i) (on_running n μ e), ap (λ (j : ℕ). taken M j next) j),
      ))
      (λ e.
      let z = finished-takes-none (F n) i μ (subst Ended (sym e) tt) in
      let j : suc i - taken (F n) (suc i) κ ≡ i = omega (arith, t) in (
        omega (arith, t),
        first ∙ (ap (steps M i) (on_failed n μ e h) ∙ ap (λ (j : ℕ). steps M j next) (sym j)),
        omega (arith, t, took, ap (taken M i) (on_failed n μ e h), ap (λ (j : ℕ). taken M j next) j),
      ))
      (λ e. absurd (failed_succeeded failed_later (ap (F n).status (finished_stays (F n) i μ (subst Ended (sym e) tt)) ∙ e)))
    where
      μ : S
      μ = (F n).step κ

      next : Stage S
      next = stage (suc n) (F (suc n)).opening

      failed_later : (F n).status (steps (F n) i μ) ≡ failed
      failed_later = sym (ap (F n).status (steps_open (F n) i κ o)) ∙ f

      t : taken (F n) (suc i) κ ≡ suc (taken (F n) i μ)
      t = taken_open (F n) i κ o

      first : steps M (suc i) (stage n κ) ≡ steps M i (stage_after F last n μ)
      first = steps_open M i (stage n κ) o

      took : taken M (suc i) (stage n κ) ≡ suc (taken M i (stage_after F last n μ))
      took = taken_open M i (stage n κ) o

  -- The run

  -- steps of one machine are steps of the series
  lift : (n : ℕ) {i : ℕ} {κ μ : S} → Way (F n) (suc i) κ μ → Way M (suc i) (stage n κ) (stage_after F last n μ)
  lift n (step_then o no_steps) = step_then o no_steps
  lift n (step_then {κ = κ} o (step_then {i} {μ = μ} r p)) =
      step_then o (subst (λ (s : Stage S). Way M (suc i) s (stage_after F last n μ)) (sym (on_running n ((F n).step κ) (running_is _ r)))
      (lift n (step_then r p)))

  module _ (X : ℕ → Type 0) (c : ℕ → ℕ) (d : (n : ℕ) → Decides (F n) (X n) (c n)) where
    abbrev end : ℕ → S
    end n = steps (F n) (c n) (F n).opening

    -- a machine takes a step at least
    some_steps : (n : ℕ) → (i : ℕ) × (c n ≡ suc i)
    some_steps n = go (c n) refl
      where
        go : (m : ℕ) → c n ≡ m → (i : ℕ) × (m ≡ suc i)
        go zero e = absurd (ended_not_running ((F n).status (F n).opening)
            (subst (λ (m : ℕ). Finished (F n) (steps (F n) m (F n).opening)) e (d n).counts.finished) (d n).opens)
        go (suc i) e = (i, refl)

    through : (n : ℕ) → Way M (c n) (stage n (F n).opening) (stage_after F last n (end n))
    through n =
        let (i, e) = some_steps n in
        subst (λ (m : ℕ). Way M m (stage n (F n).opening) (stage_after F last n (end n))) (sym e)
        (lift n (subst (λ (m : ℕ). Way (F n) m (F n).opening (end n)) e (count_way (F n) (c n) (F n).opening (d n).counts)))

    -- how the series ends: with the machine of a number, after the steps of all up to it
    pub data Ending (n : ℕ) : Type 0 where
      all_failed : n ≡ last → (F n).status (end n) ≡ failed → Refuted X (suc last) → Ending n
      one_succeeded : n ≤ last → (F n).status (end n) ≡ succeeded → X n → Refuted X n → Ending n

    pub record Decided : Type 0 where
      pub number : ℕ
      pub way : Way M (sum_below (suc number) c) M.opening (stage number (end number))
      pub ending : Ending number

    -- from the opening of n on, where no number below it has an X
    module _ (n : ℕ) (w : Way M (sum_below n c) M.opening (stage n (F n).opening)) where
      on-to : {s : Stage S} → stage_after F last n (end n) ≡ s → Way M (sum_below (suc n) c) M.opening s
      on-to e = join M w (subst (Way M (c n) (stage n (F n).opening)) e (through n))

      by_end : n ≤ last → Refuted X n → ((F n).status (end n) ≡ failed → Decided) → Decided
      by_end h r f = by_status ((F n).status (end n))
          (λ e. absurd (ended_not_running ((F n).status (end n)) (d n).counts.finished (subst Running (sym e) tt)))
          f
          (λ e. record { number = n; way = on-to (on_succeeded n (end n) e); ending = one_succeeded h e ((d n).some e) r })

    rest : (k n : ℕ) → n + k ≡ last → Refuted X n → Way M (sum_below n c) M.opening (stage n (F n).opening) → Decided
    rest zero n h r w = by_end n w (omega arith) r (λ e.
        let l : n ≡ last = omega arith in
        record {
          number = n;
          way = on-to n w (on_last n (end n) e (omega arith));
          ending = all_failed l e (subst (λ m. Refuted X (suc m)) l (refuted_next X n r ((d n).none e)));
        })
    rest (suc k) n h r w = by_end n w (omega arith) r (λ e.
        rest k (suc n) (omega arith) (refuted_next X n r ((d n).none e)) (on-to n w (on_failed n (end n) e (omega arith))))

    pub decided : Decided
    decided = rest last 0 (omega arith) (λ m h. absurd (omega arith)) no_steps

  -- what follows does so one step on
  pub stage_invariant : (Inner : ℕ → S → Type 0) → ((n : ℕ) → Invariant (F n) (Inner n)) → ((n : ℕ) → Open (F n) (F n).opening)
      → Invariant M (StageFollows F last Inner)
  stage_invariant Inner ι ω = record { opens = opened 0 (omega arith); keeps = keeps }
    where
      opened : (n : ℕ) → n ≤ last → StageFollows F last Inner (stage n (F n).opening)
      opened n h = record { within = h; follows = (ι n).opens; failed_last = λ e. absurd (subst Running e (ω n)) }

      keeps : (s : Stage S) → Open M s → StageFollows F last Inner s → StageFollows F last Inner (M.step s)
      keeps s o φ = by_status ((F n).status κ)
          (λ e. subst (StageFollows F last Inner) (sym (on_running n κ e)) (stays (λ f. absurd (subst Running (sym e ∙ f) tt))))
          (λ e. elim (dec_lt n last) [
            | yes h ↦ subst (StageFollows F last Inner) (sym (on_failed n κ e h)) (opened (suc n) h)
            | no h ↦ subst (StageFollows F last Inner) (sym (on_last n κ e (omega arith))) (stays (λ _. omega (arith, φ.within)))
          ])
          (λ e. subst (StageFollows F last Inner) (sym (on_succeeded n κ e)) (stays (λ f. absurd (failed_succeeded f e))))
        where
          n : ℕ
          n = s.number

          κ : S
          κ = (F n).step s.state

          stays : ((F n).status κ ≡ failed → n ≡ last) → StageFollows F last Inner (stage n κ)
          stays f = record { within = φ.within; follows = (ι n).keeps s.state o φ.follows; failed_last = f }
