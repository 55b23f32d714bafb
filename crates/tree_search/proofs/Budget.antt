-- Steps within a budget: the rest from here is the whole from the start.
use Rattle.std.specs.Prelude.{◌≡◌, ◌+◌, ◌-◌, ◌≤◌, ◌<◌}
use Rattle.prelude.specs.Names.{List, sym, ◌∙◌, subst, ℕ, suc, sub-zero, arith}
use Rattle.model.proofs.Machine.{finished_stays, finished-takes-none}
use Rattle.model.specs.Branching.{Branch}
use Rattle.model.specs.Machine.{steps, taken, Finished}
use Rattle.model.specs.Search.{Outlook, Checkpoint, open_at, act, searching}

module _ (look : List Branch → Outlook) (budget : ℕ) (start : Checkpoint) where
  -- t steps from the start lead to κ
  pub record Rest (t : ℕ) (κ : Checkpoint) : Type 0 where
    pub within : t ≤ budget
    pub same : steps (searching look) (budget - t) κ ≡ steps (searching look) budget start
    pub count : t + taken (searching look) (budget - t) κ ≡ taken (searching look) budget start

  -- what the whole call comes to
  pub record Comes (t : ℕ) (κ : Checkpoint) : Type 0 where
    pub checkpoint : steps (searching look) budget start ≡ κ
    pub count : taken (searching look) budget start ≡ t

  pub rest-start : Rest 0 start
  rest-start = record { within = omega arith; same = rw sub-zero; count = rw sub-zero (omega arith) }

  -- one step more
  pub rest-next : {t : ℕ} {path : List Branch} {o : Outlook} → Rest t (open_at path) → t < budget → look path ≡ o → Rest (t + 1) (act o path)
  rest-next {t} {path} {o} ρ h e =
      let s : budget - t ≡ suc (budget - (t + 1)) = omega arith in
      let g : steps (searching look) (suc (budget - (t + 1))) (open_at path) ≡ steps (searching look) budget start = rw s at ρ.same in
      let m : t + taken (searching look) (suc (budget - (t + 1))) (open_at path) ≡ taken (searching look) budget start = rw s at ρ.count in
      let n : t + suc (taken (searching look) (budget - (t + 1)) (act o path)) ≡ taken (searching look) budget start =
      subst (λ (x : Outlook). t + suc (taken (searching look) (budget - (t + 1)) (act x path)) ≡ taken (searching look) budget start) e m in
      record {
        within = omega arith;
        same = subst (λ (x : Outlook). steps (searching look) (budget - (t + 1)) (act x path) ≡ steps (searching look) budget start) e g;
        count = omega arith;
      }

  -- a call ends where its checkpoint is finished, or its budget spent
  pub rest-finished : {t : ℕ} {κ : Checkpoint} → Rest t κ → Finished (searching look) κ → Comes t κ
  rest-finished {t} {κ} ρ f = record {
    checkpoint = sym ρ.same ∙ finished_stays (searching look) (budget - t) κ f;
    count = omega (arith, ρ.count, finished-takes-none (searching look) (budget - t) κ f);
  }

  pub rest-spent : {t : ℕ} {κ : Checkpoint} → Rest t κ → budget ≤ t → Comes t κ
  rest-spent {t} {κ} ρ h =
      let z : budget - t ≡ 0 = omega arith in
      let m : t + taken (searching look) 0 κ ≡ taken (searching look) budget start = rw z at ρ.count in
      record { checkpoint = sym (rw z at ρ.same); count = omega arith }
