-- A call by the table of refusals: there is a fault, and the call's number is 100 more than the fault's, or nothing is refused, and its
-- number is less.
use Rattle.std.specs.Prelude.{◌≡◌, ◌⊎◌, ◌↔◌, ◌+◌, ◌<◌}
use Rattle.prelude.specs.Names.{subst, inl, inr, ℕ, arith}

module _
    (code : ℕ) (Fault : ℕ → Type 0) {Served : Type 0} (table : ((n : ℕ) × Fault n) ⊎ Served)
    (fault-code : (n : ℕ) → Fault n → code ≡ 100 + n) (small : Served → code < 100)
  where
    -- "nothing else is refused"
    pub refuses_by_table : (n : ℕ) → (code ≡ 100 + n) ↔ Fault n
    refuses_by_table n = ((λ e. fore e table), fault-code n)
      where
        fore : code ≡ 100 + n → ((m : ℕ) × Fault m) ⊎ Served → Fault n
        fore e (inl (m, φ)) = let same : m ≡ n = omega (arith, fault-code m φ) in subst Fault same φ
        fore e (inr σ) = absurd (omega (arith, small σ))

    -- what holds wherever nothing is refused holds of a call with a number below 100
    pub served_by_table : {A : Type 0} → code < 100 → (Served → A) → A
    served_by_table {A} l f = go table
      where
        go : ((m : ℕ) × Fault m) ⊎ Served → A
        go (inl (m, φ)) = absurd (omega (arith, fault-code m φ))
        go (inr σ) = f σ
