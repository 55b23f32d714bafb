-- Why following links ends: totals only grow, up to the container's measure, and where none grows the set of items to go on from loses one.
use Rattle.std.specs.Prelude.{◌⊎◌, ◌≡◌, ◌+◌, ◌-◌, ◌*◌, ◌≤◌, ◌<◌}
use Rattle.prelude.specs.Names.{List, inl, inr, ⊎_elim, ℕ, zero, suc, eq-or-lt_of_le, arith, get_or}
use Rattle.chains.specs.Totals.{capacity_at}
use Rattle.chains.specs.Links.{total_at}

-- by how much the totals of the items below n may still grow together
pub room : ℕ → ℕ → ℕ → List ℕ → ℕ
room zero o a t = 0
room (suc n) o a t = room n o a t + (capacity_at t a - total_at t o a n)

module _ (o a : ℕ) (t s : List ℕ) (same : capacity_at s a ≡ capacity_at t a) (up : (i : ℕ) → get_or t i 0 ≤ get_or s i 0) where
  room_le : (n : ℕ) → room n o a s ≤ room n o a t
  unfolding room
  room_le zero = omega arith
  room_le (suc n) = omega (arith, up (o + a * 10 + n), room_le n)

  room-lt : (n u : ℕ) → u < n → total_at t o a u < total_at s o a u → total_at s o a u ≤ capacity_at s a → room n o a s < room n o a t
  unfolding room
  room-lt zero u l less small = absurd (omega arith)
  room-lt (suc n) u l less small = ⊎_elim
      (λ e. let grown : total_at t o a n < total_at s o a n = rw e at less in
      let within : total_at s o a n ≤ capacity_at s a = rw e at small in omega (arith, room_le n))
      (λ b. omega (arith, room-lt n u b less small, up (o + a * 10 + n))) (eq-or-lt_of_le {n = u} {m = n} (omega arith))

  -- items grow, and the set may gain all of them; or none grows, and it loses one
  pub measure_falls : (n todo next : ℕ) → next < 1024
      → ((u : ℕ) × (u < n) × (total_at t o a u < total_at s o a u) × (total_at s o a u ≤ capacity_at s a)) ⊎ (next < todo)
      → room n o a s * 1024 + next < room n o a t * 1024 + todo
  measure_falls n todo next small (inl (u, l, less, b)) = omega (arith, room-lt n u l less b)
  measure_falls n todo next small (inr e) = omega (arith, room_le n)
