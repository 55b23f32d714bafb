-- Invariant: the positions below u are placed, the others 0.
use Rattle.std.specs.Prelude.{◌≡◌, ◌≤◌, ◌<◌}
use Rattle.prelude.specs.Names.{ℕ, List, get_or, length}
use Rattle.instance.specs.declared.Position.{Position}
use Rattle.instance.specs.Meaning.{start}
use Rattle.instance.specs.Values.{origin}
use Rattle.nodes.specs.Starts.{start_at}
use Rattle.nodes.proofs.starts.starts_of.Given as goal

-- what stands at x where the items below u are placed
pub record Placed (t : List ℕ) (u x : ℕ) (p : Position) : Type 0 where
  pub placed : x < u → (a : ℕ) → a < 3 → start a p ≡ start_at t a x
  pub past : u ≤ x → p ≡ origin

abbrev pub invariant-loop-u : goal.invariant-loop-u
invariant-loop-u l = (length l.positions ≡ 10) × ((x : ℕ) → Placed l.t l.u x (get_or l.positions x origin))
