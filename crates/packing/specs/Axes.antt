-- The axes and their numbers: x 0, y 1, t 2.
use Rattle.std.specs.Prelude.{◌≡◌, ◌≤◌, ℕ, Result, MatchResult}
use Rattle.refusal.specs.declared.Refusal.{Refusal}
use Rattle.refusal.specs.declared.Refusal.TheVariants.{BadArgument}
use Rattle.packing.specs.declared.axes.Axis.{Axis}
use Rattle.packing.specs.declared.axes.Axis.TheVariants.{X, Y, T}

abbrev pub axis_number : Axis → ℕ
axis_number X = 0
axis_number Y = 1
axis_number T = 2

-- the axis of a number, or 8, "clearance axis not 0, 1 or 2"
abbrev pub NamesAxis : ℕ → Result Axis Refusal → Type 0
NamesAxis number r = MatchResult r (λ axis. axis_number axis ≡ number) (λ e. (e ≡ BadArgument) × (3 ≤ number))
