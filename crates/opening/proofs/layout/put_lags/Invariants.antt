-- Invariant: the lags of the precedences below the index are put, and the measures stay.
use Rattle.std.specs.Prelude.{◌≡◌, ◌<◌}
use Rattle.prelude.specs.Names.{ℕ, get_or, length, take}
use Rattle.opening.specs.Layout.{LagsLaid}
use Rattle.opening.proofs.layout.put_lags.Given as goal

abbrev pub invariant-loop-o : goal.invariant-loop-o
invariant-loop-o l = (length l.t ≡ 696) × ((j : ℕ) → j < 95 → get_or l.t j 0 ≡ get_or l.fn.t j 0) × LagsLaid (take l.o-index l.precedences) l.fn.t l.t
