-- The first i precedences have their lags, and the precedences with their lags are those followed by the others with theirs.
use Rattle.std.specs.Prelude.{◌++◌, ◌≡◌}
use Rattle.prelude.specs.Names.{map, length, take, drop}
use Rattle.parts.specs.Precedences.{arc_of}
use Rattle.lists.specs.Lists.{with_lags}
use Rattle.lists.proofs.with_lags.Given as goal

abbrev pub invariant-loop-i : goal.invariant-loop-i
invariant-loop-i l =
    (length l.lagged ≡ 90)
    × (with_lags (map arc_of l.fn.precedences) l.lags ≡ take l.i l.lagged ++ with_lags (map arc_of (drop l.i l.lagged)) (drop l.i l.lags))
