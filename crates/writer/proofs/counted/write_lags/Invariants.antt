-- The first lags are written.
use Rattle.std.specs.Prelude.{◌≡◌, map, take}
use Rattle.std.proofs.lemmas.List.Edits.{sets}
use Rattle.parts.specs.Precedences.{lag_of}
use Rattle.writer.proofs.counted.write_lags.Given as goal

abbrev pub invariant-loop-i : goal.invariant-loop-i
invariant-loop-i l = l.out ≡ sets l.initial.out l.at (take l.i (map lag_of l.precedences))
