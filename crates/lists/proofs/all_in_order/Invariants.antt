-- The precedences are allowed exactly where those from the index on are, after the last one tested.
use Rattle.std.specs.Prelude.{◌≡◌, None}
use Rattle.prelude.specs.Names.{map, drop}
use Rattle.parts.specs.Precedences.{arc_of, all_allowed}
use Rattle.lists.proofs.all_in_order.Given as goal

abbrev pub invariant-loop-o : goal.invariant-loop-o
invariant-loop-o l = all_allowed l.n None (map arc_of l.precedences) ≡ all_allowed l.n l.last (map arc_of (drop l.o-index l.precedences))
