-- So many choices are there for the items so far.
use Rattle.std.proofs.Common.{◌≡◌}
use Rattle.model.specs.Turning.{choice_count}
use Rattle.turning.specs.Turned.{may_turn_in}
use Rattle.turning.proofs.last_choice.Given as goal

abbrev pub invariant-loop-item : goal.invariant-loop-item
invariant-loop-item l = l.count ≡ choice_count (may_turn_in l.fn.instance) 0 l.item-index
