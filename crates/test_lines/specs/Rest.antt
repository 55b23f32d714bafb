-- Whether the entries past an instance's counts are 0, and no item among them may be turned.
use Rattle.std.specs.Prelude.{◌&&◌}
use Rattle.prelude.specs.Names.{Bool, not, eqb, drop}
use Rattle.model.specs.Below.{all_in}
use Rattle.parts.specs.declared.Size.{Size}
use Rattle.parts.specs.declared.Item.{Item}
use Rattle.parts.specs.declared.Precedence.{Precedence}
use Rattle.instance.specs.declared.Instance.{Instance}

abbrev pub size_zero : Size → Bool
size_zero s = eqb s.width 0 && (eqb s.depth 0 && eqb s.shifts 0)

abbrev pub item_zero : Item → Bool
item_zero i = size_zero i.size && not i.may_turn

abbrev pub precedence_zero : Precedence → Bool
precedence_zero o = eqb o.predecessor 0 && (eqb o.successor 0 && eqb o.lag 0)

abbrev pub rest_zero : Instance → Bool
rest_zero i = all_in item_zero (drop i.item_count i.items) && all_in precedence_zero (drop i.precedence_count i.precedences)
