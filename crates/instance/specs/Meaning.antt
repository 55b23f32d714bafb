-- An instance as a packing problem, and a packing's positions. Axes are numbered x 0, y 1, t 2.
use Rattle.prelude.specs.Names.{map, ℕ, zero, suc, get_or}
use Rattle.parts.specs.declared.Size.{Size}
use Rattle.parts.specs.declared.Precedence.{Precedence}
use Rattle.parts.specs.Sizes.{no_item}
use Rattle.instance.specs.declared.Instance.{Instance}
use Rattle.instance.specs.declared.Position.{Position}
use Rattle.instance.specs.declared.Packing.{Packing}
use Rattle.instance.specs.Valid.{precedences_of}
use Rattle.instance.specs.Values.{origin}
use Rattle.model.specs.Problem as M

-- the measure on an axis
abbrev pub measure_on : ℕ → Size → ℕ
measure_on zero s = s.width
measure_on (suc zero) s = s.depth
measure_on (suc (suc a)) s = s.shifts

-- the start on an axis
abbrev pub start : ℕ → Position → ℕ
start zero p = p.x
start (suc zero) p = p.y
start (suc (suc a)) p = p.t

abbrev pub precedence_of : Precedence → M.Precedence
precedence_of o = record { predecessor = o.predecessor; successor = o.successor; lag = o.lag }

-- what an instance asks for
unfoldable pub problem_of : Instance → M.Problem
problem_of i = record {
  items = i.item_count;
  size = λ a u. measure_on a (get_or i.items u no_item).size;
  capacity = λ a. measure_on a i.container;
  walkway = i.walkway;
  precedences = map precedence_of (precedences_of i);
}

-- where a packing puts each item
unfoldable pub positions_of : Packing → M.Positions
positions_of q a u = start a (get_or q.positions u origin)
