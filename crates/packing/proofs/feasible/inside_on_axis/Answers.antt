-- `packing::feasible::inside_on_axis` meets its contract: a valid instance has room for its items, and what `all` answers of them.
use Rattle.std.proofs.Common.{sym, ◌∙◌, refl, rules, tests, arith}
use Rattle.packing.specs.Axes.{axis_number}
use Rattle.std.proofs.iter.Serving.{serving}
use Rattle.instance.proofs.Sheets.{items-few}
use Rattle.turning.proofs.Calls.{all_range}
use Rattle.packing.proofs.Loops.{within_limit, inside_by}
use Rattle.packing.proofs.feasible.inside_on_axis.Goals as goal

pub all-requires-clause-callable : goal.all-requires-clause-callable
all-requires-clause-callable c = let few = items-few _ c.args.valid.now.is_valid in grind (serving, arith)

pub returns : goal.returns
unfolding within_limit
returns c =
    let a = c.args in
    let i = a.valid.now.instance in
    all_range _ (within_limit i.items a.packing.now.positions (axis_number a.axis) c.from-limit.result) i.item_count _ c.all.new.self _ _ refl
    (λ x b q h. search (rules, tests)) c.all.ensures.ran
    ∙ sym (inside_by _ _ _ (c.from-limit.ensures ∙ c.measure_of.ensures))
