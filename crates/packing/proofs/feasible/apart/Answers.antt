-- `packing::feasible::apart` meets its contract: a valid instance has room for its items, and what `all` answers of them.
use Rattle.std.proofs.Common.{refl, sym, ◌∙◌, rules, tests, arith}
use Rattle.instance.specs.Meaning.{problem_of, positions_of}
use Rattle.std.proofs.iter.Serving.{serving}
use Rattle.instance.proofs.Sheets.{items-few}
use Rattle.turning.proofs.Calls.{all_range}
use Rattle.packing.specs.Parts.{apart_from_lower}
use Rattle.packing.proofs.Loops.{apart_by}
use Rattle.packing.proofs.feasible.apart.Goals as goal

pub all-requires-clause-callable : goal.all-requires-clause-callable
all-requires-clause-callable c = let few = items-few _ c.args.valid.now.is_valid in grind (serving, arith)

pub returns : goal.returns
returns c =
    let a = c.args in
    all_range _ (apart_from_lower (problem_of a.valid.now.instance) (positions_of a.packing.now)) a.valid.now.instance.item_count _ c.all.new.self _ _ refl
    (λ x b q h. search (rules, tests)) c.all.ensures.ran
    ∙ sym (apart_by _ _)
