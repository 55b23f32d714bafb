-- `packing::feasible::apart_from_lower_items` meets its contract: what `all` answers of the lower items.
use Rattle.std.proofs.Common.{refl, rules, tests}
use Rattle.model.specs.Problem.{apart_on_some_axis}
use Rattle.instance.specs.Meaning.{problem_of, positions_of}
use Rattle.turning.proofs.Calls.{all_range}
use Rattle.packing.specs.Parts.{apart_from_lower}
use Rattle.packing.proofs.feasible.apart_from_lower_items.Goals as goal

pub returns : goal.returns
unfolding apart_from_lower
returns c =
    let a = c.args in
    all_range _ (apart_on_some_axis (problem_of a.instance.now) (positions_of a.packing.now) a.u) a.u _ c.all.new.self _ _ refl
    (λ x b q h. search (rules, tests)) c.all.ensures.ran
