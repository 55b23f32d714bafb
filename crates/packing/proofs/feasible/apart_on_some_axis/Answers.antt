-- `packing::feasible::apart_on_some_axis` meets its contract: what `any` answers of the three axes.
use Rattle.std.proofs.Common.{◌≡◌, ℕ, Bool, true, false, [], ◌∷◌, refl, sym, ◌∙◌, rules, tests}
use Rattle.std.proofs.lemmas.Iterator.{YieldsList-from_slice, cases_from_any}
use Rattle.turning.proofs.Calls.{any_answer}
use Rattle.packing.specs.declared.axes.Axis.TheVariants.{X, Y, T}
use Rattle.packing.specs.Axes.{axis_number}
use Rattle.packing.specs.Parts.{apart_on}
use Rattle.packing.proofs.Loops.{numbered, apart_by_axes}
use Rattle.packing.proofs.feasible.apart_on_some_axis.Goals as goal

pub returns : goal.returns
returns c =
    let a = c.args in
    let apart : ℕ → Bool = λ axis. apart_on a.instance.now.walkway axis c.new-first.result c.new-second.result in
    let answer = cases_from_any c.any.new.self _ c.any.result (λ axis. apart (axis_number axis) ≡ true) (λ axis. apart (axis_number axis) ≡ false) c.any.ensures.ran
    (YieldsList-from_slice (X ∷ Y ∷ T ∷ []) cc) (λ x q k. search (rules, tests)) (λ x q k. search (rules, tests)) in
    any_answer (λ axis. apart (axis_number axis)) _ 3 (X ∷ Y ∷ T ∷ []) X _ answer refl (numbered apart)
    ∙ sym (apart_by_axes _ _ _ _ c.new-first.ensures c.new-second.ensures)
