-- `packing::feasible::inside` meets its contract: what `all` answers of the three axes.
use Rattle.std.proofs.Common.{◌≡◌, Bool, true, false, [], ◌∷◌, refl, sym, ◌∙◌, rules, tests}
use Rattle.std.proofs.lemmas.Iterator.{YieldsList-from_slice, cases_from_all}
use Rattle.instance.specs.Meaning.{problem_of, positions_of}
use Rattle.turning.proofs.Calls.{all_answer}
use Rattle.packing.specs.declared.axes.Axis.{Axis}
use Rattle.packing.specs.declared.axes.Axis.TheVariants.{X, Y, T}
use Rattle.packing.specs.Axes.{axis_number}
use Rattle.packing.specs.Parts.{inside_on}
use Rattle.packing.proofs.Loops.{numbered, inside_loop}
use Rattle.packing.proofs.feasible.inside.Goals as goal

pub returns : goal.returns
returns c =
    let a = c.args in
    let test : Axis → Bool = λ axis. inside_on (problem_of a.valid.now.instance) (positions_of a.packing.now) (axis_number axis) in
    let answer = cases_from_all c.all.new.self _ c.all.result (λ axis. test axis ≡ true) (λ axis. test axis ≡ false) c.all.ensures.ran
    (YieldsList-from_slice (X ∷ Y ∷ T ∷ []) cc) (λ x q k. search (rules, tests)) (λ x q k. search (rules, tests)) in
    all_answer test _ 3 (X ∷ Y ∷ T ∷ []) X _ answer refl (numbered (inside_on (problem_of a.valid.now.instance) (positions_of a.packing.now)))
    ∙ sym (inside_loop _ _)
