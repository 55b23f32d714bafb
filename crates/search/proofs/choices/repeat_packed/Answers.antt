use Rattle.prelude.specs.Names.{◌∙◌, arith}
use Rattle.model.specs.Turning.{choice_problem}
use Rattle.turning.specs.Turned.{turnable_of}
use Rattle.tree_paths.specs.Checkpoints.{path_of}
use Rattle.search.proofs.Series.{steps-within, packed_in}
use Rattle.model.specs.Search as S
use Rattle.search.proofs.choices.repeat_packed.Goals as goal

pub answer_in-requires : goal.answer_in-requires
answer_in-requires c =
    let a = c.args in
    let again = rw c.turned_in-turned.ensures at (c.repeat-again.ensures 0) in
    let taken = steps-within (choice_problem (turnable_of a.valid.instance) a.checkpoint.choice) 0 (S.packed_at (path_of a.path.length a.path.branches)) again in
    omega (arith, taken)

pub returns : goal.returns
returns c = λ budget.
    let a = c.args in
    let again = rw c.turned_in-turned.ensures at (c.repeat-again.ensures budget) in
    c.answer_in.ensures ∙ packed_in a.valid.instance a.checkpoint budget (path_of a.path.length a.path.branches) c.requires again
