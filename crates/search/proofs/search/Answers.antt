use Rattle.std.specs.Prelude.{◌≡◌}
use Rattle.prelude.specs.Names.{true, ◌∙◌, arith}
use Rattle.instance.proofs.Sheets.{valid-says}
use Rattle.instance.specs.Valid.{valid}
use Rattle.tree_paths.specs.Checkpoints.{following}
use Rattle.search.specs.Results.{search_result}
use Rattle.search.proofs.Series.{searched, beyond}
use Rattle.search.proofs.search.Goals as goal

pub returns-in_default-clause-value : goal.returns-in_default-clause-value
unfolding search_result
returns-in_default-clause-value c = rw c.in_default.ensures.0 c.refused.ensures

pub returns-in_default-of-clause-value : goal.returns-in_default-of-clause-value
unfolding search_result following
returns-in_default-of-clause-value c =
    let v : valid c.args.instance ≡ true = rw c.in-Ok.ensures at c.in-Ok.valid.is_valid in
    rw (v, c.in_default-of.ensures) c.refused-in_default-of.ensures

pub last_choice-requires : goal.last_choice-requires
last_choice-requires c = (valid-says _ c.in-Ok.valid.is_valid).items-few

pub returns-then-last_choice-checkpoint-clause-value : goal.returns-then-last_choice-checkpoint-clause-value
returns-then-last_choice-checkpoint-clause-value c =
    let a = c.args in
    let v : valid a.instance ≡ true = rw c.in-Ok.ensures at c.in-Ok.valid.is_valid in
    let (most, small) = rw c.in-Ok.ensures at c.last_choice.ensures in
    c.refused-then-last_choice-checkpoint.ensures
    ∙ beyond a.instance a.checkpoint a.budget v c.in-Some.ensures.0 (omega (arith, c.if-last_choice-checkpoint.true, most))

pub returns-in-Open-clause-value : goal.returns-in-Open-clause-value
returns-in-Open-clause-value c =
    let a = c.args in
    let v : valid a.instance ≡ true = rw c.in-Ok.ensures at c.in-Ok.valid.is_valid in
    let (formed, branches, long) = c.in-Some.ensures in
    searched a.instance a.checkpoint a.budget v formed c.in-Open.is (rw (c.in-Ok.ensures, branches, long) at c.run.ensures)

pub returns-in-Infeasible-clause-value : goal.returns-in-Infeasible-clause-value
returns-in-Infeasible-clause-value c =
    let a = c.args in
    let v : valid a.instance ≡ true = rw c.in-Ok.ensures at c.in-Ok.valid.is_valid in
    searched a.instance a.checkpoint a.budget v c.in-Some.ensures.0 c.in-Infeasible.is (rw c.in-Ok.ensures at (c.repeat_infeasible.ensures a.budget))

pub returns-in-Packed-clause-value : goal.returns-in-Packed-clause-value
returns-in-Packed-clause-value c =
    let a = c.args in
    let v : valid a.instance ≡ true = rw c.in-Ok.ensures at c.in-Ok.valid.is_valid in
    let (formed, branches, long) = c.in-Some.ensures in
    searched a.instance a.checkpoint a.budget v formed c.in-Packed.is (rw (c.in-Ok.ensures, branches, long) at (c.repeat_packed.ensures a.budget))
