use Rattle.std.specs.Prelude.{◌≡◌}
use Rattle.prelude.specs.Names.{true}
use Rattle.instance.proofs.Arrays.{length_mapped}
use Rattle.instance.proofs.Sheets.{valid-says}
use Rattle.instance.specs.Meaning.{problem_of}
use Rattle.instance.specs.Valid.{valid}
use Rattle.model.specs.Turning.{choice_problem}
use Rattle.turning.specs.Turned.{turnable_of}
use Rattle.search.proofs.Series.{choice-instance}
use Rattle.search.proofs.choices.turned_in.Goals as goal
use Rattle.search.proofs.choices.turned_in.Goals.{After-turned-instance}

pub marks_of-marks-requires : goal.marks_of-marks-requires
marks_of-marks-requires c = (valid-says _ c.args.valid.is_valid).items-few

-- it is valid, and its problem is the choice's
turned : (c : After-turned-instance) → let a = c.args in
    (problem_of c.turned-instance.result ≡ choice_problem (turnable_of a.valid.instance) a.choice) × (valid c.turned-instance.result ≡ true)
turned c =
    let a = c.args in
    choice-instance a.valid.instance (search (length_mapped, c.well_formed)) a.valid.is_valid a.choice c.marks_of-marks.ensures c.turned-instance.ensures

pub invariant_of-result : goal.invariant_of-result
invariant_of-result c = record { is_valid = (turned (goal.at.invariant_of-result c).After-turned-instance).1 }

pub returns : goal.returns
returns c = (turned (goal.at.returns c).After-turned-instance).0
