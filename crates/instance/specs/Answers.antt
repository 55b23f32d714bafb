-- What reading answers.
use Rattle.std.specs.Prelude.{◌⊎◌, Result, Ok, Err}
use Rattle.prelude.specs.Names.{inl, inr, ℕ}
use Rattle.refusal.specs.declared.Refusal.{Refusal}
use Rattle.refusal.specs.Numbers.{number_of, place_of}
use Rattle.formats.specs.Reading.{Read, got, refused}
use Rattle.instance.specs.declared.Instance.{Instance}

abbrev pub read_result : Read Instance → Result Instance Refusal
read_result (got i at rest) = Ok i
read_result (refused e) = Err e

-- the paper's values of a reading: the sheet, or number and place of a refusal
abbrev pub read_values : Result Instance Refusal → Instance ⊎ (ℕ × ℕ)
read_values (Ok i) = inl i
read_values (Err e) = inr (number_of e, place_of e)
