use Rattle.instance.proofs.Sheets.{valid-says}
use Rattle.search.specs.Results.{packed_after, spent_after}
use Rattle.search.proofs.choices.answer_in.Goals as goal

pub marks_of-marks-requires : goal.marks_of-marks-requires
marks_of-marks-requires c = (valid-says _ c.args.valid.is_valid).items-few

pub returns-in-Packed : goal.returns-in-Packed
unfolding packed_after
returns-in-Packed c = rw (c.in-Packed.is, c.reached.ensures, ← c.marks_of-marks.ensures)

pub returns-in-Spent : goal.returns-in-Spent
unfolding spent_after
returns-in-Spent c = rw (c.in-Spent.is, ← c.reached-checkpoint.ensures) c.without_packing.ensures
