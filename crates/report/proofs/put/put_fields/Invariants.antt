-- The first fields are put, as many as the loop has gone through.
use Rattle.std.specs.Prelude.{◌≡◌, length, take}
use Rattle.formats.specs.Formats.{row_bytes}
use Rattle.report.specs.Text.{with_front, text_field}
use Rattle.report.proofs.put.put_fields.Given as goal

abbrev pub invariant-loop-n : goal.invariant-loop-n
invariant-loop-n l = record {
  put : l.out ≡ with_front (row_bytes text_field (take l.n-index l.numbers)) l.initial.out;
  at : l.at ≡ length (row_bytes text_field (take l.n-index l.numbers));
}
