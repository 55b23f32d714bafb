-- The lines of the first u items are put.
use Rattle.std.specs.Prelude.{◌≡◌, ◌*◌, ◌≤◌, length}
use Rattle.report.specs.Text.{with_front, item_lines}
use Rattle.report.proofs.put.put_items.Given as goal

abbrev pub invariant-loop-u : goal.invariant-loop-u
invariant-loop-u l = record {
  put : l.out ≡ with_front (item_lines l.packing l.u) l.initial.out;
  at : l.at ≡ length (item_lines l.packing l.u);
  short : l.at ≤ 24 * l.u;
}
