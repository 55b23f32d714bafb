-- `test_vectors::report_all` ends. Measure: the bytes left.
use Rattle.std.proofs.Common.{length}
use Rattle.test_vectors.proofs.report_all.Given as goal

abbrev pub decreases-loop-op : goal.decreases-loop-op
decreases-loop-op g l = length l.left
