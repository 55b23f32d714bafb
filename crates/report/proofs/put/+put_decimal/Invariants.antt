-- Measure: the number, of which each call has a tenth.
use Rattle.report.proofs.put.+put_decimal.Given as goal

abbrev pub decreases-put_decimal : goal.decreases-put_decimal
decreases-put_decimal l = l.n
