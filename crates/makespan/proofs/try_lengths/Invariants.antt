-- Invariant: what is asked for is what the lengths left come to under the rest of the budget, after the steps taken; `shortened` is the instance but for its
-- shifts.
use Rattle.makespan.proofs.Tries.{Trying}
use Rattle.makespan.proofs.try_lengths.Given as goal

abbrev pub invariant-loop-length : goal.invariant-loop-length
invariant-loop-length l = Trying l.fn.valid.instance l.shortened l.budget l.left l.length
