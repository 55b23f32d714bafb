-- The first u positions and marks are read, the others 0.
use Rattle.instance.specs.Values.{origin}
use Rattle.buffers.specs.Bytes.{plan_position, plan_mark}
use Rattle.buffers.proofs.Bytes.{ReadTo}
use Rattle.buffers.proofs.plans.read_packing.Given as goal

abbrev pub invariant-loop-u : goal.invariant-loop-u
invariant-loop-u l = ReadTo origin (plan_position l.s) l.packing.positions l.u × ReadTo 0 (plan_mark l.s) l.packing.marks l.u
