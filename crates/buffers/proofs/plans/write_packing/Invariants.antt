-- The first u pieces are written.
use Rattle.std.specs.Prelude.{◌≡◌}
use Rattle.prelude.specs.Names.{sets}
use Rattle.buffers.specs.Bytes.{packing_bytes}
use Rattle.buffers.proofs.plans.write_packing.Given as goal

abbrev pub invariant-loop-u : goal.invariant-loop-u
invariant-loop-u l = l.out ≡ sets l.initial.out 0 (packing_bytes l.u l.packing)
