-- The first u marks are the choice's, the others 0, and its digits from u on are left.
use Rattle.std.proofs.Common.{◌≡◌}
use Rattle.prelude.specs.Names.{replicate}
use Rattle.model.specs.Turning.{marks_of, digits_from}
use Rattle.turning.specs.Turned.{may_turn_in, mark_of}
use Rattle.turning.proofs.Ten.{FilledTo}
use Rattle.turning.proofs.marks_of.Given as goal

abbrev pub invariant-loop-u : goal.invariant-loop-u
invariant-loop-u l = record {
  left : l.left ≡ digits_from (may_turn_in l.fn.instance) l.fn.choice l.u;
  marks : FilledTo 0 (λ u. mark_of (marks_of (may_turn_in l.fn.instance) l.fn.choice u)) (replicate 10 0) l.marks l.u;
}
