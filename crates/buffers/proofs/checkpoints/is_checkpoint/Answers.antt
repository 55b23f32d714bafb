use Rattle.std.specs.Prelude.{◌≤◌, ◌<◌}
use Rattle.prelude.specs.Names.{arith, get_or, lt-ltb, le-ltb, lt-leb}
use Rattle.buffers.specs.Checkpoints.{is_checkpoint}
use Rattle.buffers.proofs.checkpoints.is_checkpoint.Goals as goal

pub returns-then-note-le2 : goal.returns-then-note-le2
unfolding is_checkpoint
returns-then-note-le2 c =
    let h : get_or c.args.note.now 0 0 < 3 = omega arith in
    rw (c.zero_from.ensures, c.from.ensures, c.word_at.ensures, lt-ltb _ _ h)

pub returns-else-note-le2 : goal.returns-else-note-le2
unfolding is_checkpoint
returns-else-note-le2 c =
    let h : 3 ≤ get_or c.args.note.now 0 0 = omega arith in
    rw (le-ltb _ _ h) (lt-leb _ _ c.if-note-le2.false)
