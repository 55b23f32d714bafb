use Rattle.std.specs.Prelude.{◌≡◌, ◌≤◌, ◌+◌}
use Rattle.prelude.specs.Names.{arith, length, length-set, rules}
use Rattle.buffers.proofs.Bytes.{part_stored}
use Rattle.buffers.proofs.CheckpointBytes.{checkpoint_fills}
use Rattle.buffers.proofs.checkpoints.write_checkpoint.Goals as goal

pub returns : goal.returns
returns c =
    let a = c.args in
    let whole : length a.checkpoint.branches ≡ 270 = search rules in
    let room : 3 + 270 ≤ length c.write_word.new.out = omega (arith, simp length-set at c.write_word.auto.out) in
    let branches = part_stored c.write_word.new.out a.checkpoint.branches 3 270 whole room in
    rw (c.write_word-2.ensures, c.copy_from_slice.ensures.after, branches, c.write_word.ensures, c.status_byte.ensures)
    (checkpoint_fills a.checkpoint whole a.out.now (omega arith))
