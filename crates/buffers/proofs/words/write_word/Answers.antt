use Rattle.std.specs.Prelude.{◌≡◌, ◌∷◌, ◌/◌, ◌%◌}
use Rattle.prelude.specs.Names.{[], arith}
use Rattle.buffers.proofs.Bytes.{part_stored}
use Rattle.buffers.proofs.words.write_word.Goals as goal

pub returns : goal.returns
returns c =
    let v = c.args.v in
    let high : v / 256 % 256 ≡ v / 256 = omega (arith, c.ranges.v) in
    rw (c.copy_from_slice.ensures.after, c.to_le_bytes.ensures, high) (part_stored c.args.out.now (v % 256 ∷ v / 256 ∷ []) c.args.at _ (omega arith) (omega arith))
