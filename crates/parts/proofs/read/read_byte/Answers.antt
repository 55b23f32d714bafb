-- A byte above 0 is the field.
use Rattle.std.specs.Prelude.{◌<◌}
use Rattle.prelude.specs.Names.{arith, refl, ◌∙◌, length, get_or, lt-leb}
use Rattle.formats.proofs.Entries.{rest_of}
use Rattle.parts.proofs.Readers.{byte-next, byte_number-run}
use Rattle.parts.proofs.read.read_byte.Goals as goal

pub returns : goal.returns
returns c =
    let h : 0 < length c.args.bytes.now = grind arith in
    let v : 0 < get_or c.args.bytes.now 0 0 = omega arith in
    rw c.if-not-present.false (byte_number-run c.args.at c.args.bytes.now ∙ rw (byte-next c.args.at c.args.bytes.now h, rest_of) (rw (lt-leb _ 0 v) refl))
