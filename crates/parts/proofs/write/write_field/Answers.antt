use Rattle.prelude.specs.Names.{arith}
use Rattle.formats.specs.Formats.{word, tested}
use Rattle.formats.specs.Fields.{optional_bytes}
use Rattle.parts.specs.Parts.{number}
use Rattle.parts.proofs.Writers.{word-bytes}
use Rattle.parts.proofs.write.write_field.Goals as goal

pub write_unless-requires : goal.write_unless-requires
unfolding optional_bytes number tested word
write_unless-requires c = rw (c.to_le_bytes.ensures, word-bytes c.args.v (omega arith)) c.requires

pub returns-clause-value : goal.returns-clause-value
unfolding optional_bytes number tested word
returns-clause-value c = rw (c.write_unless.ensures.value, c.to_le_bytes.ensures, word-bytes c.args.v (omega arith))

pub returns-clause-out_after : goal.returns-clause-out_after
unfolding optional_bytes number tested word
returns-clause-out_after c = rw (c.write_unless.ensures.out_after, c.to_le_bytes.ensures, word-bytes c.args.v (omega arith))
