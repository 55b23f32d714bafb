use Rattle.formats.specs.Formats.{byte, tested}
use Rattle.formats.specs.Fields.{optional_bytes}
use Rattle.parts.specs.Parts.{byte_number}
use Rattle.parts.proofs.write.write_byte.Goals as goal

pub write_unless-requires : goal.write_unless-requires
unfolding optional_bytes byte_number tested byte
write_unless-requires c = c.requires.1

pub returns-clause-value : goal.returns-clause-value
unfolding optional_bytes byte_number tested byte
returns-clause-value c = c.write_unless.ensures.value

pub returns-clause-out_after : goal.returns-clause-out_after
unfolding optional_bytes byte_number tested byte
returns-clause-out_after c = c.write_unless.ensures.out_after
