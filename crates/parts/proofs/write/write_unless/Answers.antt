use Rattle.prelude.specs.Names.{arith}
use Rattle.std.proofs.lemmas.Grind.{common_steps}
use Rattle.std.proofs.lemmas.List.Edits.{sets-eq}
use Rattle.parts.proofs.write.write_unless.Goals as goal

pub returns-clause-out_after : goal.returns-clause-out_after
returns-clause-out_after c = grind (arith, common_steps, sets-eq)
