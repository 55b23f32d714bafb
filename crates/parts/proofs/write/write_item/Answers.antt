use Rattle.prelude.specs.Names.{arith, length-set}
use Rattle.parts.proofs.Writers.{item-length}
use Rattle.parts.proofs.write.write_item.Goals as goal

pub write_size-requires : goal.write_size-requires
write_size-requires c = let h = item-length c.args.i in simp length-set (omega arith)
