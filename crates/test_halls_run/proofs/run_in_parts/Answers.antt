-- `test_halls_run::run_in_parts` meets its contract: a sheet that was read has at most ten items.
use Rattle.planner.proofs.Programs.{few-items}
use Rattle.test_halls_run.proofs.run_in_parts.Goals as goal

pub resume_all-requires : goal.resume_all-requires
resume_all-requires g c = few-items c.args.sheet.now c.in-Ok.ensures (λ j. (c.type_inv.sheet j).fits)
