use Rattle.std.specs.Prelude.{◌+◌}
use Rattle.prelude.specs.Names.{arith, lt-ltb, le-ltb}
use Rattle.chains.proofs.Cutting.{gives_none, gives_shifted, gives_skip}
use Rattle.chains.proofs.totals.Totals.above_with_gaps.Goals as goal
use Rattle.chains.proofs.totals.Totals.above_with_gaps.Goals.{then-self-steps, else-self-steps}

pub loop-v-init : goal.loop-v-init
loop-v-init c = gives_none _

pub overflow_sub-self : goal.overflow_sub-self
overflow_sub-self c = c.requires.least c.loop-v.v (omega arith)

pub overflow_add-self : goal.overflow_add-self
overflow_add-self c =
    omega (arith, c.args.self.now.tabled.small (c.args.steps + c.loop-v.v), c.args.self.now.tabled.small (c.args.at + c.loop-v.v))

pub loop-v-preserved : goal.loop-v-preserved
loop-v-preserved c =
    let h = c.loop-v in
    elim c.if-self-steps.branch [
      | then-self-steps w ↦ rw w.found-is (gives_shifted _ h.v h.found h.invariant (omega arith) (lt-ltb c.args.limit _ w.if-self-steps.true))
      | else-self-steps w ↦ rw w.found-is (gives_skip _ h.v h.found h.invariant (le-ltb c.args.limit _ w.if-self-steps.false))
    ]
