use Rattle.prelude.specs.Names.{arith, lt-ltb, le-ltb}
use Rattle.chains.proofs.Cutting.{gives_none, gives_shifted, gives_skip}
use Rattle.chains.proofs.totals.Totals.above.Goals as goal
use Rattle.chains.proofs.totals.Totals.above.Goals.{then-self-at, else-self-at}

pub loop-v-init : goal.loop-v-init
loop-v-init c = gives_none _

pub loop-v-preserved : goal.loop-v-preserved
loop-v-preserved c =
    let h = c.loop-v in
    elim c.if-self-at.branch [
      | then-self-at w ↦ rw w.found-is (gives_shifted _ h.v h.found h.invariant (omega arith) (lt-ltb c.args.limit _ w.if-self-at.true))
      | else-self-at w ↦ rw w.found-is (gives_skip _ h.v h.found h.invariant (le-ltb c.args.limit _ w.if-self-at.false))
    ]
