use Rattle.prelude.specs.Names.{arith, sym, ◌∙◌, ap, add-one}
use Rattle.model.specs.Pairs.{pair_number, pair_of}
use Rattle.model.proofs.Pairs.{number_split, first_next, first-least, pair-at-number}
use Rattle.pairs.proofs.pair_of.Goals as goal

pub loop-v-init : goal.loop-v-init
unfolding pair_number
loop-v-init c = omega arith

pub overflow_add-v : goal.overflow_add-v
overflow_add-v c = omega (arith, first-least c.loop-v.v)

pub loop-v-preserved : goal.loop-v-preserved
loop-v-preserved c = let v = c.loop-v.v in (omega arith, rw (add-one v) (omega (arith, first_next v)))

pub returns : goal.returns
returns c =
    let l = c.loop-v in
    sym (pair-at-number l.u l.v (omega arith)) ∙ ap pair_of (omega (arith, number_split l.u l.v))
