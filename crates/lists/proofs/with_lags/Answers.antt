use Rattle.prelude.specs.Names.{rules, arith, append-nil, sym, ◌∙◌, length, drop_of_length-le, take_all, length-set}
use Rattle.std.specs.Prelude.{◌≡◌, ◌≤◌}
use Rattle.lists.specs.Lists.{with_lags}
use Rattle.lists.proofs.Lags.{lag-next}
use Rattle.lists.proofs.with_lags.Goals as goal

pub loop-i-preserved : goal.loop-i-preserved
loop-i-preserved c =
    let k : length c.args.lags ≡ 90 = search rules in
    (rw length-set c.loop-i.invariant.0, c.loop-i.invariant.1 ∙ lag-next c.loop-i.lagged c.args.lags c.loop-i.i (omega arith) (omega arith))

pub returns : goal.returns
unfolding with_lags
returns c =
    let n : length c.loop-i.lagged ≤ c.loop-i.i = omega arith in
    sym (c.loop-i.invariant.1 ∙ rw (drop_of_length-le c.loop-i.lagged n, append-nil, take_all _ _ n))
