-- What is cut at one place more: all pairs there that are too long, or that refutes.
use Rattle.prelude.specs.Names.{arith}
use Rattle.std.proofs.lemmas.Result.{err_from_is_err_and}
use Rattle.opening.proofs.PairCuts.{pairs_askable, pairs_refuted, pairs_next}
use Rattle.opening.proofs.cut_pairs.Goals as goal

pub remove-requires : goal.remove-requires
remove-requires c = pairs_askable c.args.totals.now.numbers _ _ _ (omega arith) (omega arith) c.too_long.ensures

pub returns-in_err-remove : goal.returns-in_err-remove
returns-in_err-remove c =
    let p = err_from_is_err_and c.from_residual.result c.from_residual.ensures.1 in
    rw p.1 (pairs_refuted _ _ _ _ (omega arith) (omega arith) c.too_long.ensures c.loop-i.i (omega arith) c.loop-i.invariant.0 c.args.store.now.good.least
    c.in_err-remove.ensures)

pub loop-i-preserved : goal.loop-i-preserved
loop-i-preserved c =
    pairs_next _ _ _ _ (omega arith) (omega arith) c.too_long.ensures c.loop-i.i (omega arith) c.loop-i.invariant.0 c.args.store.now.good.least
    c.in_ok-remove.ensures c.args.totals.now.tabled c.loop-i.invariant.1
