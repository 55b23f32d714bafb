use Rattle.chains.proofs.Cutting.{around_answer}
use Rattle.chains.proofs.cuts.cut_around.Goals as goal

pub returns-then-totals-a-eq0 : goal.returns-then-totals-a-eq0
returns-then-totals-a-eq0 c =
    around_answer c.args.totals.now.numbers c.args.grown.axis c.args.store.now.domains c.args.grown.ends c.args.grown.starts c.args.store.now.good
    c.in_ok-cut.ensures _ _ _ c.cut-then-totals-a-eq0.result c.cut-then-totals-a-eq0.ensures

pub returns : goal.returns
returns c =
    around_answer c.args.totals.now.numbers c.args.grown.axis c.args.store.now.domains c.args.grown.ends c.args.grown.starts c.args.store.now.good
    c.in_ok-cut-2.ensures _ _ _ c.cut-3.result c.cut-3.ensures
