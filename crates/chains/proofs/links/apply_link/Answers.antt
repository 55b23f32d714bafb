use Rattle.std.proofs.lemmas.Result.{err_from_is_err_and}
use Rattle.chains.proofs.Linking.{ends_asked, ends_burst, starts_asked, starts_burst, cut_asked, cut-answer}
use Rattle.chains.proofs.links.apply_link.Goals as goal

pub link_on-requires : goal.link_on-requires
link_on-requires c = ends_asked c.args.store.now.good c.args.place.proper c.args.totals.now.tabled c.requires

pub returns-in_err-ends : goal.returns-in_err-ends
returns-in_err-ends c =
    let p = err_from_is_err_and c.from_residual.result c.from_residual.ensures.1 in
    let (same, none) = ends_burst c.args.store.now.good c.args.place.proper c.args.totals.now.tabled c.requires c.in_err-ends.ensures p.0 in
    record { measures = same; extends_along = rw p.1 none }

pub link_on-requires-2 : goal.link_on-requires-2
link_on-requires-2 c =
    rw (c.turned.ensures.0, c.turned.ensures.1, c.turned.ensures.2) (starts_asked c.args.store.now.good c.args.place.proper c.args.totals.now.tabled c.requires c.in_ok-ends.ensures)

pub returns-in_err-starts : goal.returns-in_err-starts
returns-in_err-starts c =
    let p = err_from_is_err_and c.from_residual-in_err-starts.result c.from_residual-in_err-starts.ensures.1 in
    let burst = rw c.turned.ensures.0 at c.in_err-starts.ensures in
    let (same, none) = starts_burst c.args.store.now.good c.args.place.proper c.args.totals.now.tabled c.requires c.in_ok-ends.ensures burst p.0 in
    record { measures = same; extends_along = rw p.1 none }

pub cut_around-requires : goal.cut_around-requires
cut_around-requires c =
    cut_asked c.args.store.now.good c.args.place.proper c.args.totals.now.tabled c.requires c.in_ok-ends.ensures (rw (c.turned.ensures.0, c.turned.ensures.1, c.turned.ensures.2) at c.in_ok-starts.ensures)

pub returns : goal.returns
returns c =
    let raised = rw (c.turned.ensures.0, c.turned.ensures.1, c.turned.ensures.2) at c.in_ok-starts.ensures in
    let (same, along) =
    cut-answer c.args.store.now.good c.args.place.proper c.args.totals.now.tabled c.requires c.in_ok-ends.ensures raised _ _ _ c.cut_around.result
    c.cut_around.ensures in
    record { measures = same; extends_along = along }
