-- The next precedence is of two of ten items, whose measures are as they were.
use Rattle.std.specs.Prelude.{◌+◌, ◌<◌, ◌≤◌}
use Rattle.prelude.specs.Names.{arith, ℕ, ◌∙◌, get_or, take_all}
use Rattle.parts.specs.Sizes.{no_precedence}
use Rattle.chains.specs.Totals.{measure_at}
use Rattle.opening.specs.Layout.{max_spaced}
use Rattle.opening.proofs.Openings.{allowed_at}
use Rattle.opening.proofs.Lags.{put_lag-long, put_lag-kept, lags-next}
use Rattle.opening.proofs.layout.put_lags.Goals as goal

pub put_lag-requires : goal.put_lag-requires
put_lag-requires c =
    let p = allowed_at c.args.precedences.now c.requires.allowed c.loop-o.o-index c.loop-o-test.true in
    let kept = c.loop-o.invariant.1 in (
      omega (arith, p.item_u),
      omega (arith, p.item_v),
      omega (arith, p.item_u, kept (80 + c.from-u.result), c.requires.measures (80 + c.from-u.result)),
      omega (arith, p.item_v, kept (80 + c.from-v.result), c.requires.measures (80 + c.from-v.result)),
    )

pub loop-o-preserved : goal.loop-o-preserved
loop-o-preserved c =
    let (long, kept, laid) = c.loop-o.invariant in
    let p = allowed_at c.args.precedences.now c.requires.allowed c.loop-o.o-index c.loop-o-test.true in
    let most : (u : ℕ) → u < 10 → measure_at c.loop-o.t 2 u ≤ max_spaced = λ u h. omega (arith, kept (80 + u) (omega arith), c.requires.measures (80 + u)) in
    let (is, lag) = c.put_lag.ensures in
    let o = get_or c.args.precedences.now c.loop-o.o-index no_precedence in
    rw (is, c.from-u.ensures, c.from-v.ensures) (
      put_lag-long c.loop-o.t long o.predecessor o.successor o.lag p.item_u p.item_v,
      λ j h. put_lag-kept c.loop-o.t long o.predecessor o.successor o.lag p.item_u p.item_v j h ∙ kept j h,
      lags-next c.args.precedences.now c.loop-o.o-index c.loop-o-test.true p.item_u p.item_v (most o.predecessor p.item_u) (most o.successor p.item_v)
          lag laid,
    )

pub returns : goal.returns
returns c = rw (take_all c.loop-o.o-index c.args.precedences.now c.loop-o-test.false) at c.loop-o.invariant.2
