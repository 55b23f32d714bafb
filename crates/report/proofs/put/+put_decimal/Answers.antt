use Rattle.std.specs.Prelude.{◌≡◌, ◌+◌, ◌/◌, ◌<◌, ◌≤◌}
use Rattle.prelude.specs.Names.{arith, sym, div-lt_self, [], ℕ, length, length-append}
use Rattle.report.specs.Decimal.{decimal}
use Rattle.report.proofs.Decimals.{decimal_one, decimal-more}
use Rattle.report.proofs.Puts.{byte_after}
use Rattle.report.proofs.put.+put_decimal.Goals as goal

-- how many digits there are
length_one : (n : ℕ) → n < 10 → length (decimal n) ≡ 1
length_one n l = rw (decimal_one n l)

length_more : (n : ℕ) → 10 ≤ n → length (decimal n) ≡ length (decimal (n / 10)) + 1
length_more n l = rw (decimal-more n l, length-append)

pub bounds-out-0 : goal.bounds-out-0
bounds-out-0 t c = omega (arith, length_one _ c.if-n-lt10.true)

pub returns-then-n-lt10-clause-value : goal.returns-then-n-lt10-clause-value
returns-then-n-lt10-clause-value t c = sym (length_one _ c.if-n-lt10.true)

pub returns-then-n-lt10-clause-out_after : goal.returns-then-n-lt10-clause-out_after
returns-then-n-lt10-clause-out_after t c =
    rw (decimal_one c.args.n c.if-n-lt10.true) (byte_after [] c.args.out.now _ (omega (arith, length_one _ c.if-n-lt10.true)))

pub put_decimal-at-requires : goal.put_decimal-at-requires
put_decimal-at-requires t c =
    let n = c.args.n in
    (omega (arith, div-lt_self {n = n} {k = 10} (omega arith) (omega arith)), omega (arith, length_more n c.if-n-lt10.false))

pub bounds-out-at : goal.bounds-out-at
bounds-out-at t c = omega (arith, c.put_decimal-at.auto.out, length_more _ c.if-n-lt10.false)

pub returns-clause-value : goal.returns-clause-value
returns-clause-value t c = omega (arith, length_more _ c.if-n-lt10.false)

pub returns-clause-out_after : goal.returns-clause-out_after
returns-clause-out_after t c =
    let n = c.args.n in
    let w = c.put_decimal-at.ensures in
    rw (decimal-more n c.if-n-lt10.false, w.value, w.out_after)
    (byte_after (decimal (n / 10)) c.args.out.now _ (omega (arith, length_more n c.if-n-lt10.false)))
