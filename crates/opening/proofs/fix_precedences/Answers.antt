-- One precedence more is fixed; or that leaves a pair nothing.
use Rattle.prelude.specs.Names.{arith}
use Rattle.std.proofs.lemmas.Result.{err_from_is_err_and}
use Rattle.opening.proofs.Openings.{allowed_at, fixable, fixing_next, fixing_fails}
use Rattle.opening.proofs.fix_precedences.Goals as goal

pub bit-requires : goal.bit-requires
bit-requires c = omega (arith, (allowed_at c.args.precedences.now c.requires c.loop-o.o-index c.loop-o-test.true).item_v)

pub bit-requires-in-loop-o : goal.bit-requires-in-loop-o
bit-requires-in-loop-o c = omega (arith, (allowed_at c.args.precedences.now c.requires c.loop-o.o-index c.loop-o-test.true).item_v)

pub remove-requires : goal.remove-requires
remove-requires c =
    rw c.from-u.ensures
    (fixable c.loop-o.invariant c.requires c.loop-o-test.true (rw c.from-v.ensures at c.bit.ensures) (rw c.from-v.ensures at c.bit-in-loop-o.ensures))

pub returns-in_err-remove : goal.returns-in_err-remove
returns-in_err-remove c =
    let p = err_from_is_err_and c.from_residual.result c.from_residual.ensures.1 in
    rw p.1 (fixing_fails c.loop-o.invariant c.requires c.loop-o-test.true (rw c.from-v.ensures at c.bit.ensures) (rw c.from-v.ensures at c.bit-in-loop-o.ensures)
    c.in_err-remove.field-0.0 (rw c.from-u.ensures at c.in_err-remove.ensures))

pub loop-o-preserved : goal.loop-o-preserved
loop-o-preserved c =
    fixing_next c.loop-o.invariant c.requires c.loop-o-test.true (rw c.from-v.ensures at c.bit.ensures) (rw c.from-v.ensures at c.bit-in-loop-o.ensures)
    c.args.store.now.good.least (rw c.from-u.ensures at c.in_ok-remove.ensures)
