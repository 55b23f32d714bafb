use Rattle.std.specs.Prelude.{◌≡◌, ◌≤◌}
use Rattle.prelude.specs.Names.{ap, subst, sym, ◌∙◌, ℕ, take, replicate, length-replicate}
use Rattle.std.proofs.lemmas.Result.{err_from_is_err_and}
use Rattle.formats.specs.Reading.{got}
use Rattle.parts.proofs.Readers.{lags-run, lags-left_out}
use Rattle.lists.specs.Lists.{Padded}
use Rattle.lists.proofs.Counted.{padded-first, padded-filled, all_blank}
use Rattle.lists.proofs.Lags.{lags_zero-first}
use Rattle.lists.proofs.read.read_lags.Goals as goal

-- no lags are m lags of 0
none : (m : ℕ) → m ≤ 90 → (replicate {A = ℕ} m 0 ≡ take m (replicate 90 0)) × Padded {A = ℕ} 90 0 m (replicate 90 0)
none m l =
    let e = length-replicate {A = ℕ} m 0 in let b = all_blank {A = ℕ} 90 m 0 l in
    (sym (ap (take m) (sym b) ∙ padded-first 90 m 0 (replicate m 0) e), subst (Padded 90 0 m) b (padded-filled 90 m 0 (replicate m 0) e l))

pub returns-then-not-present-clause-value : goal.returns-then-not-present-clause-value
returns-then-not-present-clause-value c =
    let r = c.args.rest in rw (c.if-not-present.true, lags-left_out) (ap (λ gs. got gs r.at r.bytes.now) (none c.args.m c.requires).0)

pub returns-then-not-present-clause-padded : goal.returns-then-not-present-clause-padded
returns-then-not-present-clause-padded c = (none c.args.m c.requires).1

pub returns-in_err-lags-clause-value : goal.returns-in_err-lags-clause-value
returns-in_err-lags-clause-value c =
    let p = err_from_is_err_and c.from_residual.result c.from_residual.ensures.1 in
    rw (p.1, p.2, c.if-not-present.false, lags-run, c.in_err-lags.ensures.value)

pub returns-then-all_zero-clause-value : goal.returns-then-all_zero-clause-value
returns-then-all_zero-clause-value c =
    let first = lags_zero-first c.in_ok-lags.ensures.padded in
    rw (c.if-not-present.false, lags-run, c.in_ok-lags.ensures.value, first, ← c.all_zero.ensures, c.if-all_zero.true)

pub returns-clause-value : goal.returns-clause-value
returns-clause-value c =
    let first = lags_zero-first c.in_ok-lags.ensures.padded in
    rw (c.if-not-present.false, lags-run, c.in_ok-lags.ensures.value, first, ← c.all_zero.ensures, c.if-all_zero.false)
