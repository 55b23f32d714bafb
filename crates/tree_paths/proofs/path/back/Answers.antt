-- A last branch 0 becomes 1, any other is dropped.
use Rattle.std.specs.Prelude.{◌≡◌, ◌+◌, ◌-◌}
use Rattle.prelude.specs.Names.{refl, ◌∙◌, arith, length-set}
use Rattle.tree_paths.proofs.Checkpoints.{back-at-first, back-at_second, back-at_root}
use Rattle.tree_paths.proofs.path.back.Goals as goal

pub loop-last-init : goal.loop-last-init
loop-last-init c = (omega arith, c.requires.0, λ start h. (start, h, refl))

pub returns-then-branches-last-eq0 : goal.returns-then-branches-last-eq0
returns-then-branches-last-eq0 c = λ start h.
    let (path, g, e) = c.loop-last.invariant.2 start h in
    let n : c.loop-last.last - 1 + 1 ≡ c.loop-last.last = omega arith in
    rw (e, n) (back-at-first path g (omega arith) (omega (arith, c.requires.1)) c.if-branches-last-eq0.true)

pub loop-last-preserved : goal.loop-last-preserved
loop-last-preserved c = (
  omega arith,
  simp length-set c.loop-last.invariant.1,
  λ start h.
      let (path, g, e) = c.loop-last.invariant.2 start h in
      let (rest, f, d) = back-at_second path g (omega arith) (omega (arith, c.requires.1)) c.if-branches-last-eq0.false in
      (rest, f, e ∙ d),
)

pub returns : goal.returns
returns c = λ start h. let (path, g, e) = c.loop-last.invariant.2 start h in rw e (back-at_root path g (omega arith))
