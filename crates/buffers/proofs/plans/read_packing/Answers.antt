use Rattle.std.specs.Prelude.{◌≡◌}
use Rattle.prelude.specs.Names.{arith, refl}
use Rattle.instance.specs.Values.{origin, origin_packing}
use Rattle.buffers.specs.Bytes.{plan_position, plan_mark}
use Rattle.buffers.proofs.Bytes.{read_none, read_next, read_all}
use Rattle.buffers.proofs.plans.read_packing.Goals as goal

pub loop-u-init : goal.loop-u-init
unfolding origin_packing
loop-u-init c = let s = c.args.s.now in rw c.origin-packing.ensures (read_none origin (plan_position s), read_none 0 (plan_mark s))

pub loop-u-preserved : goal.loop-u-preserved
loop-u-preserved c =
    let l = c.loop-u in
    let s = c.args.s.now in (
      read_next origin (plan_position s) c.read_position.result l.invariant.0 (omega arith) c.read_position.ensures,
      read_next 0 (plan_mark s) (plan_mark s l.u) l.invariant.1 (omega arith) refl,
    )

pub returns : goal.returns
returns c =
    let l = c.loop-u in
    let a = c.args in
    let e : l.u ≡ a.n = omega arith in
    read_all a.s.now l.packing.positions l.packing.marks l.u l.invariant.0 l.invariant.1 (omega arith)
