use Rattle.std.specs.Prelude.{◌≡◌}
use Rattle.prelude.specs.Names.{arith, refl, ◌∙◌}
use Rattle.buffers.specs.Bytes.{packing_bytes}
use Rattle.buffers.proofs.Bytes.{pieces_next, packing_fills}
use Rattle.buffers.proofs.plans.write_packing.Goals as goal

pub loop-u-init : goal.loop-u-init
unfolding packing_bytes
loop-u-init c = refl

pub loop-u-preserved : goal.loop-u-preserved
loop-u-preserved c =
    let l = c.loop-u in
    let a = c.args in
    rw (c.write_piece.ensures, l.invariant) (pieces_next a.packing a.out.now l.u)

pub returns : goal.returns
returns c =
    let l = c.loop-u in
    let a = c.args in
    let e : l.u ≡ a.n = omega arith in
    l.invariant ∙ rw e (packing_fills a.n a.packing a.out.now (omega arith))
