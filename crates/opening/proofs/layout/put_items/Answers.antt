-- The next item is one of ten, and its measures are a valid instance's.
use Rattle.std.specs.Prelude.{◌<◌}
use Rattle.prelude.specs.Names.{arith, get_or, set}
use Rattle.instance.proofs.Arrays.{length_mapped}
use Rattle.instance.proofs.Sheets.{valid-says}
use Rattle.parts.specs.Sizes.{no_item}
use Rattle.opening.proofs.Sound.{container-measures, item-measures}
use Rattle.opening.proofs.Layouts.{laid_none, measures-none, laid_next, measures-next, walkway-most, laid-all}
use Rattle.opening.proofs.layout.put_items.Goals as goal

pub with_walkway-capacity-requires : goal.with_walkway-capacity-requires
with_walkway-capacity-requires c = let most = container-measures c.args.valid.instance c.args.valid.is_valid in (most 0 (omega arith), most 1 (omega arith))

pub loop-u-init : goal.loop-u-init
loop-u-init c =
    let i = c.args.valid.instance in
    let (is, less) = c.with_walkway-capacity.ensures in
    rw c.requires (
      laid_none c.with_walkway-capacity.result i.items i.walkway,
      measures-none c.with_walkway-capacity.result (rw is (λ a ha. walkway-most i a ha i.container less (container-measures i c.args.valid.is_valid a ha))),
    )

pub offset_bounds-instance-u : goal.offset_bounds-instance-u
offset_bounds-instance-u c = omega (arith, (valid-says c.args.valid.instance c.args.valid.is_valid).items-few)

pub bounds-instance-u : goal.bounds-instance-u
bounds-instance-u c = omega (arith, (valid-says c.args.valid.instance c.args.valid.is_valid).items-few)

pub with_walkway-requires : goal.with_walkway-requires
with_walkway-requires c =
    let most = item-measures c.args.valid.instance c.args.valid.is_valid (search length_mapped) in
    ((most 0 c.loop-u.u (omega arith) c.loop-u-test.true).1, (most 1 c.loop-u.u (omega arith) c.loop-u-test.true).1)

pub put_item-requires : goal.put_item-requires
put_item-requires c = omega (arith, (valid-says c.args.valid.instance c.args.valid.is_valid).items-few)

pub loop-u-preserved : goal.loop-u-preserved
loop-u-preserved c =
    let i = c.args.valid.instance in
    let u = c.loop-u.u in
    let size = (get_or i.items u no_item).size in
    let room : u < 10 = omega (arith, (valid-says i c.args.valid.is_valid).items-few) in
    let (is, less) = c.with_walkway.ensures in
    let w = c.with_walkway-capacity.result in
    let held = set (set (set c.args.t.now 90 w.width) 91 w.depth) 92 w.shifts in
    rw (c.put_item.ensures, is) (
      laid_next i.items i.walkway held c.loop-u.t u room c.loop-u.invariant.0,
      measures-next i.items i.walkway held c.loop-u.t u room c.loop-u.invariant.0
          (λ a ha. walkway-most i a ha size less (item-measures i c.args.valid.is_valid (search length_mapped) a u ha c.loop-u-test.true).1) c.loop-u.invariant.1,
    )

pub returns : goal.returns
returns c =
    let i = c.args.valid.instance in
    (laid-all i c.loop-u.u (omega arith) (rw (c.requires, c.with_walkway-capacity.ensures.0) at c.loop-u.invariant.0), c.loop-u.invariant.1)
