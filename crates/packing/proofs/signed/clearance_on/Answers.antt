-- `packing::signed::clearance_on` meets its contract.
use Rattle.std.proofs.Common.{◌∙◌}
use Rattle.prelude.specs.Names.{ap₂}
use Rattle.instance.specs.Meaning.{problem_of, positions_of}
use Rattle.packing.specs.Parts.{end_of}
use Rattle.packing.specs.Clearance.{greater_of, from_end_to_start, clearance_between}
use Rattle.packing.proofs.Gaps.{i32_value, max_is}
use Rattle.packing.proofs.signed.clearance_on.Goals as goal

pub returns : goal.returns
unfolding clearance_between from_end_to_start end_of problem_of positions_of
returns c =
    let d = c.new-first.ensures in
    let e = c.new-second.ensures in
    i32_value c.max.type_inv (c.max.ensures.value ∙ (max_is _ _
    ∙ ap₂ greater_of (i32_value c.from_end.type_inv (c.from_end.ensures ∙ rw (d, e)))
    (i32_value c.from_end-2.type_inv (c.from_end-2.ensures ∙ rw (d, e)))))
