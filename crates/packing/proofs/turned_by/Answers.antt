-- A valid instance has few items, and is valid with some of them turned.
use Rattle.std.proofs.Common.{◌≡◌, length}
use Rattle.instance.proofs.Arrays.{length_mapped}
use Rattle.instance.proofs.Sheets.{valid-says}
use Rattle.turning.proofs.Problems.{valid-turned}
use Rattle.packing.proofs.turned_by.Goals as goal

pub marks_allowed-requires : goal.marks_allowed-requires
marks_allowed-requires c = (valid-says _ c.args.valid.is_valid).items-few

pub invariant_of-result : goal.invariant_of-result
invariant_of-result c =
    let long : length c.args.valid.instance.items ≡ 10 = search (length_mapped, c.well_formed) in
    record { is_valid = rw c.turned-instance.ensures (valid-turned _ long _ c.args.valid.is_valid) }
