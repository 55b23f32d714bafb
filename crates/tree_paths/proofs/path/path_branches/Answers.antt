-- One branch more of the array, which is read from its start.
use Rattle.std.specs.Prelude.{◌≡◌}
use Rattle.prelude.specs.Names.{arith, get_or}
use Rattle.tree_paths.specs.Checkpoints.{branch_of, branches_of}
use Rattle.tree_paths.proofs.Checkpoints.{path_in_root, path_in_next, bits-next, path_next}
use Rattle.tree_paths.proofs.path.path_branches.Goals as goal

pub loop-i-init : goal.loop-i-init
unfolding branches_of
loop-i-init c = path_in_root

pub loop-i-preserved : goal.loop-i-preserved
loop-i-preserved c =
    let l = c.loop-i in
    let h = path_in_next (branch_of (get_or c.args.path.branches l.i 0)) l.invariant in
    rw path_next (rw (bits-next l.i c.args.path.bits (omega arith)) at h)

pub returns : goal.returns
returns c = let e : c.loop-i.i ≡ c.args.path.length = omega arith in rw (← e) c.loop-i.invariant.entries
