-- What a step shows of the path, and where it leads.
use Rattle.std.specs.Prelude.{◌≡◌, ◌∷◌}
use Rattle.prelude.specs.Names.{List, [], refl, ◌∙◌, ℕ, arith, length, length-replicate}
use Rattle.model.specs.Admits.{Sound}
use Rattle.model.specs.Branching.{second}
use Rattle.instance.proofs.Arrays.{length_mapped}
use Rattle.instance.specs.Meaning.{problem_of}
use Rattle.instance.specs.declared.Instance.{Instance}
use Rattle.opening.proofs.Sound.{valid-sound}
use Rattle.opening.specs.declared.Root.{Root}
use Rattle.nodes.specs.Nodes.{At}
use Rattle.nodes.specs.declared.snapshots.Snapshot.{Snapshot}
use Rattle.tree_paths.specs.Checkpoints.{Bits, path_of, branches_of}
use Rattle.tree_paths.proofs.SearchState.{standing_root}
use Rattle.tree_search.specs.Results.{not_following, infeasible_after, spent_after, packed_after}
use Rattle.tree_search.specs.Frontiers.{AtRoot}
use Rattle.tree_search.proofs.Complete.{startable, started_plan}
use Rattle.tree_search.proofs.Frontiers.{same_branches, at_conflict, at_fork}
use Rattle.tree_search.proofs.Outcomes.{result_unfollowed}
use Rattle.tree_search.proofs.Stepping.{past_start, past_small, past_fork, past_back, result_infeasible, result_packed, result_spent}
use Rattle.model.specs.Search as S
use Rattle.tree_search.proofs.run_from.Goals as goal
use Rattle.tree_search.proofs.run_from.Goals.{in-Fork, in-Conflict+else-not-go_back}

-- the root of an instance, with no snapshots yet
at_root : (i : Instance) {n : ℕ} {given : List ℕ} → Sound (problem_of i) → Bits n given → (root : Root)
    → At (problem_of i) root.store.domains root.store.rows root.store.queue root.totals.numbers [] → {s : List Snapshot} → length s ≡ 90 → {bs : List ℕ}
    → bs ≡ branches_of (path_of n given)
    → AtRoot (problem_of i) i.item_count n given (record {
      store = root.store;
      totals = root.totals;
      kept = 0;
      branches = bs;
      depth = 0;
      from = 0;
    }) s
unfolding problem_of
at_root i sound bits root at room held = record {
  sound = sound;
  count = refl;
  short = bits.within;
  here = record { stands = standing_root room; at = at };
  held = held;
}

pub follow-requires : goal.follow-requires
follow-requires c =
    let i = c.args.valid.instance in
    let sound = valid-sound i c.args.valid.is_valid (search (length_mapped, c.well_formed)) in
    let long = length-replicate {A = Snapshot} 90 c.blank-snapshots.result in
    (problem_of i, c.args.path.branches, at_root i sound c.args.path.bits c.args.root.now c.requires long c.path_branches.ensures)

pub returns-then-not-follow : goal.returns-then-not-follow
unfolding not_following
returns-then-not-follow c =
    let i = c.args.valid.instance in
    let sound = valid-sound i c.args.valid.is_valid (search (length_mapped, c.well_formed)) in
    c.of.ensures ∙ result_unfollowed (problem_of i) c.args.budget (S.open_at (path_of c.args.path.length c.args.path.branches))
    (c.if-not-follow.ensures (problem_of i) c.args.path.branches
    (at_root i sound c.args.path.bits c.args.root.now c.requires (length-replicate {A = Snapshot} 90 c.blank-snapshots.result) c.path_branches.ensures))

pub loop-steps-init : goal.loop-steps-init
unfolding problem_of
loop-steps-init c =
    let i = c.args.valid.instance in
    let sound = valid-sound i c.args.valid.is_valid (search (length_mapped, c.well_formed)) in
    let (here, held) = c.if-not-follow.ensures (problem_of i) c.args.path.branches
    (at_root i sound c.args.path.bits c.args.root.now c.requires (length-replicate {A = Snapshot} 90 c.blank-snapshots.result) c.path_branches.ensures) in
    record {
      path = path_of c.args.path.length c.args.path.branches;
      at = record { sound = sound; count = refl; here = here };
      past = past_start here.stands.forks held;
    }

pub go_on-requires : goal.go_on-requires
go_on-requires c =
    let l = c.loop-steps.invariant in
    (problem_of c.args.valid.instance, l.path, at_fork l.at (c.in-Fork.ensures _ l.path _ l.at) (past_small l.past c.loop-steps.frontier.depth))

pub returns-then-not-go_back : goal.returns-then-not-go_back
unfolding infeasible_after
returns-then-not-go_back c =
    let l = c.loop-steps.invariant in
    let shows = c.in-Conflict.ensures _ l.path _ l.at in
    c.of-then-not-go_back.ensures ∙ (result_infeasible l.past c.loop-steps-test.true shows.looked
    (c.if-not-go_back.ensures _ l.path (at_conflict l.at shows l.past.held)))

pub starts_of-requires : goal.starts_of-requires
starts_of-requires c =
    let l = c.loop-steps.invariant in
    rw l.at.count at (startable _ l.at.sound.limited l.path (c.in-Complete.ensures _ l.path _ l.at).looked.1)

pub returns-in-Complete : goal.returns-in-Complete
unfolding packed_after
returns-in-Complete c =
    let p = problem_of c.args.valid.instance in
    let l = c.loop-steps.invariant in
    let shows = c.in-Complete.ensures p l.path _ l.at in
    let ten : length c.starts_of.result ≡ 10 = search length_mapped in
    rw (c.result.ensures, (same_branches l.at shows).0) (result_packed l.past c.loop-steps-test.true shows.looked.0 shows.stands.deep
    (started_plan p l.at.sound.limited l.path shows.looked.1 l.at.sound l.at.here.stands.forks (rw l.at.count c.starts_of.ensures) ten))

pub loop-steps-preserved : goal.loop-steps-preserved
loop-steps-preserved c =
    let p = problem_of c.args.valid.instance in
    let l = c.loop-steps.invariant in
    elim c.match-look.branch [
      | in-Fork w ↦
          let shows = w.in-Fork.ensures p l.path _ l.at in
          let went = w.go_on.ensures p l.path (at_fork l.at shows (past_small l.past c.loop-steps.frontier.depth)) in
          rw (w.frontier-is, w.snapshots-is) (record {
            path = _;
            at = record { sound = l.at.sound; count = l.at.count; here = went.ahead };
            past = rw (went.branches, (same_branches l.at shows).0) (past_fork l.past c.loop-steps-test.true shows.looked.0 shows.stands.deep);
          })
      | in-Conflict+else-not-go_back w ↦
          let shows = w.in-Conflict.ensures p l.path _ l.at in
          let (to, back, here, held) = w.if-not-go_back.ensures p l.path (at_conflict l.at shows l.past.held) in
          rw (w.frontier-is, w.snapshots-is) (record {
            path = second ∷ to;
            at = record { sound = l.at.sound; count = l.at.count; here = here };
            past = past_back l.past c.loop-steps-test.true shows.looked back held.entries;
          })
    ]

pub returns : goal.returns
unfolding spent_after
returns c =
    let l = c.loop-steps.invariant in
    c.result-2.ensures ∙ result_spent l.past (omega arith) l.at.here.stands.deep
