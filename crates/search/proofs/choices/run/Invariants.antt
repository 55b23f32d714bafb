-- The whole call is the one that is left, from the choice and its path, after the steps so far. Of the path ahead, branches and length are given; that
-- they are a path's is said here.
use Rattle.std.specs.Prelude.{◌≡◌, ◌-◌, ◌≤◌}
use Rattle.model.specs.Series.{stage}
use Rattle.turning.specs.Turned.{turnable_of}
use Rattle.tree_paths.specs.Checkpoints.{Bits, path_of}
use Rattle.search.specs.Results.{followed}
use Rattle.search.proofs.Series.{result_from}
use Rattle.model.specs.Search as S
use Rattle.search.proofs.choices.run.Given as goal

abbrev pub invariant-loop-choice : goal.invariant-loop-choice
invariant-loop-choice l = let t = turnable_of l.valid.instance in let c = l.checkpoint in record {
  bits : Bits l.ahead.1.0 l.ahead.0;
  afford : l.left ≤ l.budget;
  same : result_from t c (l.budget - l.left) l.left (stage l.choice (S.open_at (path_of l.ahead.1.0 l.ahead.0)))
      ≡ followed t l.budget c (stage c.choice (S.open_at (path_of l.fn.path.length l.fn.path.branches)));
}
