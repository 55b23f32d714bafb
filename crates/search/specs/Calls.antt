-- A list of calls in values (document 01, "The search": "A list is all in values or all on the screen"). A call is its budget; each is handed
-- the checkpoint that the last returned, which follows, so none meets a condition of the table.
use Rattle.prelude.specs.Names.{true, ℕ}
use Rattle.model.specs.Lists.{Service}
use Rattle.model.specs.Run.{ChoiceCheckpoint, plan_at}
use Rattle.instance.specs.Values.{opening_checkpoint, origin_packing}
use Rattle.instance.specs.declared.Checkpoint.{Checkpoint}
use Rattle.instance.specs.declared.Instance.{Instance}
use Rattle.instance.specs.declared.Packing.{Packing}
use Rattle.turning.specs.Turned.{turnable_of}
use Rattle.tree_paths.specs.Checkpoints.{value_of}
use Rattle.search.specs.Results.{answer_number, packing_of, search_result}

-- what `Instance::opening` and `search::search` return
abbrev pub values : Instance → Service ChoiceCheckpoint ℕ Checkpoint Packing
values i = record {
  opening = opening_checkpoint;
  budget = λ m. m;
  admitted = λ m. true;
  code = λ m c. answer_number (search_result i c m).answer;
  next = λ m c. (search_result i c m).checkpoint;
  steps = λ m c. (search_result i c m).steps;
  plan = λ m c. (search_result i c m).packing;
  hold = value_of;
  plan_of = λ κ. packing_of (turnable_of i) (plan_at (turnable_of i) κ);
  no_plan = λ m. origin_packing;
}
