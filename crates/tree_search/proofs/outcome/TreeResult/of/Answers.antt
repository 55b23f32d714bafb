-- The definitions unfold to what is made.
use Rattle.prelude.specs.Names.{refl}
use Rattle.tree_paths.specs.Checkpoints.{branches_of}
use Rattle.tree_search.specs.Results.{origins}
use Rattle.tree_search.proofs.outcome.TreeResult.of.Goals as goal

pub returns : goal.returns
unfolding branches_of origins
returns c = refl
