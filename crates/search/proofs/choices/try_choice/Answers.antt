use Rattle.search.proofs.choices.try_choice.Goals as goal

pub returns : goal.returns
returns c = rw c.turned_in.ensures at c.run.ensures
