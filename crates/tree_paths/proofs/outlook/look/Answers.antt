-- A conflict, or what is seen of the path.
use Rattle.prelude.specs.Names.{List, sym, ◌∙◌}
use Rattle.model.specs.Branching.{Branch}
use Rattle.model.specs.Problem.{Problem}
use Rattle.model.specs.Wide.{wide}
use Rattle.tree_paths.specs.Looks.{Looked, Lookable}
use Rattle.tree_paths.proofs.Seeing.{answered_err, answered_ok, looked_conflict, seen, outlook-of, looked_chosen, seen_passed}
use Rattle.tree_paths.proofs.outlook.look.Goals as goal
use Rattle.tree_paths.proofs.outlook.look.Goals.{After-choose}

pub returns-then-is_err-clause-looked : goal.returns-then-is_err-clause-looked
returns-then-is_err-clause-looked c = λ p path l.
    looked_conflict p l.sound path l.at
    (answered_err _ _ _ _ _ c.propagate.result (sym c.is_err.ensures.value ∙ c.if-is_err.true) (c.propagate.ensures.propagates (wide p) l.at.ready))

pub choose-requires : goal.choose-requires
choose-requires c =
    let (limited, known) = c.requires in
    let h = answered_ok _ _ _ _ _ c.propagate.result (sym c.is_err.ensures.value ∙ c.if-is_err.false) (c.propagate.ensures.propagates known.0 known.1) in
    (h.rested.laid.well_formed, limited)

-- where the domains are consistent: what is seen of every path that they are of
shown : (c : After-choose) (p : Problem) (path : List Branch) → let a = c.args in let l = c.propagate.new in
    Lookable p a.n a.store.now.domains a.store.now.rows a.store.now.queue a.totals.now.numbers path a.from
    → Looked p path l.store.domains l.store.rows l.totals.numbers (outlook-of c.choose.result)
shown c p path l =
    let φ = answered_ok _ _ _ _ _ c.propagate.result (sym c.is_err.ensures.value ∙ c.if-is_err.false) (c.propagate.ensures.propagates (wide p) l.at.ready) in
    let s = seen p l.sound path l.at φ in
    looked_chosen p path s l.count c.choose.result (c.choose.ensures (seen_passed p path s l.count l.passed))

pub returns-in-None-clause-looked : goal.returns-in-None-clause-looked
returns-in-None-clause-looked c = λ p path l. rw c.in-None.is at (shown (goal.at.returns-in-None-clause-looked c).After-choose p path l)

pub returns-in-Some-clause-looked : goal.returns-in-Some-clause-looked
returns-in-Some-clause-looked c = λ p path l. rw c.in-Some.is at (shown (goal.at.returns-in-Some-clause-looked c).After-choose p path l)
