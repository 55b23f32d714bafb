-- Invariant: of the first i places of axis and item all pairs too long are cut, and nothing past the items.
use Rattle.domains.specs.Narrowed.{Narrowed}
use Rattle.opening.specs.Openings.{PairsAsked, Outside}
use Rattle.opening.proofs.PairCuts.{CutTo}
use Rattle.opening.proofs.cut_pairs.Given as goal

abbrev pub invariant-loop-i : goal.invariant-loop-i
invariant-loop-i l =
    Narrowed (PairsAsked l.totals.numbers) (CutTo l.totals.numbers l.i) l.fn.store.domains l.fn.store.queue l.store.domains l.store.rows l.store.queue
    × Outside l.totals.numbers l.fn.store.domains l.store.domains
