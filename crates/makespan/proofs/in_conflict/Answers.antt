use Rattle.std.specs.Prelude.{◌≡◌}
use Rattle.prelude.specs.Names.{true, false, refl, ℕ}
use Rattle.turning.specs.Turned.{turnable_of}
use Rattle.instance.specs.Reads.{Full}
use Rattle.instance.specs.Valid.{valid}
use Rattle.instance.specs.Values.{opening_checkpoint}
use Rattle.instance.specs.declared.Checkpoint.{Checkpoint}
use Rattle.instance.specs.declared.Instance.{Instance}
use Rattle.search.specs.declared.answer.Answer.{Answer}
use Rattle.search.specs.declared.answer.Answer.TheVariants.{Packed, Infeasible, BudgetSpent, Refused}
use Rattle.search.specs.declared.answer.SearchResult.{SearchResult}
use Rattle.search.specs.Results.{search_result}
use Rattle.makespan.specs.Results.{choices_of, ConflictIf}
use Rattle.makespan.proofs.Lengths.{says_none, first-steps}
use Rattle.makespan.proofs.in_conflict.Goals as goal

-- what the first steps answer
told : (i : Instance) (choices : ℕ) {o : Checkpoint} {r : SearchResult} → valid i ≡ true → choices ≡ choices_of (turnable_of i) → o ≡ opening_checkpoint
    → r ≡ search_result i o choices → Full i → ConflictIf (turnable_of i) (says_none r.answer)
told i choices v e o h full = rw (h, o, e) (first-steps i v full)

not-none : (a : Answer) → (a ≡ Infeasible → ⊥) → says_none a ≡ false
not-none Packed h = refl
not-none Infeasible h = absurd (h refl)
not-none BudgetSpent h = refl
not-none (Refused e) h = refl

pub returns-in-Infeasible : goal.returns-in-Infeasible
returns-in-Infeasible c =
    let s = c.search-first.ensures in
    rw c.in-Infeasible.is at (told c.args.valid.instance c.args.choices c.args.valid.is_valid c.requires c.opening.ensures s.value s.full)

pub returns-in_default : goal.returns-in_default
returns-in_default c =
    let s = c.search-first.ensures in
    rw (not-none _ c.in_default.not-Infeasible) at (told c.args.valid.instance c.args.choices c.args.valid.is_valid c.requires c.opening.ensures s.value s.full)
