use Rattle.std.specs.Prelude.{◌≡◌, ◌+◌, ◌-◌, ◌≤◌, ◌<◌}
use Rattle.prelude.specs.Names.{refl, sym, ◌∙◌, List, ℕ, add-one, arith}
use Rattle.model.specs.Series.{stage}
use Rattle.model.specs.Turning.{choice_problem, last_choice}
use Rattle.instance.proofs.Sheets.{valid-says}
use Rattle.instance.specs.declared.Instance.{Instance}
use Rattle.turning.specs.Turned.{turnable_of}
use Rattle.tree_paths.specs.Checkpoints.{Bits, path_of, all_branches}
use Rattle.tree_search.specs.Results.{tree_result}
use Rattle.tree_search.specs.declared.outcome.Outcome.TheVariants.{Infeasible}
use Rattle.tree_search.specs.declared.outcome.TreeResult.{TreeResult}
use Rattle.search.proofs.Series.{steps-within, choice-listed, from_start, goes_on, ends_in}
use Rattle.model.specs.Search as S
use Rattle.search.proofs.choices.run.Goals.{in-Infeasible, in_default}
use Rattle.search.proofs.choices.run.Goals as goal

-- a choice takes no more steps than are left
taken-within : (i : Instance) (choice left length : ℕ) (bs : List ℕ) {r : TreeResult}
    → r ≡ tree_result (choice_problem (turnable_of i) choice) left (S.open_at (path_of length bs)) → r.steps ≤ left
taken-within i choice left length bs = steps-within (choice_problem (turnable_of i) choice) left (S.open_at (path_of length bs))

-- no branches are branches
no_bits : {n : ℕ} {bs : List ℕ} → Bits n bs → Bits 0 bs
unfolding all_branches
no_bits β = record { within = omega arith; bits = refl }

pub last_choice-last-requires : goal.last_choice-last-requires
last_choice-last-requires c = (valid-says _ c.args.valid.is_valid).items-few

pub loop-choice-init : goal.loop-choice-init
loop-choice-init c =
    let a = c.args in
    let all : a.budget - a.budget ≡ 0 = omega arith in
    let start = stage a.checkpoint.choice (S.open_at (path_of a.path.length a.path.branches)) in
    record { bits = c.args.path.bits; afford = omega arith; same = rw all (from_start (turnable_of a.valid.instance) a.checkpoint a.budget start) }

pub invariant_of-ahead : goal.invariant_of-ahead
invariant_of-ahead c = record { bits = c.loop-choice.invariant.bits }

pub answer_in-requires : goal.answer_in-requires
answer_in-requires c =
    let l = c.loop-choice in
    let taken = taken-within c.args.valid.instance l.choice l.left l.ahead.1.0 l.ahead.0 c.try_choice-tried.ensures in
    omega (arith, taken, l.invariant.afford)

pub returns-then-not-matches : goal.returns-then-not-matches
returns-then-not-matches c =
    let a = c.args in
    let l = c.loop-choice in
    let t = turnable_of a.valid.instance in
    let not : c.try_choice-tried.result.outcome ≡ Infeasible → ⊥ = elim c.match-matches.branch [
      | in-Infeasible w ↦ λ o. cc
      | in_default w ↦ w.in_default.not-Infeasible
    ] in
    let within : l.choice ≤ last_choice t = omega (arith, c.loop-choice-test.true, c.last_choice-last.ensures.0) in
    c.answer_in.ensures
    ∙ (ends_in t a.checkpoint l.choice (a.budget - l.left) l.left (S.open_at (path_of l.ahead.1.0 l.ahead.0)) c.try_choice-tried.ensures within refl
    (λ o. absurd (not o)) (choice-listed a.valid.instance l.choice) ∙ l.invariant.same)

pub overflow_sub-left : goal.overflow_sub-left
overflow_sub-left c =
    let l = c.loop-choice in
    taken-within c.args.valid.instance l.choice l.left l.ahead.1.0 l.ahead.0 c.try_choice-tried.ensures

pub loop-choice-preserved : goal.loop-choice-preserved
loop-choice-preserved c =
    let a = c.args in
    let l = c.loop-choice in
    let r = c.try_choice-tried.result in
    let none : r.outcome ≡ Infeasible = elim c.match-matches.branch [ in-Infeasible w ↦ w.in-Infeasible.is | in_default w ↦ cc ] in
    let next : l.choice < last_choice (turnable_of a.valid.instance) = omega (arith, c.loop-choice-test.true, c.last_choice-last.ensures.0) in
    let (w, e) = goes_on (turnable_of a.valid.instance) a.checkpoint l.choice (a.budget - l.left) l.left (path_of l.ahead.1.0 l.ahead.0)
    c.try_choice-tried.ensures none next in
    let more : a.budget - (l.left - r.steps) ≡ a.budget - l.left + r.steps = omega (arith, l.invariant.afford) in
    record { bits = no_bits l.invariant.bits; afford = omega (arith, l.invariant.afford); same = rw (more, add-one) (sym e ∙ l.invariant.same) }

pub answer_in-requires-2 : goal.answer_in-requires-2
answer_in-requires-2 c =
    let l = c.loop-choice in
    let taken = taken-within c.args.valid.instance c.last_choice-last.result l.left l.ahead.1.0 l.ahead.0 c.try_choice-tried-2.ensures in
    omega (arith, taken, l.invariant.afford)

pub returns : goal.returns
returns c =
    let a = c.args in
    let l = c.loop-choice in
    let t = turnable_of a.valid.instance in
    let last = c.last_choice-last.result in
    let there : l.choice ≡ last = omega (arith, c.loop-choice-test.false, l.auto.choice-end, c.requires, c.last_choice-last.ensures.0) in
    let most : last ≡ last_choice t = c.last_choice-last.ensures.0 in
    c.answer_in-2.ensures
    ∙ (ends_in t a.checkpoint last (a.budget - l.left) l.left (S.open_at (path_of l.ahead.1.0 l.ahead.0)) c.try_choice-tried-2.ensures (omega arith) refl
    (λ o. omega arith) (choice-listed a.valid.instance last) ∙ rw there at l.invariant.same)
