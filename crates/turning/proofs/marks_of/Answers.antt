-- `turning::marks_of` meets its contract: a mark is a digit of what is left of the choice, and stays 0 on an item that may not turn.
use Rattle.std.proofs.Common.{◌≡◌, Bool, true, false, ℕ, arith, ap, sym, ◌∙◌, length, get_or, take}
use Rattle.prelude.specs.Names.{length-take, length-take-le}
use Rattle.instance.proofs.Arrays.{length_mapped}
use Rattle.parts.specs.Sizes.{no_item}
use Rattle.turning.specs.Turned.{may_turn_in, turnable_of, mark_of, choice_marks, digit_of, digits_after}
use Rattle.turning.proofs.Ten.{blank_at, fill_next, fill_same, fill_all}
use Rattle.turning.proofs.Counts.{unmarked, may_turn-taken, may_not-past, digit_mark, digits-next}
use Rattle.turning.proofs.marks_of.Goals as goal
use Rattle.turning.proofs.marks_of.Goals.{then-item, else-item}

pub loop-u-preserved : goal.loop-u-preserved
loop-u-preserved c =
    let i = c.args.instance in
    let f = may_turn_in i in
    let u = c.loop-u.u in
    let long : length i.items ≡ 10 = search length_mapped in
    let turns = λ (b : Bool) (e : (get_or (take i.item_count i.items) u no_item).may_turn ≡ b).
    may_turn-taken i.item_count i.items u c.loop-u-test.true e in
    elim c.if-item.branch [
      | then-item w ↦ (let may = turns true w.if-item.true in record {
        left = w.left-is ∙ (ap (digits_after true) c.loop-u.invariant.left ∙ digits-next f c.args.choice u may);
        marks = rw w.marks-is (fill_next c.loop-u.invariant.marks (omega (arith, length-take i.item_count i.items))
            (ap (digit_of true) c.loop-u.invariant.left ∙ digit_mark f c.args.choice u may));
      })
      | else-item w ↦ (let may = turns false w.if-item.false in record {
        left = w.left-is ∙ (ap (digits_after false) c.loop-u.invariant.left ∙ digits-next f c.args.choice u may);
        marks = rw w.marks-is (fill_same c.loop-u.invariant.marks (blank_at {A = ℕ} 0 10 u ∙ digit_mark f c.args.choice u may));
      })
    ]

pub returns : goal.returns
unfolding choice_marks turnable_of
returns c =
    let i = c.args.instance in
    let long : length i.items ≡ 10 = search length_mapped in
    let all : c.loop-u.u ≡ i.item_count = omega (arith, length-take-le i.item_count i.items (omega arith)) in
    fill_all c.loop-u.invariant.marks (λ k h g. blank_at {A = ℕ} 0 10 k ∙ sym (ap mark_of (unmarked (may_turn_in i) c.args.choice k
    (may_not-past i.item_count i.items k (omega arith)))))
