-- `turning::last_choice` meets its contract: each item that may turn doubles the count, which stays at most 1,024.
use Rattle.std.proofs.Common.{◌≡◌, ◌-◌, Bool, true, false, ℕ, arith, ap, sym, ◌∙◌, length, get_or, take}
use Rattle.parts.specs.Sizes.{no_item}
use Rattle.prelude.specs.Names.{length-take-le}
use Rattle.instance.proofs.Arrays.{length_mapped}
use Rattle.model.specs.Turning.{choice_count}
use Rattle.turning.specs.Turned.{may_turn_in}
use Rattle.turning.proofs.Counts.{count_512, count_1024, count_some, count_more, may_turn-taken, last_choice-is}
use Rattle.turning.proofs.last_choice.Goals as goal
use Rattle.turning.proofs.last_choice.Goals.{then-item, else-item}

pub overflow_mul-count : goal.overflow_mul-count
overflow_mul-count c = omega (arith, c.loop-item.invariant, count_512 (may_turn_in c.args.instance) c.loop-item.item-index 0)

pub loop-item-preserved : goal.loop-item-preserved
loop-item-preserved c =
    let i = c.args.instance in
    let more = λ (b : Bool) (e : (get_or (take i.item_count i.items) c.loop-item.item-index no_item).may_turn ≡ b).
    count_more (may_turn_in i) c.loop-item.item-index (may_turn-taken i.item_count i.items c.loop-item.item-index c.loop-item-test.true e) in
    elim c.if-item.branch [
      | then-item w ↦ omega (arith, c.loop-item.invariant, more true w.if-item.true)
      | else-item w ↦ omega (arith, c.loop-item.invariant, more false w.if-item.false)
    ]

pub overflow_sub-result : goal.overflow_sub-result
overflow_sub-result c = omega (arith, c.loop-item.invariant, count_some (may_turn_in c.args.instance) c.loop-item.item-index 0)

pub returns : goal.returns
returns c =
    let i = c.args.instance in
    let f = may_turn_in i in
    let long : length i.items ≡ 10 = search length_mapped in
    let all : c.loop-item.item-index ≡ i.item_count = omega (arith, length-take-le i.item_count i.items (omega arith)) in
    let count : c.loop-item.count ≡ choice_count f 0 i.item_count = rw all at c.loop-item.invariant in
    (ap (λ (m : ℕ). m - 1) count ∙ sym (last_choice-is i), omega (arith, count_1024 f i.item_count 0 c.requires, count_some f i.item_count 0))
