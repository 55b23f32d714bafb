-- `turning::marks_allowed` meets its contract: what `all` answers of the items of the count, each beside its mark.
use Rattle.std.proofs.Common.{◌≡◌, true, false, length, rules, tests, arith}
use Rattle.prelude.specs.Names.{length-take-le, get_or-take}
use Rattle.std.proofs.lemmas.Slice.Zip.{length-zip, get_or-zip}
use Rattle.instance.proofs.Arrays.{length_mapped}
use Rattle.std.specs.List.{zip}
use Rattle.std.proofs.lemmas.Iterator.{YieldsList-from_slice, YieldsList-from_zip, YieldsList-from_take, cases_from_all}
use Rattle.parts.specs.Sizes.{no_item}
use Rattle.turning.specs.Turned.{mark_allowed, marks_allowed}
use Rattle.turning.proofs.Calls.{all_answer}
use Rattle.turning.proofs.marks_allowed.Goals as goal

pub returns : goal.returns
unfolding marks_allowed
returns c =
    let a = c.args in
    let answer = cases_from_all c.all.new.self _ c.all.result (λ p. mark_allowed p.0.may_turn p.1 ≡ true) (λ p. mark_allowed p.0.may_turn p.1 ≡ false) c.all.ensures.ran
    (YieldsList-from_take a.instance.item_count (YieldsList-from_zip (YieldsList-from_slice a.instance.items cc) (YieldsList-from_slice a.marks cc)) cc)
    (λ x q k. search (rules, tests)) (λ x q k. search (rules, tests)) in
    let long : length a.instance.items ≡ 10 = search length_mapped in
    let room : length a.marks ≡ 10 = search rules in
    let paired = length-zip a.instance.items a.marks in
    all_answer (λ p. mark_allowed p.0.may_turn p.1) _ _ _ (no_item, 0) _ answer (length-take-le a.instance.item_count _ (omega arith)) (λ k l.
    rw (get_or-take a.instance.item_count (zip a.instance.items a.marks) k (no_item, 0) l, get_or-zip a.instance.items a.marks k (no_item, 0) (omega arith) (omega arith)))
