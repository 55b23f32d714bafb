-- `packing::feasible::ordered` meets its contract: the precedences of a valid instance name items, and what `all` answers of them.
use Rattle.std.proofs.Common.{◌≡◌, Bool, true, false, length, sym, ◌∙◌, rules, tests, arith}
use Rattle.prelude.specs.Names.{length-take-le, get_or-take}
use Rattle.std.proofs.lemmas.Iterator.{YieldsList-from_slice, YieldsList-from_take, cases_from_all}
use Rattle.std.proofs.lemmas.Iterator.Adapters.{serves_from_places}
use Rattle.parts.specs.declared.Precedence.{Precedence}
use Rattle.parts.specs.Sizes.{no_precedence}
use Rattle.instance.proofs.Sheets.{valid-says}
use Rattle.instance.specs.Valid.{precedences_of}
use Rattle.turning.proofs.Calls.{all_answer}
use Rattle.packing.specs.Parts.{precedence_kept}
use Rattle.packing.proofs.Named.{named, named-taken}
use Rattle.packing.proofs.Loops.{kept_loop, ordered_by}
use Rattle.packing.proofs.feasible.ordered.Goals as goal

pub all-requires-clause-callable : goal.all-requires-clause-callable
all-requires-clause-callable c =
    let i = c.args.valid.now.instance in
    serves_from_places (YieldsList-from_take i.precedence_count (YieldsList-from_slice i.precedences cc) cc) (λ x q k. search rules) (λ x k l e.
    let named_items = named-taken 10 i.precedence_count i.precedences (named i c.args.valid.now.is_valid) x.now k l e in search rules)

pub returns : goal.returns
returns c =
    let i = c.args.valid.now.instance in
    let m = i.precedence_count in
    let long : length i.precedences ≡ 90 = search rules in
    let few = (valid-says _ c.args.valid.now.is_valid).precedences-few in
    let kept : Precedence → Bool = precedence_kept i.items c.args.packing.now.positions in
    let answer = cases_from_all c.all.new.self _ c.all.result (λ o. kept o ≡ true) (λ o. kept o ≡ false) c.all.ensures.ran
    (YieldsList-from_take m (YieldsList-from_slice i.precedences cc) cc) (λ x q k. search (rules, tests)) (λ x q k. search (rules, tests)) in
    all_answer kept _ m (precedences_of i) no_precedence _ answer (length-take-le m i.precedences (omega arith)) (λ k l. rw (get_or-take m i.precedences k no_precedence l))
    ∙ sym (ordered_by _ _ ∙ kept_loop _ _ _ _ (omega arith))
