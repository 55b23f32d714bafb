-- The instance with its marked items turned is the problem with them turned, and it is valid where it was.
use Rattle.std.specs.Prelude.{◌≡◌, ◌≤◌, ◌<◌}
use Rattle.prelude.specs.Names.{Bool, true, false, List, refl, sym, ap, ◌∙◌, ℕ, zero, suc, dec_lt, arith, length, get_or, take}
use Rattle.prelude.specs.Names.{length-take-le, get_or-take, le-leb, get_or-eq_default}
use Rattle.model.proofs.Below.{and_intro, and_both}
use Rattle.model.specs.Turning.{measured_on, turned, marks_of, choice_problem}
use Rattle.parts.specs.Sizes.{in_range, size_in_range, no_item}
use Rattle.parts.specs.declared.Item.{Item}
use Rattle.instance.specs.declared.Instance.{Instance}
use Rattle.instance.specs.Meaning.{measure_on, problem_of}
use Rattle.instance.specs.Valid.{valid, items_of}
use Rattle.instance.proofs.Ranges.{range_at, range_all}
use Rattle.instance.proofs.Sheets.{valid-says}
use Rattle.turning.specs.Turned.{may_turn_in, turnable_of, is_turned, mark_of, marks_in, each_of_ten, choice_marks, turned_item, turned_items}
use Rattle.turning.specs.Turned.{turned_instance}
use Rattle.turning.proofs.Ten.{each_at, each-length}
use Rattle.turning.proofs.Counts.{may_not-past, unmarked}

turned_none : (b : Bool) → turned_item b no_item ≡ no_item
turned_none true = refl
turned_none false = refl

-- a truth value comes back from its mark, which is 0 or 1
pub mark_back : (b : Bool) → is_turned (mark_of b) ≡ b
mark_back true = refl
mark_back false = refl

pub mark_small : (b : Bool) → mark_of b ≤ 1
mark_small true = omega arith
mark_small false = omega arith

-- each item, turned or not
pub item-turned : (items : List Item) → length items ≡ 10 → (marks : List ℕ) (u : ℕ)
    → get_or (turned_items items marks) u no_item ≡ turned_item (marks_in marks u) (get_or items u no_item)
unfolding turned_items
item-turned items long marks u = elim (dec_lt u 10) [
  | yes h ↦ each_at (λ u. turned_item (marks_in marks u) (get_or items u no_item)) u no_item h
  | no h ↦ let f : ℕ → Item = λ u. turned_item (marks_in marks u) (get_or items u no_item) in
      get_or-eq_default (each_of_ten f) no_item {n = u} (omega (arith, each-length f))
      ∙ sym (ap (turned_item (marks_in marks u)) (get_or-eq_default items no_item {n = u} (omega arith)) ∙ turned_none (marks_in marks u))
]

measure-turned : (b : Bool) (i : Item) (a : ℕ) → measure_on a (turned_item b i).size ≡ measure_on (measured_on b a) i.size
measure-turned true i zero = refl
measure-turned true i (suc zero) = refl
measure-turned true i (suc (suc a)) = refl
measure-turned false i a = refl

module _ (i : Instance) (long : length i.items ≡ 10) (marks : List ℕ) where
  -- what it asks for
  pub problem-turned : problem_of (turned_instance i marks) ≡ turned (problem_of i) (marks_in marks)
  unfolding problem_of turned_instance
  problem-turned = λ k. record {
    items = i.item_count;
    size = λ a u. (ap (λ (x : Item). measure_on a x.size) (item-turned i.items long marks u) ∙ measure-turned (marks_in marks u) (get_or
        i.items u no_item) a) k;
    capacity = λ a. measure_on a i.container;
    walkway = i.walkway;
    precedences = (problem_of i).precedences;
  }

  range_turned : (b : Bool) (x : Item) → size_in_range x.size ≡ true → size_in_range (turned_item b x).size ≡ true
  unfolding size_in_range
  range_turned false x h = h
  range_turned true x h =
      let (w, r) = and_both (in_range x.size.width) _ h in
      let (d, t) = and_both (in_range x.size.depth) _ r in
      and_intro d (and_intro w t)

  turned-length : length (turned_items i.items marks) ≡ 10
  unfolding turned_items
  turned-length = each-length (λ u. turned_item (marks_in marks u) (get_or i.items u no_item))

  pub valid-turned : valid i ≡ true → valid (turned_instance i marks) ≡ true
  unfolding valid turned_instance
  valid-turned h =
      let says = valid-says i h in
      and_intro (le-leb _ _ says.items-few) (and_intro (le-leb _ _ says.precedences-few)
      (and_intro says.container-in_range (and_intro (range_all _ in_range-at) says.precedences-allowed)))
    where
      n : ℕ
      n = i.item_count

      in_range-at : (u : ℕ) → u < length (take n (turned_items i.items marks))
          → size_in_range (get_or (take n (turned_items i.items marks)) u no_item).size ≡ true
      in_range-at u g =
          let m : length (take n (turned_items i.items marks)) ≡ n = length-take-le n _ (omega (arith, (valid-says i h).items-few, turned-length)) in
          let l : u < n = omega arith in
          let given = range_at (items_of i) (valid-says i h).items_in_range u (rw (length-take-le n i.items (omega
          (arith, (valid-says i h).items-few))) l) in
          rw (get_or-take n (turned_items i.items marks) u no_item l, item-turned i.items long marks u)
          (range_turned (marks_in marks u) (get_or i.items u no_item) (rw (get_or-take n i.items u no_item l) at given))

-- the marks of a choice are the model's
pub marks_chosen : (i : Instance) → i.item_count ≤ 10 → (c : ℕ) → marks_in (choice_marks (turnable_of i) c) ≡ marks_of (may_turn_in i) c
unfolding turnable_of choice_marks
marks_chosen i h c = λ k u. at u k
  where
    at : (u : ℕ) → marks_in (choice_marks (turnable_of i) c) u ≡ marks_of (may_turn_in i) c u
    at u = elim (dec_lt u 10) [
      | yes l ↦ ap is_turned (each_at (λ u. mark_of (marks_of (may_turn_in i) c u)) u 0 l) ∙ mark_back (marks_of (may_turn_in i) c u)
      | no l ↦
          let f : ℕ → ℕ = λ u. mark_of (marks_of (may_turn_in i) c u) in
          ap is_turned (get_or-eq_default (each_of_ten f) 0 {n = u} (omega (arith, each-length f)))
          ∙ sym (unmarked (may_turn_in i) c u (may_not-past i.item_count i.items u (omega arith)))
    ]

-- so the instance with the marks of a choice turned is the choice's problem
pub choice-turned : (i : Instance) → length i.items ≡ 10 → i.item_count ≤ 10 → (c : ℕ)
    → problem_of (turned_instance i (choice_marks (turnable_of i) c)) ≡ choice_problem (turnable_of i) c
unfolding turnable_of
choice-turned i long h c = problem-turned i long (choice_marks (turnable_of i) c) ∙ ap (turned (problem_of i)) (marks_chosen i h c)
