-- Items in range and precedences in order, tested one after the other.
use Rattle.std.specs.Prelude.{◌≡◌, ◌≤◌, ◌<◌, ◌+◌, ◌&&◌, ◌∷◌, Option, Some}
use Rattle.prelude.specs.Names.{refl, ap, true, List, [], map, ℕ, suc, add-one, length, get_or, drop, drop-cons, drop_of_length-le}
use Rattle.std.specs.List.{list_all}
use Rattle.parts.specs.declared.Item.{Item}
use Rattle.parts.specs.declared.Precedence.{Precedence}
use Rattle.parts.specs.Sizes.{size_in_range, all_in_range, no_precedence}
use Rattle.parts.specs.Precedences.{Arc, arc_of, unlagged, names_items, rises, all_allowed}

-- of the order before one its lag is not looked at
lag_unseen : (n : ℕ) (o : Precedence) (l : List Arc) → all_allowed n (Some (unlagged (arc_of o))) l ≡ all_allowed n (Some o) l
unfolding all_allowed
lag_unseen n o [] = refl
lag_unseen n o (a ∷ l) = refl

module _ (n : ℕ) (last : Option Precedence) (os : List Precedence) (i : ℕ) where
  -- precedence i is tested, and then those after it
  pub next_allowed : i < length os → all_allowed n last (map arc_of (drop i os))
      ≡ ((names_items n (arc_of (get_or os i no_precedence)) && rises last (arc_of (get_or os i no_precedence)))
      && all_allowed n (Some (get_or os i no_precedence)) (map arc_of (drop (i + 1) os)))
  unfolding all_allowed
  next_allowed h =
      let o = get_or os i no_precedence in
      rw (drop-cons os i no_precedence h, add-one) (ap (◌&&◌ (names_items n (arc_of o) && rises last (arc_of o))) (lag_unseen n o (map arc_of (drop (suc i) os))))

  pub none_left : length os ≤ i → all_allowed n last (map arc_of (drop i os)) ≡ true
  unfolding all_allowed
  none_left h = rw (drop_of_length-le os h)

pub ruleset in_order = (next_allowed, none_left)

-- as the library's test of each
pub all_in_range-all : (is : List Item) → list_all (λ i. size_in_range i.size) is ≡ all_in_range is
unfolding all_in_range
all_in_range-all [] = refl
all_in_range-all (i ∷ is) = ap (◌&&◌ (size_in_range i.size)) (all_in_range-all is)
