-- Items in range, one by one.
use Rattle.std.specs.Prelude.{◌∷◌, ◌≡◌, ◌<◌}
use Rattle.prelude.specs.Names.{true, List, [], refl, ℕ, zero, suc, arith, length, get_or}
use Rattle.model.proofs.Below.{and_both, and_intro}
use Rattle.parts.specs.Sizes.{size_in_range, all_in_range, no_item}
use Rattle.parts.specs.declared.Item.{Item}

pub range_at : (l : List Item) → all_in_range l ≡ true → (u : ℕ) → u < length l → size_in_range (get_or l u no_item).size ≡ true
unfolding all_in_range
range_at [] h u g = absurd (omega arith)
range_at (i ∷ l) h zero g = (and_both _ _ h).0
range_at (i ∷ l) h (suc u) g = range_at l (and_both (size_in_range i.size) (all_in_range l) h).1 u (omega arith)

-- and the other way round
pub range_all : (l : List Item) → ((u : ℕ) → u < length l → size_in_range (get_or l u no_item).size ≡ true) → all_in_range l ≡ true
unfolding all_in_range
range_all [] h = refl
range_all (i ∷ l) h = and_intro (h 0 (omega arith)) (range_all l (λ u g. h (suc u) (omega arith)))
