-- The relations left of each pair of items on each axis (document 01, "Knowledge and striking"; knowledge is `Domains`, a word a relation,
-- the words left a domain, striking removal, known fixed).
use Rattle.std.specs.Prelude.{◌&&◌, ◌+◌, ◌*◌, ◌/◌, ◌%◌}
use Rattle.prelude.specs.Names.{Bool, true, false, not, cond, List, ℕ, zero, suc, min, max, compare, Ordering}
use Rattle.prelude.specs.Names.{ordering_lt, ordering_eq, ordering_gt, eqb, get_or, set, replicate}
use Rattle.model.specs.Pairs.{pair_number}

-- 135 numbers from 0 to 7: the domain of a pair on an axis is at pair number × 3 + axis
abbrev pub Domains : Type 0
Domains = List ℕ

-- "For each pair and axis three words are possible": bit 1 overlap, 2 u before v, 4 v before u, for u < v
unfoldable pub domain : Bool → Bool → Bool → ℕ
domain overlap before after = cond overlap 1 0 + cond before 2 0 + cond after 4 0

abbrev pub odd : ℕ → Bool
odd m = eqb (m % 2) 1

unfoldable pub overlap_bit : ℕ → Bool
overlap_bit m = odd m

unfoldable pub before_bit : ℕ → Bool
before_bit m = odd (m / 2)

unfoldable pub after_bit : ℕ → Bool
after_bit m = odd (m / 4)

-- where the domain of the pair u, v is, with u < v
unfoldable pub index : ℕ → ℕ → ℕ → ℕ
index a u v = pair_number u v * 3 + a

-- the same for two items in either order
unfoldable pub index_of : ℕ → ℕ → ℕ → ℕ
index_of a u v = index a (min u v) (max u v)

-- The bits by number, 0 to 2, and a domain without one; there is no bit 3
abbrev pub bit : ℕ → ℕ → Bool
bit zero m = overlap_bit m
bit (suc zero) m = before_bit m
bit (suc (suc zero)) m = after_bit m
bit (suc (suc (suc y))) m = true

abbrev pub clear : ℕ → ℕ → ℕ
clear zero m = domain false (before_bit m) (after_bit m)
clear (suc zero) m = domain (overlap_bit m) false (after_bit m)
clear (suc (suc zero)) m = domain (overlap_bit m) (before_bit m) false
clear (suc (suc (suc y))) m = m

-- Any two items in either order: their relations have the numbers 0 overlap, 1 "u before v" and 2 "v before u".
-- The same relation seen from v
abbrev pub converse : ℕ → ℕ
converse zero = 0
converse (suc zero) = 2
converse (suc (suc x)) = 1

-- the bit of the relation x, by how u compares with v; of an item and itself nothing is ever removed
abbrev pub place : Ordering → ℕ → ℕ
place ordering_lt x = min x 2
place ordering_eq x = 3
place ordering_gt x = converse x

-- the relation x of u and v is left on the axis a
abbrev pub left : Domains → ℕ → ℕ → ℕ → ℕ → Bool
left k x a u v = bit (place (compare u v) x) (get_or k (index_of a u v) 0)

-- "Striking removes words": the domains without it
abbrev pub cleared : Domains → ℕ → ℕ → ℕ → ℕ → Domains
cleared k x a u v = set k (index_of a u v) (clear (place (compare u v) x) (get_or k (index_of a u v) 0))

-- From here on nothing asks whether u < v: "u and v overlap" and "u before v", left and removed
unfoldable pub may_overlap : Domains → ℕ → ℕ → ℕ → Bool
may_overlap k a u v = left k 0 a u v

unfoldable pub may_before : Domains → ℕ → ℕ → ℕ → Bool
may_before k a u v = left k 1 a u v

unfoldable pub remove_overlap : Domains → ℕ → ℕ → ℕ → Domains
remove_overlap k a u v = cleared k 0 a u v

unfoldable pub remove_before : Domains → ℕ → ℕ → ℕ → Domains
remove_before k a u v = cleared k 1 a u v

-- any relation by its number (2 is 1 of v and u): whether it is removed, and the domains without it
unfoldable pub gone : Domains → ℕ → ℕ → ℕ → ℕ → Bool
gone k zero a u v = not (may_overlap k a u v)
gone k (suc zero) a u v = not (may_before k a u v)
gone k (suc (suc x)) a u v = not (may_before k a v u)

unfoldable pub without : Domains → ℕ → ℕ → ℕ → ℕ → Domains
without k zero a u v = remove_overlap k a u v
without k (suc zero) a u v = remove_before k a u v
without k (suc (suc x)) a u v = remove_before k a v u

-- "A word is known when the other two are struck": u before v, and overlap
unfoldable pub fixed_before : Domains → ℕ → ℕ → ℕ → Bool
fixed_before k a u v = not (may_overlap k a u v) && not (may_before k a v u)

unfoldable pub fixed_overlap : Domains → ℕ → ℕ → ℕ → Bool
fixed_overlap k a u v = not (may_before k a u v) && not (may_before k a v u)

-- "strike all but": u before v, and overlap
unfoldable pub fix_before : Domains → ℕ → ℕ → ℕ → Domains
fix_before k a u v = remove_overlap (remove_before k a v u) a u v

unfoldable pub fix_overlap : Domains → ℕ → ℕ → ℕ → Domains
fix_overlap k a u v = remove_before (remove_before k a v u) a u v

-- nothing is removed yet
abbrev pub full_domains : Domains
full_domains = replicate 135 7
