-- What domains show and where the search branches (document 01, "The search"; a turn is a branch, a row of turns a path).
use Rattle.std.specs.Prelude.{◌&&◌, ◌||◌, ◌∷◌, ◌-◌}
use Rattle.prelude.specs.Names.{Bool, true, false, not, List, [], ℕ, ltb}
use Rattle.model.specs.Below.{some_below, all_below, first_below}
use Rattle.model.specs.Problem.{Problem, Precedence, Positions, time}
use Rattle.model.specs.Pairs.{pair_of}
use Rattle.model.specs.Domains.{Domains, may_overlap, may_before, fixed_before, remove_overlap, remove_before, fix_before}
use Rattle.model.specs.Domains.{fix_overlap, full_domains}
use Rattle.model.specs.Rules.{greatest_ending}
use Rattle.model.specs.Propagate.{Slot, propagate}

-- "The opening knowledge strikes all but 'u before v' on t for each order"
abbrev pub fix_precedences : List Precedence → Domains → Domains
fix_precedences [] k = k
fix_precedences (o ∷ l) k = fix_precedences l (fix_before k time o.predecessor o.successor)

unfoldable pub opening_domains : Problem → Domains
opening_domains p = fix_precedences p.precedences full_domains

-- all three relations are removed
unfoldable pub empty : Domains → ℕ → ℕ → ℕ → Bool
empty k a u v = not (may_overlap k a u v) && (not (may_before k a u v) && not (may_before k a v u))

-- contradictory: "A piece above the hall's measure, or a pair and axis with all three struck"
unfoldable pub inconsistent : Problem → Domains → Bool
inconsistent p k =
    some_below 3 (λ a. some_below p.items (λ v. ltb (p.capacity a) (p.size a v) || some_below v (λ u. empty k a u v)))

-- "'before' known, one way or the other, on some axis"
unfoldable pub separated : Domains → ℕ → ℕ → Bool
separated k u v = some_below 3 (λ a. fixed_before k a u v || fixed_before k a v u)

-- the same of the pair with number i
abbrev pub pair_separated : Domains → ℕ → Bool
pair_separated k i = separated k (pair_of i).u (pair_of i).v

-- placed: "each pair has 'before' known"
unfoldable pub packed : Problem → Domains → Bool
packed p k = all_below p.items (λ v. all_below v (λ u. separated k u v))

-- "more than one word left"
unfoldable pub undecided : Domains → ℕ → ℕ → ℕ → Bool
undecided k a u v = may_overlap k a u v && (may_before k a u v || may_before k a v u) || may_before k a u v && may_before k a v u

-- "take the first pair in number order that has no known 'before'": its number, of the 45 of ten items
unfoldable pub choice_number : Domains → ℕ
choice_number k = first_below 45 (λ i. not (pair_separated k i)) 0

-- "and its first axis of x, y, t with more than one word left"
unfoldable pub choice_axis : Domains → ℕ → ℕ → ℕ
choice_axis k u v = first_below 3 (λ a. undecided k a u v) 0

unfoldable pub choice : Domains → Slot
choice k = let c = pair_of (choice_number k) in record { axis = choice_axis k c.u c.v; u = c.u; v = c.v }

-- a turn: "each first or second"
pub data Branch : Type 0 where
  first second : Branch

-- "If overlap is left, the first turn strikes overlap and the second strikes both others;
-- otherwise the first strikes 'v before u', the second 'u before v'"
abbrev pub branch_at : Bool → Branch → Domains → ℕ → ℕ → ℕ → Domains
branch_at true first k a u v = remove_overlap k a u v
branch_at true second k a u v = fix_overlap k a u v
branch_at false first k a u v = remove_before k a v u
branch_at false second k a u v = remove_before k a u v

unfoldable pub branched : Domains → Branch → Domains
branched k b = let c = choice k in branch_at (may_overlap k c.axis c.u c.v) b k c.axis c.u c.v

-- "A row stands for the opening knowledge with its turns struck and everything above applied". The last branch comes first in the list
unfoldable pub path_domains : Problem → List Branch → Domains
path_domains p [] = propagate p (opening_domains p)
path_domains p (b ∷ path) = propagate p (branched (path_domains p path) b)

-- "On each axis a piece starts at the total of the greatest chain ending in it, less its own measure"
unfoldable pub starts : Problem → Domains → Positions
starts p k a u = greatest_ending p k a u - p.size a u

-- the plan of a packed path
unfoldable pub plan : Problem → List Branch → Positions
plan p path = starts p (path_domains p path)
