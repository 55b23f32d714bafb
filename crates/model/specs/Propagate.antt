-- Propagation: the rules applied "until nothing more can be struck". proofs/Propagate shows that any order of removals comes to the same.
use Rattle.std.specs.Prelude.{◌&&◌, ◌∷◌, ◌+◌, ◌/◌, ◌%◌}
use Rattle.prelude.specs.Names.{Bool, true, false, not, [], ℕ, zero, suc, ltb, eqb}
use Rattle.model.specs.Problem.{Problem}
use Rattle.model.specs.Pairs.{pair_of}
use Rattle.model.specs.Domains.{Domains, domain, overlap_bit, before_bit, after_bit}
use Rattle.model.specs.Rules.{asks_overlap, asks_before}

-- what a domain belongs to: a pair u < v on an axis
pub record Slot : Type 0 where
  pub axis : ℕ
  pub u : ℕ
  pub v : ℕ

-- the slot whose domain is at place i: pair number × 3 + axis
unfoldable pub slot_at : ℕ → Slot
slot_at i = let c = pair_of (i / 3) in record { axis = i % 3; u = c.u; v = c.v }

-- what a pass leaves of the domain m; of pairs that are not of the problem it leaves all
abbrev pub kept_if : Bool → Problem → Domains → Slot → ℕ → ℕ
kept_if true p k c m =
    domain (overlap_bit m && not (asks_overlap p k c.axis c.u c.v))
    (before_bit m && not (asks_before p k c.axis c.u c.v))
    (after_bit m && not (asks_before p k c.axis c.v c.u))
kept_if false p k c m = m

unfoldable pub kept : Problem → Domains → Slot → ℕ → ℕ
kept p k c m = kept_if (ltb c.v p.items) p k c m

-- the function applied to each domain with its slot, from place i on
abbrev pub at_slots : (Slot → ℕ → ℕ) → ℕ → Domains → Domains
at_slots f i [] = []
at_slots f i (m ∷ k) = f (slot_at i) m ∷ at_slots f (suc i) k

-- everything removed that some rule asks for, seen from the domains k
unfoldable pub pass : Problem → Domains → Domains
pass p k = at_slots (kept p k) 0 k

abbrev pub same : Domains → Domains → Bool
same [] [] = true
same [] (y ∷ j) = false
same (x ∷ k) [] = false
same (x ∷ k) (y ∷ j) = elim (eqb x y) [ true ↦ same k j | false ↦ false ]

abbrev pub sum : Domains → ℕ
sum [] = 0
sum (m ∷ k) = m + sum k

-- passes until one changes nothing, at most f
unfoldable pub passes : Problem → ℕ → Domains → Domains
passes p zero k = k
passes p (suc f) k = let j : Domains = pass p k in elim (same j k) [ true ↦ k | false ↦ passes p f j ]

-- "until nothing more can be struck": each pass but the last lowers a number, so that as many as the numbers add up to are enough
unfoldable pub propagate : Problem → Domains → Domains
propagate p k = passes p (sum k) k
