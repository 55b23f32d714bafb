-- How many first branches a path can have, and how far the pairs before the branching pair are done with.
use Rattle.std.specs.Prelude.{◌∷◌, ◌≡◌, ◌<◌}
use Rattle.prelude.specs.Names.{true, List, [], ℕ, suc}
use Rattle.model.specs.Domains.{Domains}
use Rattle.model.specs.Branching.{pair_separated, Branch, first, second}

-- how many branches of a path are first ones
abbrev pub firsts : List Branch → ℕ
firsts [] = 0
firsts (first ∷ path) = suc (firsts path)
firsts (second ∷ path) = firsts path

-- the beginnings of a path that end before its first branches, the last one first: what a stack of snapshots holds
abbrev pub saved : List Branch → List (List Branch)
saved [] = []
saved (first ∷ path) = path ∷ saved path
saved (second ∷ path) = saved path

-- every pair with a number below m has a fixed "before"
abbrev pub Passed : Domains → ℕ → Type 0
Passed k m = (i : ℕ) → i < m → pair_separated k i ≡ true
