-- Numbers in decimal.
use Rattle.std.specs.Prelude.{◌∷◌, ◌++◌, ◌+◌, ◌/◌, ◌%◌}
use Rattle.prelude.specs.Names.{cond, List, [], ℕ, zero, suc, ltb}

-- the last digits of n in ASCII: all that it has, and at most `places` of them
unfoldable pub digits : ℕ → ℕ → List ℕ
digits zero n = []
digits (suc places) n = cond (ltb n 10) ((48 + n) ∷ []) (digits places (n / 10) ++ ((48 + n % 10) ∷ []))

-- a number in decimal, with no 0 in front. It has no more digits than it has units and one
unfoldable pub decimal : ℕ → List ℕ
decimal n = digits (suc n) n
