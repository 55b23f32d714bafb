-- The five rules (document 01, "Knowledge and striking") as tests, for computing: the clauses of specs/Clauses, each seen from the relation that it removes.
-- "These hold for distinct pieces": nothing is removed of an item and itself, so that items in a premise differ.
use Rattle.std.specs.Prelude.{◌&&◌, ◌||◌, ◌∷◌, ◌+◌}
use Rattle.prelude.specs.Names.{Bool, true, false, not, List, [], ℕ, zero, suc, max, ltb, eqb}
use Rattle.model.specs.Below.{some_below, all_below, most_below}
use Rattle.model.specs.Problem.{Problem, gap}
use Rattle.model.specs.Domains.{Domains, may_overlap, may_before, fixed_before, fixed_overlap}

-- the item is in the list
abbrev pub listed : ℕ → List ℕ → Bool
listed u [] = false
listed u (x ∷ l) = eqb u x || listed u l

-- "its total the sum of measures"; "on t a chain total adds the lag between neighbours that have an order", "on x and y a chain counts a walkway": the total
-- where a chain that ends in u, of the total `front`, goes on with one that starts in v, of the total `back`
unfoldable pub joined : Problem → ℕ → ℕ → ℕ → ℕ → ℕ → ℕ
joined p a u v front back = front + gap p a u v + back

-- "A chain is a row of distinct pieces, each known before the next": the greatest total of u and at most f further items, none of them in `had`.
-- v may follow u where `linked u v`; `on u v rest` is the total of u followed by what has the total `rest` from v on. proofs/Chain shows that
-- it is the greatest
module _ (p : Problem) (a : ℕ) (linked : ℕ → ℕ → Bool) (on : ℕ → ℕ → ℕ → ℕ) where
  unfoldable pub longest : ℕ → List ℕ → ℕ → ℕ
  longest zero had u = p.size a u
  longest (suc f) had u =
      max (p.size a u)
      (most_below p.items (λ v. elim (linked u v && not (listed v had)) [ true ↦ on u v (longest f (v ∷ had) v) | false ↦ 0 ]))

-- chains followed back from their last item, and on from their first
module _ (p : Problem) (k : Domains) (a : ℕ) where
  unfoldable pub ending : ℕ → List ℕ → ℕ → ℕ
  unfolding longest
  ending = longest p a (λ u v. fixed_before k a v u) (λ u v rest. joined p a v u rest (p.size a u))

  unfoldable pub starting : ℕ → List ℕ → ℕ → ℕ
  unfolding longest
  starting = longest p a (λ u v. fixed_before k a u v) (λ u v rest. joined p a u v (p.size a u) rest)

  -- the total of "the greatest chain ending in u", and of "the greatest starting in" it
  unfoldable pub greatest_ending : ℕ → ℕ
  greatest_ending u = ending p.items (u ∷ []) u

  unfoldable pub greatest_starting : ℕ → ℕ
  greatest_starting u = starting p.items (u ∷ []) u

module _ (p : Problem) (k : Domains) (a u v : ℕ) where
  -- 1, for overlap of u and v: "Overlap known on two axes of a pair: strike it on the third"
  unfoldable pub rule1 : Bool
  rule1 = all_below 3 (λ b. eqb b a || fixed_overlap k b u v)

  -- 2, for all but u before v: "u before v and v before w known: strike all but u before w"
  unfoldable pub rule2 : Bool
  rule2 = some_below p.items (λ w. fixed_before k a u w && fixed_before k a w v)

  -- 3, for u before v: "u before v known and 'u before w' struck: strike 'v before w'. v before w known and 'u before w' struck: strike 'u before v'"
  unfoldable pub rule3 : Bool
  rule3 =
      some_below p.items
      (λ w. fixed_before k a w u && not (may_before k a w v) || fixed_before k a v w && not (may_before k a u w))

  -- 4, for u before v: "On one axis ab, bc, cd, da known to overlap and overlap struck for ac: strike all but overlap for bd"; here a, b, c, d are x, u, y, v
  unfoldable pub rule4 : Bool
  rule4 =
      some_below p.items
      (λ x. (fixed_overlap k a x u && fixed_overlap k a v x)
      && some_below p.items (λ y. (fixed_overlap k a u y && fixed_overlap k a y v) && not (may_overlap k a x y)))

  -- 5, for u before v: "If the greatest chain ending in u and the greatest starting in v add up to more than the hall"; "rule 5's sum adds" the lag
  -- "between u and v", and on x and y "one" walkway, whether or not anything is known of the two
  unfoldable pub rule5 : Bool
  rule5 = ltb (p.capacity a) (joined p a u v (greatest_ending p k a u) (greatest_starting p k a v))

-- some rule asks to remove "u and v overlap"
unfoldable pub asks_overlap : Problem → Domains → ℕ → ℕ → ℕ → Bool
asks_overlap p k a u v = rule1 p k a u v || (rule2 p k a u v || rule2 p k a v u)

-- some rule asks to remove "u before v"
unfoldable pub asks_before : Problem → Domains → ℕ → ℕ → ℕ → Bool
asks_before p k a u v = rule2 p k a v u || (rule3 p k a u v || (rule4 p k a u v || rule5 p k a u v))

-- some rule asks to remove the relation x
unfoldable pub asks : Problem → Domains → ℕ → ℕ → ℕ → ℕ → Bool
asks p k zero a u v = asks_overlap p k a u v
asks p k (suc zero) a u v = asks_before p k a u v
asks p k (suc (suc x)) a u v = asks_before p k a v u
