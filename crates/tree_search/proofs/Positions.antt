-- Positions as values.
use Rattle.std.specs.Prelude.{◌⊎◌, ◌≡◌, ◌≤◌, ◌<◌}
use Rattle.prelude.specs.Names.{List, inl, inr, refl, sym, ◌∙◌, ℕ, dec_lt, arith, length, get_or, ext_get_or, lt-ltb}
use Rattle.prelude.specs.Names.{le-ltb}
use Rattle.model.proofs.Below.{below_three}
use Rattle.model.specs.Admits.{Sound}
use Rattle.model.specs.Branching.{Branch, path_domains, starts, plan}
use Rattle.model.specs.Domains.{Domains}
use Rattle.model.specs.Problem.{Problem, Positions, Feasible, EndsBefore, EndsAhead, time}
use Rattle.instance.proofs.Positions.{ten-at}
use Rattle.instance.specs.Meaning.{start}
use Rattle.instance.specs.Values.{origin}
use Rattle.instance.specs.declared.Position.{Position}
use Rattle.tree_search.specs.Results.{position_of, positions_list}

-- a list of ten that has a packing's positions at its items, and 0 past them, is the packing's list
module _ (p : Problem) (q : Positions) (r : List Position) (long : length r ≡ 10)
    (placed : (a u : ℕ) → a < 3 → u < p.items → start a (get_or r u origin) ≡ q a u) (past : (u : ℕ) → p.items ≤ u → get_or r u origin ≡ origin) where
  entry_is : (u : ℕ) → Dec (u < p.items) → get_or r u origin ≡ position_of p.items q u
  entry_is u (yes h) =
      let x : (get_or r u origin).x ≡ q 0 u = placed 0 u (omega arith) h in
      let y : (get_or r u origin).y ≡ q 1 u = placed 1 u (omega arith) h in
      let t : (get_or r u origin).t ≡ q 2 u = placed 2 u (omega arith) h in
      rw (lt-ltb u p.items h) (λ i. record { x = x i; y = y i; t = t i })
  entry_is u (no h) = past u (omega arith) ∙ rw (le-ltb u p.items (omega arith))

  pub positions_are : r ≡ positions_list p q
  unfolding positions_list
  positions_are =
      ext_get_or origin r _ long (λ u h. entry_is u (dec_lt u p.items) ∙ sym (ten-at origin (position_of p.items q) u (omega arith)))

-- and back: its positions are the packing's
pub positions-back : (p : Problem) → p.items ≤ 10 → (q : Positions) (a u : ℕ) → a < 3 → u < p.items
    → start a (get_or (positions_list p q) u origin) ≡ q a u
unfolding positions_list
positions-back p l q a u la lu =
    rw (ten-at origin (position_of p.items q) u (omega arith), lt-ltb u p.items lu)
    (below_three (λ a. start a (record { x = q 0 u; y = q 1 u; t = q 2 u }) ≡ q a u) refl refl refl a la)

-- the packing of a path's greatest chains is its plan
pub plan_is : (p : Problem) (path : List Branch) (k : Domains) → k ≡ path_domains p path → (r : List Position) → length r ≡ 10
    → ((a u : ℕ) → a < 3 → u < p.items → start a (get_or r u origin) ≡ starts p k a u) → ((u : ℕ) → p.items ≤ u → get_or r u origin ≡ origin)
    → r ≡ positions_list p (plan p path)
unfolding plan
plan_is p path k e r long placed past = positions_are p (starts p (path_domains p path)) r long (λ a u la lu. rw (← e) (placed a u la lu)) past

-- what fits is said of the items' positions alone
pub feasible-same : (p : Problem) → Sound p → (q r : Positions) → ((a u : ℕ) → a < 3 → u < p.items → r a u ≡ q a u) → Feasible p q → Feasible p r
unfolding EndsBefore EndsAhead
feasible-same p σ q r e f = record {
  inside = λ a u la lu. rw (e a u la lu) (f.inside a u la lu);
  apart = λ u v lu lv d. apart u v lu lv (f.apart u v lu lv d);
  ordered = λ o m. let s = σ.named o m in rw (e time _ s.axis s.item_u, e time _ s.axis s.item_v) (f.ordered o m);
}
  where
    ends : (a u v : ℕ) → a < 3 → u < p.items → v < p.items → EndsBefore p q a u v → EndsBefore p r a u v
    ends a u v la lu lv h = rw (e a u la lu, e a v la lv) h

    apart : (u v : ℕ) → u < p.items → v < p.items → (a : ℕ) × (a < 3) × (EndsBefore p q a u v ⊎ EndsBefore p q a v u)
        → (a : ℕ) × (a < 3) × (EndsBefore p r a u v ⊎ EndsBefore p r a v u)
    apart u v lu lv (a, la, inl h) = (a, la, inl (ends a u v la lu lv h))
    apart u v lu lv (a, la, inr h) = (a, la, inr (ends a v u la lv lu h))
