-- What a path's outlook says of its domains, and the laws that the search needs of paths.
use Rattle.std.specs.Prelude.{◌⊎◌, ◌≡◌, ◌*◌, ◌-◌, ◌≤◌}
use Rattle.prelude.specs.Names.{Bool, true, false, List, [], inl, inr, refl, ap, subst, ℕ, arith, leb, leb-true}
use Rattle.model.specs.Problem.{Problem, Positions, Feasible}
use Rattle.model.specs.Branching.{Branch, inconsistent, packed, path_domains, plan}
use Rattle.model.specs.Admits.{Sound, Admits}
use Rattle.model.specs.Weight.{weight}
use Rattle.model.specs.Machine.{failed, succeeded, steps}
use Rattle.model.specs.Search.{Outlook, conflict, complete, fork, infeasible, packed_at, status, opening, Follows, path_count, Laws}
use Rattle.model.specs.Run.{outlook, look, tree_machine, tree_count, path_limit}
use Rattle.model.proofs.Below.{all-at, clash}
use Rattle.model.proofs.Weight.{weight_bound}
use Rattle.model.proofs.Path.{path_fork, path_weight, path_split, root_admits, plan-feasible}
use Rattle.model.proofs.Sound.{admitted-consistent}
use Rattle.model.proofs.Run.{Ends, ends}
use Rattle.model.proofs.Machine.{taken_is}
use Rattle.model.proofs.Series.{Decides}

-- what the tests say where a path shows this or that
abbrev Seen : Outlook → Bool → Bool → Type 0
Seen conflict i c = i ≡ true
Seen complete i c = (i ≡ false) × (c ≡ true)
Seen fork i c = (i ≡ false) × (c ≡ false)

seen : (i c : Bool) → Seen (outlook i c) i c
seen true c = refl
seen false true = (refl, refl)
seen false false = (refl, refl)

module _ (p : Problem) where
  look_seen : (path : List Branch) {o : Outlook} → look p path ≡ o → Seen o (inconsistent p (path_domains p path)) (packed p (path_domains p path))
  unfolding look
  look_seen path e =
      let (i, c) : Bool × Bool = (inconsistent p (path_domains p path), packed p (path_domains p path)) in
      subst (λ (o : Outlook). Seen o i c) e (seen i c)

  pub look_conflict : (path : List Branch) → look p path ≡ conflict → inconsistent p (path_domains p path) ≡ true
  look_conflict path e = look_seen path e

  pub look_complete : (path : List Branch) → look p path ≡ complete
      → (inconsistent p (path_domains p path) ≡ false) × (packed p (path_domains p path) ≡ true)
  look_complete path e = look_seen path e

  pub look_fork : (path : List Branch) → look p path ≡ fork
      → (inconsistent p (path_domains p path) ≡ false) × (packed p (path_domains p path) ≡ false)
  look_fork path e = look_seen path e

  -- and the other way round
  pub look_by : (path : List Branch) {i c : Bool} → inconsistent p (path_domains p path) ≡ i → packed p (path_domains p path) ≡ c → look p path ≡ outlook i c
  unfolding look
  look_by path e f = rw (e, f)

  pub look-inconsistent : (path : List Branch) → inconsistent p (path_domains p path) ≡ true → look p path ≡ conflict
  unfolding look
  look-inconsistent path e = rw e

-- the feasible packings of a problem
abbrev pub FeasiblePacking : Problem → Type 0
FeasiblePacking p = (q : Positions) × Feasible p q

pub search_laws : (p : Problem) → Sound p
    → Laws (look p) (FeasiblePacking p) (λ path x. Admits p (path_domains p path) x.0) (λ path. weight p (path_domains p path))
search_laws p σ = record {
  root_admits = λ x. root_admits p σ x.0 x.1;
  conflict_admits_none = λ path l e x a. clash (look_conflict p path e) (admitted-consistent p σ x.0 x.1 (path_domains p path) a);
  fork_splits = λ path l e x a. let (i, c) = look_fork p path e in path_split p σ path x.0 x.1 (path_fork p σ path i c) a;
  weight_falls = λ path l e b. let (i, c) = look_fork p path e in path_weight p σ path (path_fork p σ path i c) b;
}

-- "270 turns are limits": with at most 10 items no path is longer
pub limit_270 : (p : Problem) → p.items ≤ 10 → path_limit p ≤ 270
limit_270 p h = leb-true _ _ (all-at 11 (λ n. leb (3 * (n * (n - 1))) 270) refl p.items (omega arith))

-- the search of one problem ends, and its count is its number of steps
module _ (p : Problem) (σ : Sound p) where
  pub ended : Ends (look p) (search_laws p σ) (path_limit p)
  ended = ends (look p) (search_laws p σ) (path_limit p) (weight_bound p (path_domains p []))

  pub count-is : tree_count p ≡ ended.count
  unfolding tree_count
  count-is = omega (arith, taken_is (tree_machine p) (path_count (path_limit p)) ended.count opening ended.counts, ended.bounded)

  pub count_bounded : tree_count p ≤ path_count (path_limit p)
  count_bounded = omega (arith, count-is, ended.bounded)

  -- a packed checkpoint that follows its problem has feasible starts, whether the search comes to it or not
  pub starts-feasible : (path : List Branch) → Follows (look p) (packed_at path) → Feasible p (plan p path)
  starts-feasible path f = let (i, c) = look_complete p path f.1 in plan-feasible p σ path i c

  -- it decides whether there is a feasible packing
  pub tree_decides : Decides (tree_machine p) (FeasiblePacking p) (tree_count p)
  tree_decides = rw count-is (record { opens = tt; counts = ended.counts; none = none_of ended.end; some = some_of ended.end })
    where
      End : Type 0
      End = ((steps (tree_machine p) ended.count opening ≡ infeasible) × (FeasiblePacking p → ⊥))
          ⊎ ((path : List Branch) × (steps (tree_machine p) ended.count opening ≡ packed_at path) × Follows (look p) (packed_at path))

      none_of : End → status (steps (tree_machine p) ended.count opening) ≡ failed → FeasiblePacking p → ⊥
      none_of (inl (e, f)) s x = f x
      none_of (inr (path, e, f)) s x = let z : ◌≡◌ {A = ℕ} 0 1 = cc (ap status e) in omega arith

      some_of : End → status (steps (tree_machine p) ended.count opening) ≡ succeeded → FeasiblePacking p
      some_of (inl (e, f)) s = let z : ◌≡◌ {A = ℕ} 0 1 = cc (ap status e) in absurd (omega arith)
      some_of (inr (path, e, f)) s = (plan p path, starts-feasible path f)
