-- The positions of a complete path.
use Rattle.std.specs.Prelude.{◌≡◌, ◌+◌, ◌≤◌, ◌<◌}
use Rattle.prelude.specs.Names.{List, sym, ◌∙◌, ℕ, arith, length}
use Rattle.model.proofs.GreatestChains.{greatest_ending-size}
use Rattle.model.proofs.Wide.{wide-size, wide-ending}
use Rattle.model.proofs.Outside.{path_untouched}
use Rattle.model.specs.Admits.{Sound}
use Rattle.model.specs.Branching.{Branch, starts, plan}
use Rattle.model.specs.Domains.{Domains}
use Rattle.model.specs.Problem.{Problem, spacing}
use Rattle.model.specs.Relations.{Untouched}
use Rattle.model.specs.Rules.{greatest_ending}
use Rattle.model.specs.Run.{look}
use Rattle.model.specs.Wide.{wide}
use Rattle.instance.specs.declared.Position.{Position}
use Rattle.tree_search.specs.Results.{positions_list}
use Rattle.nodes.specs.Nodes.{Seen}
use Rattle.nodes.specs.Starts.{start_at, Startable, Started}
use Rattle.chains.specs.Totals.{table, measure_at}
use Rattle.tree_search.proofs.Positions.{plan_is}
use Rattle.model.specs.Search as S

-- the totals of a path's domains give its positions: what total and measure have of the walkway behind the item goes out in the start
module _ (p : Problem) (limited : p.items ≤ 10) (path : List Branch) {k : Domains} {rows t : List ℕ} (s : Seen p k rows t path) where
  size_is : (a u : ℕ) → a < 3 → u < p.items → measure_at t a u ≡ p.size a u + spacing p a
  unfolding wide
  size_is a u ha hu = sym (s.rested.measured.size a u ha (omega arith)) ∙ wide-size p a u hu

  total-is : (a u : ℕ) → a < 3 → u < p.items → table t 2 a u ≡ greatest_ending (wide p) k a u
  unfolding wide
  total-is a u ha hu = s.rested.exact a u ha (omega arith)

  pub startable : Startable p.items t
  startable = record {
    limited = limited;
    long = s.rested.tabled.long;
    whole = λ a u ha hu. omega (arith, total-is a u ha hu, size_is a u ha hu, wide-size p a u hu, greatest_ending-size (wide p) k a u);
  }

  pub started_plan : Sound p → S.Forking (look p) path → {q : List Position} → Started p.items t q → length q ≡ 10
      → q ≡ positions_list p (plan p path)
  started_plan sound forks {q} r long = plan_is p path k s.is q long (λ a u ha hu. r.placed a u ha hu ∙ start_is a u ha hu) r.past
    where
      plain : Untouched p.items k
      plain = rw s.is (path_untouched p sound path forks)

      start_is : (a u : ℕ) → a < 3 → u < p.items → start_at t a u ≡ starts p k a u
      start_is a u ha hu = unfold starts in omega (arith, total-is a u ha hu, wide-ending p limited k plain a u ha hu, size_is a u ha hu)
