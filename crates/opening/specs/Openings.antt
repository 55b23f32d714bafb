-- The opening domains by removals.
use Rattle.std.specs.Prelude.{◌⊎◌, ◌≡◌, ◌≤◌, ◌<◌, Result, Ok, Err}
use Rattle.prelude.specs.Names.{List, [], map, ℕ}
use Rattle.model.specs.Problem.{Problem}
use Rattle.model.specs.Domains.{Domains}
use Rattle.model.specs.Order.{Proper}
use Rattle.model.specs.Branching.{fix_precedences}
use Rattle.model.specs.Relations.{Filled, Untouched}
use Rattle.model.specs.Toward.{Direction}
use Rattle.model.specs.Run.{look}
use Rattle.domains.specs.Narrowed.{Grown, Narrowed, Refuted, FilledWith}
use Rattle.domains.specs.declared.store.Store.{Store}
use Rattle.domains.specs.declared.store.Conflict.{Conflict}
use Rattle.chains.specs.Totals.{table, gap_at}
use Rattle.chains.specs.Cuts.{CutAll}
use Rattle.parts.specs.declared.Precedence.{Precedence}
use Rattle.instance.specs.Meaning.{precedence_of}
use Rattle.nodes.specs.Nodes.{At}
use Rattle.opening.specs.declared.Root.{Root}
use Rattle.model.specs.Search as S

-- the domains with the precedences fixed
abbrev pub all_fixed : List Precedence → Domains → Domains
all_fixed os k = fix_precedences (map precedence_of os) k

-- all but "u before v" on t is removed for each of them; or that leaves a pair nothing
abbrev pub FixedIf : List Precedence → Domains → List ℕ → Domains → List ℕ → List ℕ → Result (Unit {0}) Conflict → Type 0
FixedIf os k q j rows r (Ok _) = (j ≡ all_fixed os k) × Grown k q j rows r
FixedIf os k q j rows r (Err _) = Filled (all_fixed os k) → ⊥

-- the same of a store, from entry to exit
abbrev pub Fixes : List Precedence → Store → Store → Result (Unit {0}) Conflict → Type 0
Fixes os old new = FixedIf os old.domains old.queue new.domains new.rows new.queue

-- "u before v" is removed of every two items that are too long together
abbrev pub PairsCut : List ℕ → Domains → Type 0
PairsCut t f = (a : ℕ) → CutAll t 1 a f

-- and every pair has a relation left
abbrev pub PairsAsked : List ℕ → Domains → Type 0
PairsAsked t = FilledWith (PairsCut t)

-- the totals are 0 past n items, and nothing lies between two of which one is past them
pub record Past (t : List ℕ) (n : ℕ) : Type 0 where
  pub total : (x a u : ℕ) → Direction x → a < 3 → n ≤ u → u < 10 → table t x a u ≡ 0
  pub gap : (a u v : ℕ) → Proper 10 a u v → (n ≤ u) ⊎ (n ≤ v) → gap_at t 0 a u v ≡ 0

-- and nothing is removed of them
abbrev pub Outside : List ℕ → Domains → Domains → Type 0
Outside t k j = (n : ℕ) → n ≤ 10 → Past t n → Untouched n k → Untouched n j

-- every two items that are too long together are cut, and nothing past the items; or that leaves a pair nothing
abbrev pub CutIf : List ℕ → Domains → List ℕ → Domains → List ℕ → List ℕ → Result (Unit {0}) Conflict → Type 0
CutIf t k q j rows r (Ok _) = Narrowed (PairsAsked t) (PairsCut t) k q j rows r × Outside t k j
CutIf t k q j rows r (Err _) = Refuted (PairsAsked t) k

abbrev pub Cuts : List ℕ → Store → Store → Result (Unit {0}) Conflict → Type 0
Cuts t old new = CutIf t old.domains old.queue new.domains new.rows new.queue

-- the opening domains, ready; or that they are inconsistent
abbrev pub RootedIf : Problem → Result Root Conflict → Type 0
RootedIf p (Ok r) = At p r.store.domains r.store.rows r.store.queue r.totals.numbers []
RootedIf p (Err _) = look p [] ≡ S.conflict
