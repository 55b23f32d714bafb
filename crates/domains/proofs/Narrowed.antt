-- The algebra of removing: nothing done, one after another, asked for in other words. Stated once for all functions that remove relations.
use Rattle.std.specs.Prelude.{◌≤◌}
use Rattle.std.specs.Prelude.{Result, Ok, Err}
use Rattle.prelude.specs.Names.{List, inl, inr, ⊎_map, refl, ◌∙◌, ℕ, le_refl, arith}
use Rattle.model.specs.Domains.{Domains}
use Rattle.model.specs.Order.{◌⊑◌}
use Rattle.model.proofs.Order.{below_refl, below_trans}
use Rattle.domains.specs.Queue.{queue_end, Queued, Good}
use Rattle.domains.specs.Narrowed.{Grown, Narrowed, Refuted, NarrowedIf}
use Rattle.domains.specs.declared.store.Conflict.{Conflict}

-- Nothing is done
module _ {k : Domains} {rows q : List ℕ} (g : Good k rows q) where
  pub grown-none : Grown k q k rows q
  grown-none = record { good = g; less = below_refl k; up = le_refl (queue_end q); old = λ i l h. refl; new = λ c w h. inl h }

  pub narrowed_none : {G D : Domains → Type 0} → D k → Narrowed G D k q k rows q
  narrowed_none d = record { grown = grown-none; low = λ f h b. b; done = d }

-- One after another
pub queued_on : {j : Domains} {r : List ℕ} {l : Domains} {rows s : List ℕ} → Grown j r l rows s → (from a u v : ℕ) → 1 ≤ from
    → Queued r from (queue_end r) a u v → Queued s from (queue_end s) a u v
queued_on f from a u v h (i, low, high, e) =
    let old = f.old i (omega arith) high in (i, low, omega (arith, f.up), ⊎_map (λ p. old ∙ p) (λ p. old ∙ p) e)

module _ {k : Domains} {q : List ℕ} {j : Domains} {rows r : List ℕ} {l : Domains} {rows' s : List ℕ} where
  pub grown-then : 1 ≤ queue_end q → Grown k q j rows r → Grown j r l rows' s → Grown k q l rows' s
  grown-then least g f = record {
    good = f.good;
    less = below_trans l j k f.less g.less;
    up = omega (arith, g.up, f.up);
    old = λ i b h. f.old i b (omega (arith, g.up)) ∙ g.old i b h;
    new = λ c w h. elim (f.new c w h) [
      | inl h ↦ ⊎_map (λ h. h) (λ h. queued_on f (queue_end q) c.axis c.u c.v least h) (g.new c w h)
      | inr (i, low, high, e) ↦ inr (i, omega (arith, g.up), high, e)
    ];
  }

  pub narrowed-then : {G D E F : Domains → Type 0} → 1 ≤ queue_end q → Narrowed G D k q j rows r → Narrowed G E j r l rows' s → (l ⊑ j → D j → E l → F l)
      → Narrowed G F k q l rows' s
  narrowed-then least g f done = record {
    grown = grown-then least g.grown f.grown;
    low = λ i h b. f.low i h (g.low i h b);
    done = done f.grown.less g.done f.done;
  }

pub refuted_later : {G D : Domains → Type 0} {k : Domains} {q : List ℕ} {j : Domains} {rows r : List ℕ}
    → Narrowed G D k q j rows r → Refuted G j → Refuted G k
refuted_later g none f h b = none f h (g.low f h b)

pub outcome-then : {G D : Domains → Type 0} {k : Domains} {q : List ℕ} {j : Domains} {rows r : List ℕ}
    (E F : Domains → Type 0) (l : Domains) (rows' s : List ℕ) (b : Result (Unit {0}) Conflict)
    → 1 ≤ queue_end q → Narrowed G D k q j rows r → NarrowedIf G E j r l rows' s b → (l ⊑ j → D j → E l → F l) → NarrowedIf G F k q l rows' s b
outcome-then E F l rows' s (Ok _) least g f done = narrowed-then least g f done
outcome-then E F l rows' s (Err _) least g none done = refuted_later g none

-- Asked for in other words
pub narrowed_as : {G G' D D' : Domains → Type 0} {k : Domains} {q : List ℕ} {j : Domains} {rows r : List ℕ}
    → ((f : Domains) → G' f → f ⊑ k → G f) → (j ⊑ k → D j → D' j) → Narrowed G D k q j rows r → Narrowed G' D' k q j rows r
narrowed_as asked done g = record { grown = g.grown; low = λ f h b. g.low f (asked f h b) b; done = done g.grown.less g.done }

pub outcome_as : (G G' D D' : Domains → Type 0) (k : Domains) (q : List ℕ) (j : Domains) (rows r : List ℕ) (b : Result (Unit {0}) Conflict)
    → ((f : Domains) → G' f → f ⊑ k → G f) → (j ⊑ k → D j → D' j) → NarrowedIf G D k q j rows r b → NarrowedIf G' D' k q j rows r b
outcome_as G G' D D' k q j rows r (Ok _) asked done g = narrowed_as asked done g
outcome_as G G' D D' k q j rows r (Err _) asked done none = λ f h b. none f (asked f h b) b
