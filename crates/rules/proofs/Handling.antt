-- The algebra of `Handled`, stated once for all rules: premises stay, one after another, other clauses that ask for the same.
use Rattle.std.specs.Prelude.{◌∷◌, ◌⊎◌, ◌≡◌, ◌≤◌, Result}
use Rattle.prelude.specs.Names.{List, [], inl, inr, ℕ}
use Rattle.model.specs.Domains.{Domains}
use Rattle.model.specs.Order.{◌⊑◌}
use Rattle.model.specs.Facts.{Fact, Holds}
use Rattle.model.specs.Clauses.{Rule, AllHold, Lawful}
use Rattle.model.proofs.Facts.{holds_mono}
use Rattle.domains.specs.Queue.{queue_end}
use Rattle.domains.specs.declared.store.Conflict.{Conflict}
use Rattle.domains.specs.Narrowed.{Narrowed}
use Rattle.rules.specs.Worked.{Clauses, Handled, HandledIf, next_axis, Third, Sides, Overlapping}
use Rattle.domains.proofs.Narrowed.{outcome-then}

pub hold_mono : (f k : Domains) → f ⊑ k → (ps : List Fact) → AllHold k ps → AllHold f ps
hold_mono f k h [] s = tt
hold_mono f k h (c ∷ cs) (e, s) = (holds_mono f k h c e, hold_mono f k h cs s)

-- What a rule asks for by what is known above holds in lawful domains
pub lawful_holds : {f : Domains} (k : Domains) → Lawful f → f ⊑ k → {ps : List Fact} {c : Fact} → Rule 10 ps c → AllHold k ps → Holds f c
lawful_holds {f} k l b {ps} {c} r s = l.obeyed ps c r (hold_mono f k b ps s)

-- The clauses of H and those of G
abbrev pub Either : Clauses → Clauses → Clauses
Either H G ps c = H ps c ⊎ G ps c

-- One worker after another
pub worked_then : (H G : Clauses) {k : Domains} {q : List ℕ} {j : Domains} {rows r : List ℕ} (l : Domains) (rows' s : List ℕ) (b : Result (Unit {0}) Conflict)
    → 1 ≤ queue_end q → Narrowed Lawful (Handled H k) k q j rows r → HandledIf G j r l rows' s b
    → HandledIf (Either H G) k q l rows' s b
worked_then H G {k} {j = j} l rows' s b least f g =
    outcome-then (Handled G j) (Handled (Either H G) k) l rows' s b least f g
    (λ d h e ps c m p. elim m [ inl x ↦ holds_mono l j d c (h ps c x p) | inr x ↦ e ps c x (hold_mono j k f.grown.less ps p) ])

-- Two items that overlap: rule 1 on the other axes and the rings on both sides, one after another, are all clauses with this premise
pub overlapping_worked : {a b c u v : ℕ} → b ≡ next_axis a → c ≡ next_axis b → {k : Domains} {q : List ℕ} → 1 ≤ queue_end q
    → {k₁ : Domains} {rows₁ q₁ : List ℕ} → Narrowed Lawful (Handled (Third a b c u v) k) k q k₁ rows₁ q₁
    → {k₂ : Domains} {rows₂ q₂ : List ℕ} → Narrowed Lawful (Handled (Third a c b u v) k₁) k₁ q₁ k₂ rows₂ q₂
    → {k₃ : Domains} {rows₃ q₃ : List ℕ} → Narrowed Lawful (Handled (Sides a u v) k₂) k₂ q₂ k₃ rows₃ q₃
    → {d s t : ℕ} → (d ≡ a) × (s ≡ v) × (t ≡ u) → (j : Domains) (rows r : List ℕ) (b : Result (Unit {0}) Conflict)
    → HandledIf (Sides d s t) k₃ q₃ j rows r b → HandledIf (Overlapping a u v) k q j rows r b
overlapping_worked {a} {b} {c} {u} {v} e f {k} {q} least n₁ n₂ n₃ (x, y, z) j rows r t o =
    rw (f, e) at
    (worked_then (Third a b c u v) (Either (Third a c b u v) (Either (Sides a u v) (Sides a v u))) j rows r t least n₁
    (worked_then (Third a c b u v) (Either (Sides a u v) (Sides a v u)) j rows r t n₁.grown.good.least n₂
    (worked_then (Sides a u v) (Sides a v u) j rows r t n₂.grown.good.least n₃ (rw (x, y, z) at o))))
