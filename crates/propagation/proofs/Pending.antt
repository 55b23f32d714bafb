-- One pair of the queue after another is worked off: what is still asked for has a premise further on, and a link that
-- is still to be followed is of a pair further on.
use Rattle.std.specs.Prelude.{◌∷◌, ◌⊎◌, ◌≡◌, ◌+◌, ◌≤◌, ◌<◌}
use Rattle.prelude.specs.Names.{List, [], inl, inr, ⊎_elim, ⊎_map, sym, ◌∙◌, ℕ, ℕ_discrete, arith, get_or}
use Rattle.model.specs.Domains.{Domains}
use Rattle.model.specs.Order.{Proper}
use Rattle.model.specs.Facts.{Fact}
use Rattle.model.specs.Clauses.{Rule, c3, d2, d1_far, d1_near, g1, AllHold, Obeyed}
use Rattle.model.proofs.Facts.{holds_mono}
use Rattle.domains.specs.Queue.{pair_code, SamePair, queue_end, Queued}
use Rattle.domains.specs.Narrowed.{Grown}
use Rattle.rules.specs.Worked.{Handled}
use Rattle.rules.specs.Mentions.{Mentions, Mentioning}
use Rattle.propagation.specs.Propagated.{SomeQueued, Pending}
use Rattle.domains.proofs.Narrowed.{queued_on}
pub use Rattle.chains.proofs.Linking.{closed_on}

-- Clauses speak of distinct items
abbrev AllProper : List Fact → Type 0
AllProper [] = Unit {0}
AllProper (c ∷ cs) = Proper 10 c.axis c.u c.v × AllProper cs

rule_proper : (ps : List Fact) (c : Fact) → Rule 10 ps c → AllProper ps
rule_proper _ _ (c3 a b c u v x s) =
    (s, (record { axis = x.axis_b; item_u = s.item_u; item_v = s.item_v; distinct = s.distinct }, tt))
rule_proper _ _ (d2 x a u v w h t) = (t.uv, (t.vw, tt))
rule_proper _ _ (d1_far x a u v w h t) = (t.uv, (t.vw, tt))
rule_proper _ _ (d1_near x a u v w h t) = (t.uv, (t.vw, tt))
rule_proper _ _ (g1 a q r s t x y z) = (x.uv, (x.vw, (y.uv, (y.vw, (x.uw, tt)))))

-- A pair on the queue is the one at the head, or stands further on
pub head_or_on : (q : List ℕ) (head a u v : ℕ) → Proper 10 a u v → get_or q head 0 ≡ pair_code a u v → (b y z : ℕ) → Proper 10 b y z
    → Queued q head (queue_end q) b y z → SamePair a u v b y z ⊎ Queued q (head + 1) (queue_end q) b y z
head_or_on q head a u v s read b y z w (i, low, high, e) = go (ℕ_discrete i head) e
  where
    go : Dec (i ≡ head) → (get_or q i 0 ≡ pair_code b y z) ⊎ (get_or q i 0 ≡ pair_code b z y) → SamePair a u v b y z ⊎ Queued q (head + 1) (queue_end q) b y z
    go (no d) e = inr (i, omega arith, high, e)
    go (yes d) (inl e) = let c : pair_code a u v ≡ pair_code b y z = sym read ∙ (rw d at e) in inl (omega arith, inl (omega arith))
    go (yes d) (inr e) = let c : pair_code a u v ≡ pair_code b z y = sym read ∙ (rw d at e) in inl (omega arith, inr (omega arith))

-- The queue grows
module _ {k : Domains} {q : List ℕ} {j : Domains} {rows r : List ℕ} (g : Grown k q j rows r) where
  -- premises that hold now held before, or one of them is of a pair that changed
  earlier : (from : ℕ) → from ≤ queue_end q → (ps : List Fact) → AllProper ps → AllHold j ps → AllHold k ps ⊎ SomeQueued r from (queue_end r) ps
  earlier from within [] z h = inl tt
  earlier from within (c ∷ cs) (z, zs) (h, hs) =
      ⊎_elim (λ e. ⊎_map (λ es. (e, es)) inr (earlier from within cs zs hs)) (λ (i, low, high, e). inr (inl (i, omega arith, high, e))) (g.new c z h)

  -- from domains at rest on: all that is new is on the queue
  pub pending-start : queue_end q ≡ 1 → Obeyed 10 k → Pending j r 1
  pending-start e o ps c rule h =
      ⊎_map (λ s. holds_mono j k g.less c (o ps c rule s)) (λ x. x) (earlier 1 (omega arith) ps (rule_proper ps c rule) h)

  -- the pair at the head is worked off
  module _ (head : ℕ) (first : 1 ≤ head) (within : head < queue_end q) (a u v : ℕ) (s : Proper 10 a u v) (read : get_or q head 0 ≡ pair_code a u v) where
    -- a premise on the queue is of the pair, or stands further on
    further : (ps : List Fact) → AllProper ps → SomeQueued q head (queue_end q) ps → Mentions a u v ps ⊎ SomeQueued r (head + 1) (queue_end r) ps
    further [] z h = elim h [ ]
    further (c ∷ cs) (z, zs) (inl h) =
        ⊎_map inl (λ h. inl (queued_on g (head + 1) c.axis c.u c.v (omega arith) h))
        (head_or_on q head a u v s read c.axis c.u c.v z h)
    further (c ∷ cs) (z, zs) (inr h) = ⊎_map inr inr (further cs zs h)

    pub advance : Pending k q head → Handled (Mentioning a u v) k j → Pending j r (head + 1)
    advance p handled ps c o h =
        let proper = rule_proper ps c o in
        ⊎_elim (λ h. ⊎_elim (λ e. inl (holds_mono j k g.less c e))
        (λ x. ⊎_map (λ m. handled ps c (o, m) h) (λ x. x) (further ps proper x)) (p ps c o h)) inr (earlier (head + 1) (omega arith) ps proper h)

-- The queue is worked off
pub pending_done : (k : Domains) (q : List ℕ) (head : ℕ) → queue_end q ≤ head → Pending k q head → Obeyed 10 k
pending_done k q head done p ps c o h = ⊎_elim (λ h. h) (λ x. absurd (none ps x)) (p ps c o h)
  where
    none : (ps : List Fact) → SomeQueued q head (queue_end q) ps → ⊥
    none [] h = elim h [ ]
    none (c ∷ cs) (inl (i, low, high, e)) = omega arith
    none (c ∷ cs) (inr h) = none cs h
