-- One pair of the queue is worked off: its link, where one order of it is known, and the clauses with a premise of it.
use Rattle.std.specs.Prelude.{◌&&◌, ◌||◌, ◌⊎◌, ◌≡◌, ◌+◌, ◌*◌, ◌/◌, ◌^◌, ◌≤◌, ◌<◌, Result, Ok, Err}
use Rattle.prelude.specs.Names.{Bool, true, false, and-false, List, inl, inr, ⊎_elim, ⊎_map, refl, sym, ◌∙◌, ap₂, ℕ}
use Rattle.prelude.specs.Names.{arith, bit_or}
use Rattle.model.specs.Problem.{Problem}
use Rattle.model.specs.Domains.{Domains, fixed_before}
use Rattle.model.specs.Order.{Proper, ◌⊑◌}
use Rattle.model.specs.Relations.{gone, converse}
use Rattle.model.specs.Facts.{overlaps, says}
use Rattle.model.specs.Clauses.{Lawful}
use Rattle.model.specs.Toward.{Direction, Linked}
use Rattle.model.proofs.Below.{and_intro, and_both, or_case, or_left, or_right, clash}
use Rattle.model.proofs.Slots.{proper-sym}
use Rattle.model.proofs.Order.{below_refl}
use Rattle.model.proofs.Facts.{gone_mono, says_mono, holds_mono, forced_converse, forced_before-is, forced_after_is}
use Rattle.model.proofs.Untouched.{goal_lawful}
use Rattle.model.proofs.Toward.{by_direction, closed_wider}
use Rattle.domains.specs.Bits.{bit_at}
use Rattle.domains.specs.Rows.{row_at, Mirror}
use Rattle.domains.specs.Queue.{SamePair, queue_end, Good}
use Rattle.domains.specs.Narrowed.{Narrowed, Refuted, NarrowedIf}
use Rattle.rules.specs.Worked.{Clauses, Handled, HandledIf, Paths, Diagonal, Overlapping}
use Rattle.chains.specs.Totals.{Tabled, Fitting}
use Rattle.chains.specs.NewLinks.{Charted, Extended, ExtendedAlong}
use Rattle.domains.specs.declared.store.Conflict.{Conflict}
use Rattle.propagation.specs.Events.{InOrder, Overlapped, WorkedOff}
use Rattle.domains.proofs.BitLaws.{bit-or, bit_shr}
use Rattle.domains.proofs.Narrowed.{narrowed_none, grown-then, outcome_as}
use Rattle.domains.proofs.Mirror.{row_first}
use Rattle.rules.proofs.Handling.{hold_mono}
use Rattle.chains.proofs.Linking.{closed_on}
use Rattle.rules.proofs.Mentions.{mentioning_handled}

-- one order of the pair is known
abbrev pub known : Domains → ℕ → ℕ → ℕ → Bool
known k a u v = gone k 0 a u v && (gone k 1 a u v || gone k 2 a u v)

-- What a test of the row of u answers on v
module _ {k : Domains} {rows : List ℕ} {a u v : ℕ} (m : Mirror k rows) (s : Proper 10 a u v) {r b : Bool} where
  pub row_overlap : r ≡ bit_at (row_at rows a u) v → r ≡ b → gone k 0 a u v ≡ b
  row_overlap e f = sym (row_first m s.axis s.item_u s.item_v) ∙ (sym e ∙ f)

  pub row_order : (x : ℕ) → x < 3 → r ≡ bit_at (row_at rows a u) (x * 10 + v) → r ≡ b → gone k x a u v ≡ b
  row_order x h e f = sym (m.is x a u v h s.axis s.item_u s.item_v) ∙ (sym e ∙ f)

  -- on both orders together
  pub row_orders : r ≡ bit_at (bit_or (row_at rows a u) (row_at rows a u / 2 ^ 10)) (10 + v) → r ≡ b → (gone k 1 a u v || gone k 2 a u v) ≡ b
  row_orders e f =
      let q : 10 + (10 + v) ≡ 2 * 10 + v = omega arith in
      let first = m.is 1 a u v (omega arith) s.axis s.item_u s.item_v in
      let second = m.is 2 a u v (omega arith) s.axis s.item_u s.item_v in
      let both : bit_at (bit_or (row_at rows a u) (row_at rows a u / 2 ^ 10)) (10 + v) ≡ (gone k 1 a u v || gone k 2 a u v) =
      rw (bit-or, bit_shr, q) (ap₂ ◌||◌ first second) in
      sym both ∙ (sym e ∙ f)

-- A link of the pair is one of its orders
forced_known : (k : Domains) (a u v x : ℕ) → Direction x → Linked x k a u v → known k a u v ≡ true
unfolding says
forced_known k a u v = by_direction (λ x. Linked x k a u v → known k a u v ≡ true)
    (λ l. let (f, g) = and_both (gone k 0 a u v) (gone k 1 a u v) l in and_intro f (or_left (gone k 2 a u v) g))
    (λ l. let (f, g) = and_both (gone k 0 a u v) (gone k 2 a u v) l in and_intro f (or_right (gone k 1 a u v) g))

linked_known : (k : Domains) (a u v x b y z : ℕ) → Direction x → SamePair a u v b y z → Linked x k b y z → known k a u v ≡ true
linked_known k a u v x b y z d (e, inl (f, g)) l = forced_known k a u v x d (rw (e, f, g) at l)
linked_known k a u v x b y z d (e, inr (f, g)) l =
    forced_known k a u v (converse x) (by_direction (λ x. Direction (converse x)) (omega arith) (omega arith) x d)
    (forced_converse k x a v u (omega (arith, d.most)) ∙ (rw (e, f, g) at l))

-- The pair with the earlier item first, by the row
pub in_order_fixed : {k : Domains} {rows : List ℕ} {a u v : ℕ} → Mirror k rows → Proper 10 a u v → known k a u v ≡ true → {b y z : ℕ}
    → InOrder (bit_at (row_at rows a u) (20 + v)) a u v b y z → Proper 10 b y z × (fixed_before k b y z ≡ true)
unfolding says
in_order_fixed {k} {rows} {a} {u} {v} m s h {b} {y} {z} o =
    let (f, g) = and_both (gone k 0 a u v) (gone k 1 a u v || gone k 2 a u v) h in
    go _ (row_order m s 2 (omega arith) refl refl) f (or_case _ _ g) o
  where
    go : (c : Bool) → gone k 2 a u v ≡ c → gone k 0 a u v ≡ true → (gone k 1 a u v ≡ true) ⊎ (gone k 2 a u v ≡ true) → InOrder c a u v b y z
        → Proper 10 b y z × (fixed_before k b y z ≡ true)
    go true e f g t = rw (t.axis, t.earlier, t.later) (s, sym (forced_before-is k a u v) ∙ and_intro f e)
    go false e f (inl g) t = rw (t.axis, t.earlier, t.later) (proper-sym s, sym (forced_after_is k a u v) ∙ and_intro f g)
    go false e f (inr g) t = absurd (clash g e)

-- Rule 5: the pair in order, and nothing to do where no order is known
in_order_same : (b : Bool) (a u v c s t : ℕ) → InOrder b a u v c s t → (d y z : ℕ) → SamePair a u v d y z → SamePair c s t d y z
in_order_same true a u v c s t o d y z h = rw (o.axis, o.earlier, o.later) h
in_order_same false a u v c s t o d y z (e, inl h) = rw (o.axis, o.earlier, o.later) (e, inr h)
in_order_same false a u v c s t o d y z (e, inr h) = rw (o.axis, o.earlier, o.later) (e, inl h)

module _ {p : Problem} {k : Domains} {q t : List ℕ} {from a u v : ℕ} (c : Charted p k q t from a u v) where
  pub in_order_charted : {b : Bool} {d y z : ℕ} → InOrder b a u v d y z → Charted p k q t from d y z
  in_order_charted {b} {d} {y} {z} h = record {
    measured = c.measured;
    first = c.first;
    within = c.within;
    closed = closed_wider (λ x e i j w f l m. inr (⊎_map (λ q. q) (in_order_same b a u v d y z h e i j) m)) (λ e i j m. m) c.closed;
  }

  -- Rules 1 to 4 follow
  module _ {k₁ : Domains} {rows₁ q₁ s : List ℕ} (e : Extended p k q t from k₁ rows₁ q₁ s) where
    pub extended_refuted : Refuted Lawful k₁ → Refuted (Fitting p t) k
    extended_refuted none f h b = none f (goal_lawful p f h.goal) (e.narrowed.low f h b)

    pub extended_then : {D : Domains → Type 0} {j : Domains} {rows r : List ℕ} → 1 ≤ queue_end q → Narrowed Lawful D k₁ q₁ j rows r
        → Extended p k q t from j rows r s
    extended_then least n = record {
      narrowed = record {
        grown = grown-then least e.narrowed.grown n.grown;
        low = λ f h b. n.low f (goal_lawful p f h.goal) (e.narrowed.low f h b);
        done = closed_on n.grown (omega (arith, c.measured.ten)) from c.first (omega (arith, c.within, e.narrowed.grown.up))
            e.narrowed.done;
      };
      measured = e.measured;
      tabled = e.tabled;
      under = e.under;
    }

pub unordered : {k : Domains} {rows q t : List ℕ} {a u v : ℕ} → Proper 10 a u v → Good k rows q → Tabled t
    → (gone k 0 a u v ≡ false) ⊎ ((gone k 1 a u v || gone k 2 a u v) ≡ false)
    → ExtendedAlong a u v k q t k rows q t (Ok tt)
unordered {k} {a = a} {u} {v} s good tabled e =
    let unknown : known k a u v ≡ false = ⊎_elim (λ e. rw e refl) (λ e. rw e (and-false (gone k 0 a u v))) e in
    λ p from c. record {
      narrowed = narrowed_none good (closed_wider (λ x e i j d w l m.
          inr (⊎_elim (λ q. q) (λ m. absurd (clash (linked_known k a u v x e i j d m l) unknown)) m)) (λ e i j m. m) c.closed);
      measured = c.measured;
      tabled = tabled;
      under = λ f h b. h.under;
    }

-- Rules 1 and 4: a filled pair is not known both to overlap and not to
module _ {k : Domains} {rows q : List ℕ} (good : Good k rows q) {a u v : ℕ} (w : Proper 10 a u v) where
  pub across-all : gone k 0 a u v ≡ true → (j : Domains) (rows' r : List ℕ) (b : Result (Unit {0}) Conflict)
      → HandledIf (Diagonal a u v) k q j rows' r b → NarrowedIf Lawful (Overlapped a u v k) k q j rows' r b
  unfolding says
  across-all e j rows' r b =
      outcome_as Lawful Lawful (Handled (Diagonal a u v) k) (Overlapped a u v k) k q j rows' r b (λ f h b. h)
      (λ less done. record { across = λ h. done; along = λ h. absurd (clash h (rw e at (good.laid.filled a u v w))) })

  module _ (left : gone k 0 a u v ≡ false) where
    pub along-all : (j : Domains) (rows' r : List ℕ) (b : Result (Unit {0}) Conflict) → HandledIf (Overlapping a u v) k q j rows' r b
        → NarrowedIf Lawful (Overlapped a u v k) k q j rows' r b
    along-all j rows' r b =
        outcome_as Lawful Lawful (Handled (Overlapping a u v) k) (Overlapped a u v k) k q j rows' r b (λ f h b. h)
        (λ less done. record { across = λ h. absurd (clash h left); along = λ h. done })

    pub overlap_none : (gone k 1 a u v ≡ false) ⊎ (gone k 2 a u v ≡ false) → Narrowed Lawful (Overlapped a u v k) k q k rows q
    unfolding says
    overlap_none e = narrowed_none good (record {
      across = λ h. absurd (clash h left);
      along = λ h. let (f, g) = and_both _ _ h in absurd (⊎_elim (clash f) (clash g) e);
    })

-- What is asked for by fewer premises and done with more left is done all the same
handled_within : {H : Clauses} (k k₁ k₂ j : Domains) → k₁ ⊑ k → j ⊑ k₂ → Handled H k₁ k₂ → Handled H k j
handled_within k k₁ k₂ j before after h ps c r e = holds_mono j k₂ after c (h ps c r (hold_mono k₁ k before ps e))

-- All rules
module _ {k : Domains} {q t : List ℕ} {a u v : ℕ} {k₁ : Domains} {rows₁ q₁ s : List ℕ} {k₂ : Domains} {rows₂ q₂ : List ℕ}
    (least : 1 ≤ queue_end q) (w : Proper 10 a u v)
    (e : ExtendedAlong a u v k q t k₁ rows₁ q₁ s (Ok tt))
    (f : Narrowed Lawful (Handled (Paths a u v) k₁) k₁ q₁ k₂ rows₂ q₂) where
  pub worked_all : (j : Domains) (rows r : List ℕ) (b : Result (Unit {0}) Conflict) → NarrowedIf Lawful (Overlapped a u v k₂) k₂ q₂ j rows r b
      → WorkedOff a u v k q t j rows r s b
  worked_all j rows r (Err _) nil = λ p from c. extended_refuted c (extended_then c (e p from c) least f) nil
  worked_all j rows r (Ok _) g = λ p from c.
      let x = e p from c in
      let y = extended_then c x least f in
      let less = y.narrowed.grown.less in (
        extended_then c y least g,
        mentioning_handled k j w (handled_within k k₁ k₂ j x.narrowed.grown.less g.grown.less f.done)
            (λ h. handled_within k k₂ j j less (below_refl j) (g.done.across (gone_mono k₂ k less 0 a u v h)))
            (λ h. handled_within k k₂ j j less (below_refl j) (g.done.along (says_mono k₂ k less overlaps a u v h))),
      )
