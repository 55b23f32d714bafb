-- Rule 5 where a link is new: totals raised along the links of the domains stay under every goal's chains, and with the cuts around the items that
-- grew nothing is left open but the links of pairs on the queue.
use Rattle.std.specs.Prelude.{◌&&◌, ◌⊎◌, ◌≡◌, ◌+◌, ◌*◌, ◌^◌, ◌≤◌, ◌<◌}
use Rattle.std.specs.Prelude.{Result, Ok, Err}
use Rattle.prelude.specs.Names.{Bool, true, List, inl, inr, ⊎_elim, ⊎_map, refl, sym, ◌∙◌, ap₂, ℕ}
use Rattle.prelude.specs.Names.{ℕ_discrete, arith, get_or, set, get_or-set_other, ltb, ltb-true, lt-ltb}
use Rattle.model.specs.Problem.{Problem}
use Rattle.model.specs.Domains.{Domains, fixed_before}
use Rattle.model.specs.Rules.{joined}
use Rattle.model.specs.Order.{Proper, ◌⊑◌}
use Rattle.model.specs.Relations.{gone, Filled}
use Rattle.model.specs.Facts.{forced, says}
use Rattle.model.specs.Clauses.{of}
use Rattle.model.specs.Toward.{Goal, Direction, greatest, Linked, extended, Table, Under, Links, Cuts, ClosedBut, NoPair}
use Rattle.model.proofs.Below.{and_both, and_intro, clash}
use Rattle.model.proofs.Facts.{gone-converse, gone-self, forced_converse, forced_before-is, forced_after_is}
use Rattle.model.proofs.Slots.{proper-sym}
use Rattle.model.proofs.Toward.{by_direction, goal-fits, extended-sum, under-link, under-cut, closed-grown, closed-less, closed_wider}
use Rattle.model.proofs.Untouched.{goal_lawful}
use Rattle.domains.specs.Bits.{bit_at}
use Rattle.domains.specs.Rows.{row_at, Mirror}
use Rattle.domains.specs.Queue.{SamePair, queue_end, Queued, Good}
use Rattle.domains.specs.Narrowed.{Grown, Narrowed, Refuted, NarrowedIf, FilledWith}
use Rattle.domains.specs.declared.store.Conflict.{Conflict}
use Rattle.chains.specs.Totals.{table_start, table, measure_at, Tabled, Measured, SameMeasures, Fitting}
use Rattle.chains.specs.Links.{onward, LinkSet, Raised, none, more, Raises, Bursts, Linkable, Only, InRows, On, Plain}
use Rattle.chains.specs.Cuts.{exceeds, CutBoth, CutAround}
use Rattle.chains.specs.NewLinks.{Charted, ExtendedAlong}
use Rattle.domains.proofs.Narrowed.{queued_on}
use Rattle.domains.proofs.Mirror.{row_first}
use Rattle.chains.proofs.Relaxing.{Ready, ready_of, table_start-is, grows, grows_far, stored_same}

-- The rows have the links of the domains
module _ {k : Domains} {rows : List ℕ} (m : Mirror k rows) {x a v z : ℕ} (d : Direction x) (ha : a < 3) where
  row_forced : v < 10 → z < 10 → (bit_at (row_at rows a v) z && bit_at (row_at rows a v) (x * 10 + z)) ≡ says (forced x) k a v z
  unfolding says
  row_forced hv hz = ap₂ ◌&&◌ (row_first m ha hv hz) (m.is x a v z (omega (arith, d.most)) ha hv hz)

  linked_in_rows : v < 10 → z < 10 → Linked x k a v z → InRows rows x a v z
  linked_in_rows hv hz l = record { item_v = hv; item_z = hz; bits = row_forced hv hz ∙ l }

  in_rows_linked : InRows rows x a v z → Linked x k a v z
  in_rows_linked t = sym (row_forced t.item_v t.item_z) ∙ t.bits

-- The measures stay
pub same_none : {t : List ℕ} → SameMeasures t t
same_none = record { long = refl; kept = λ i h. refl }

pub same_then : {t s r : List ℕ} → SameMeasures t s → SameMeasures s r → SameMeasures t r
same_then f g = record { long = g.long ∙ f.long; kept = λ i h. g.kept i h ∙ f.kept i h }

measured-same : {p : Problem} {t s : List ℕ} → SameMeasures t s → Measured p t → Measured p s
measured-same e m = record {
  ten = m.ten;
  capacity = λ a h. m.capacity a h ∙ sym (e.kept (90 + a) (omega arith));
  size = λ a u h i. m.size a u h i ∙ sym (e.kept (60 + a * 10 + u) (omega arith));
  step = λ x a v z d h i j. m.step x a v z d h i j ∙ sym (e.kept (96 + (table_start x + a * 10 + v) * 10 + z) (omega arith));
}

same-measures : {L : LinkSet} {o a : ℕ} {t s : List ℕ} {g : ℕ} → Ready t o a → Raised L o a t s g → SameMeasures t s
same-measures l r = let h = grows l r in record { long = h.ready.tabled.long ∙ sym l.tabled.long; kept = grows_far h }

-- Totals under the chains of a goal stay so, and none of them bursts
module _ {p : Problem} {k : Domains} {rows : List ℕ} (m : Mirror k rows) {x a : ℕ} (d : Direction x) (f : Domains) (goal : Goal p f) (b : f ⊑ k) where
  link-under : {s : List ℕ} → Ready s (table_start x) a → Measured p s → Under p (table s) f → (v z : ℕ) → InRows rows x a v z
      → onward s (table_start x) a v z ≤ greatest x p f a z
  link-under {s} l w under v z t =
      let hz : z < p.items = omega (arith, w.ten, t.item_z) in
      let hv : v < p.items = omega (arith, w.ten, t.item_v) in
      let most = under-link p f goal (table s) under k b x a v z d l.axis hv hz (in_rows_linked m d l.axis t) in
      omega (arith, most, extended-sum p a x v z (table s x a v) d, w.step x a v z d l.axis hv hz)

  raised-under : {t s : List ℕ} {g : ℕ} → Ready t (table_start x) a → Measured p t → Raised (InRows rows x a) (table_start x) a t s g
      → Under p (table t) f → Under p (table s) f
  raised-under l w none under y c i e hc hi = under y c i e hc hi
  raised-under l w (more {s} v z r link longer) under y c i e hc hi =
      go (λ y c i e hc hi. raised-under l w r under y c i e hc hi) (ℕ_discrete (table_start y + c * 10 + i) (table_start x + a * 10 + z))
    where
      total : ℕ
      total = onward s (table_start x) a v z

      go : Under p (table s) f → Dec (table_start y + c * 10 + i ≡ table_start x + a * 10 + z)
          → get_or (set s (table_start x + a * 10 + z) total) (table_start y + c * 10 + i) 0 ≤ greatest y p f c i
      go under (yes q) =
          let lk = (grows l r).ready in
          let same : (y ≡ x) × (c ≡ a) × (i ≡ z) = omega (arith, table_start-is x d, table_start-is y e, w.ten, longer.item_z) in
          rw (q, stored_same lk longer.item_z total, same.0, same.1, same.2)
          (link-under lk (measured-same (same-measures l r) w) under v z link)
      go under (no q) = rw (get_or-set_other s (table_start x + a * 10 + z) (table_start y + c * 10 + i) total 0 q) (under y c i e hc hi)

  never_bursts : {t s : List ℕ} → Ready t (table_start x) a → Measured p t → Under p (table t) f → Bursts (InRows rows x a) (table_start x) a t s → ⊥
  never_bursts l w under burst =
      let ws = measured-same (same-measures l burst.raised) w in
      let most = link-under (grows l burst.raised).ready ws (raised-under l w burst.raised under) burst.from burst.to burst.link in
      let fits = goal-fits p f goal x a burst.to d l.axis (omega (arith, w.ten, burst.item_to)) in
      omega (arith, most, fits, ws.capacity a l.axis, burst.over)

-- what the totals find too long, from either end, is what the problem does
module _ {p : Problem} {s : List ℕ} (w : Measured p s) (a u v : ℕ) (c : Proper 10 a u v) where
  abbrev pub over : Bool
  over = ltb (p.capacity a) (joined p a u v (table s 2 a u) (table s 1 a v))

  pub exceeds-joined : (exceeds s 1 a u v ≡ over) × (exceeds s 2 a v u ≡ over)
  unfolding joined
  exceeds-joined =
      let hu : u < p.items = omega (arith, w.ten, c.item_u) in
      let hv : v < p.items = omega (arith, w.ten, c.item_v) in
      let capacity = sym (w.capacity a c.axis) in
      let ends = w.step 2 a u v (omega arith) c.axis hu hv in
      let starts = w.step 1 a v u (omega arith) c.axis hv hu in
      let sizes : (p.size a u ≡ measure_at s a u) × (p.size a v ≡ measure_at s a v) = (w.size a u c.axis hu, w.size a v c.axis hv) in
      (ap₂ ltb capacity (omega arith), ap₂ ltb capacity (omega arith))

-- it is removed in a goal
fitting_cut : {p : Problem} {s : List ℕ} → Measured p s → (a : ℕ) → a < 3 → (f : Domains) → Fitting p s f → FilledWith (CutBoth s a) f
fitting_cut {p} {s} w a ha f fit = record {
  all = (
    (λ u v c e. before u v c (sym (exceeds-joined w a u v c).0 ∙ e)),
    (λ u v c e. sym (gone-converse f 2 a u v (omega arith)) ∙ before v u (proper-sym c) (sym (exceeds-joined w a v u (proper-sym c)).1 ∙ e)),
  );
  filled = (goal_lawful p f fit.goal).filled;
}
  where
    before : (u v : ℕ) (c : Proper 10 a u v) → over w a u v c ≡ true → gone f 1 a u v ≡ true
    before u v c e = under-cut p f fit.goal (table s) fit.under a u v (rw w.ten c) (ltb-true (p.capacity a) _ e)

-- one of two orders is known at most
one_way : (k : Domains) (a u v : ℕ) → Filled k → Proper 10 a u v → (x : ℕ) → Direction x → Linked x k a u v → Linked x k a v u → ⊥
unfolding says
one_way k a u v full w = by_direction (λ x. Linked x k a u v → Linked x k a v u → ⊥)
    (λ l o. both (forced_converse k 1 a v u (omega arith) ∙ o) l) (λ l o. both l (forced_converse k 2 a v u (omega arith) ∙ o))
  where
    both : Linked 2 k a u v → Linked 1 k a u v → ⊥
    both l m =
        let (o, c) = and_both (gone k 0 a u v) (gone k 2 a u v) l in
        let (_, b) = and_both (gone k 0 a u v) (gone k 1 a u v) m in
        clash (and_intro o (and_intro b c)) (full a u v w)

-- One direction is followed from u to v: totals of the items of g have grown, and the links from them go on, and so does that from u to v
abbrev Grew : ℕ → ℕ → ℕ → ℕ → ℕ → ℕ → Type 0
Grew x a g y b i = (y ≡ x) × (b ≡ a) × (bit_at g i ≡ true)

pub record Moved (k : Domains) (x a u v g : ℕ) (t s : List ℕ) : Type 1 where
  pub tabled : Tabled s
  pub small : g < 2 ^ 10
  pub same : SameMeasures t s
  pub fitting : (p : Problem) → Measured p t → (f : Domains) → Fitting p t f → f ⊑ k → Fitting p s f
  pub closed : (p : Problem) → Measured p t → (L M : Links) (C : Cuts)
      → ((y b w z : ℕ) → Direction y → L y b w z → M y b w z ⊎ ((y ≡ x) × SamePair a u v b w z))
      → ClosedBut L C p k (table t) → ClosedBut M (λ b w z. C b w z ⊎ (Grew x a g 2 b w ⊎ Grew x a g 1 b z)) p k (table s)

module _ {k : Domains} {rows q : List ℕ} (good : Good k rows q) {t : List ℕ} (tabled : Tabled t) {x a u v : ℕ} (d : Direction x)
    (pair : Proper 10 a u v) (link : Linked x k a u v) where
  mirror : Mirror k rows
  mirror = good.laid.mirror

  linkable : Linkable (table_start x) a
  linkable = record { aligned = omega (arith, table_start-is x d); most = omega (arith, table_start-is x d); axis = pair.axis }

  begun : Ready t (table_start x) a
  begun = ready_of tabled linkable

  link_asked : Plain rows × Linkable (table_start x) a × Direction x × InRows rows x a u v
  link_asked = (
    record { long = mirror.long; small = mirror.small; self = λ a u ha hu. row_first mirror ha hu hu ∙ gone-self k 0 a u },
    linkable,
    d,
    linked_in_rows mirror d pair.axis pair.item_u pair.item_v link,
  )

  link_refuted : {s : List ℕ} → Bursts (InRows rows x a) (table_start x) a t s
      → SameMeasures t s × ((p : Problem) → Measured p t → Refuted (Fitting p t) k)
  link_refuted b = (same-measures begun b.raised, λ p w f fit h. never_bursts mirror d f fit.goal h begun w fit.under b)

  link_moved : {s : List ℕ} {g : ℕ} → Raises (InRows rows x a) (On (InRows rows x a) u v g) (table_start x) a t s g → Moved k x a u v g t s
  link_moved {s} {g} r = let gr = grows begun r.raised in record {
    tabled = gr.ready.tabled;
    small = gr.small;
    same = same-measures begun r.raised;
    fitting = λ p w f fit h. record { goal = fit.goal; under = raised-under mirror d f fit.goal h begun w r.raised fit.under };
    closed = λ p w L M C out c.
        closed_wider (λ y b i z e h n o. settled p w y b i z h n (⊎_map (out y b i z e) (λ c. c) o)) (λ b i z h. h)
        (closed-grown L C p k (table t) c (Grew x a g) (table s) (λ y b i e hb hi. gr.up (table_start y + b * 10 + i)) (λ y b i e hb hi. ⊎_map (λ h. h)
        (λ (z, hz, h, c). let same_place : (y ≡ x) × (b ≡ a) × (i ≡ z) = omega (arith, table_start-is x d, table_start-is y e, pair.axis, w.ten) in
        (same_place.0, same_place.1, rw same_place.2 c)) (gr.kept (table_start y + b * 10 + i))));
  }
    where
      on : (p : Problem) → Measured p t → (y b i z : ℕ) → y ≡ x → b ≡ a → Proper p.items b i z → Linked y k b i z
          → Only u v i z ⊎ (bit_at g i ≡ true) → extended y p b i z (table s y b i) ≤ table s y b z
      on p w y b i z e f h n c = rw (e, f)
          (let link = linked_in_rows mirror d pair.axis (omega (arith, w.ten, h.item_u)) (omega (arith, w.ten, h.item_v)) (rw (e, f) at n) in
          let step = (measured-same (same-measures begun r.raised) w).step x a i z d pair.axis h.item_u h.item_v in
          omega (arith, r.on i z (link, c), extended-sum p a x i z (table s x a i) d, step))

      settled : (p : Problem) → Measured p t → {A : Type 0} (y b i z : ℕ) → Proper p.items b i z → Linked y k b i z
          → (A ⊎ ((y ≡ x) × SamePair a u v b i z)) ⊎ Grew x a g y b i → (extended y p b i z (table s y b i) ≤ table s y b z) ⊎ A
      settled p w y b i z h n (inl (inl o)) = inr o
      settled p w y b i z h n (inl (inr (e, (f, inl c)))) = inl (on p w y b i z e f h n (inl c))
      settled p w y b i z h n (inl (inr (e, (f, inr (c, c'))))) = absurd (one_way k a u v good.laid.filled pair x d link (rw (e, f, c, c') at n))
      settled p w y b i z h n (inr (e, f, c)) = inl (on p w y b i z e f h n (inr c))

-- a link is new only where its pair is on the queue
pub closed_on : {k : Domains} {q : List ℕ} {j : Domains} {rows r : List ℕ} → Grown k q j rows r → {C : Cuts} {p : Problem} {t : Table} → p.items ≤ 10
    → (from : ℕ) → 1 ≤ from → from ≤ queue_end q → ClosedBut (λ x. Queued q from (queue_end q)) C p k t
    → ClosedBut (λ x. Queued r from (queue_end r)) C p j t
closed_on {k} {q} {j} {rows} {r} g {C} {p} {t} limited from first within c =
    closed_wider (λ x a v z d w l h. inr (⊎_elim (queued_on g from a v z first) (λ (i, low, high, e). (i, omega arith, high, e)) h)) (λ a u v h. h)
    (closed-less (λ x. Queued q from (queue_end q)) C p k t c j g.less (λ x. Queued r (queue_end q) (queue_end r))
    (λ x a v z d w l. g.new (of (forced x) a v z) (omega arith) l))

-- The function: the rows have the link, from either end
module _ {k : Domains} {rows q t : List ℕ} {a u v : ℕ} (good : Good k rows q) (pair : Proper 10 a u v)
    (tabled : Tabled t) (fixed : fixed_before k a u v ≡ true) where
  ends_link : Linked 2 k a u v
  ends_link = forced_before-is k a u v ∙ fixed

  starts-link : Linked 1 k a v u
  starts-link = forced_after_is k a v u ∙ fixed

  pub ends_asked : Plain rows × Linkable 0 a × Direction 2 × InRows rows 2 a u v
  ends_asked = link_asked good tabled {x = 2} (omega arith) pair ends_link

  -- what it answers
  abbrev pub Answer : Domains → List ℕ → List ℕ → List ℕ → Result (Unit {0}) Conflict → Type 0
  Answer j rows' r s b = SameMeasures t s × ExtendedAlong a u v k q t j rows' r s b

  pub ends_burst : {s : List ℕ} → Bursts (InRows rows 2 a) 0 a t s → (e : Conflict) → Answer k rows q s (Err e)
  ends_burst b e =
      let (same, nil) = link_refuted good tabled {x = 2} (omega arith) pair ends_link b in
      (same, λ p from c. nil p c.measured)

  module _ {t₁ : List ℕ} {ends : ℕ} (r : Raises (InRows rows 2 a) (On (InRows rows 2 a) u v ends) 0 a t t₁ ends) where
    ends_moved : Moved k 2 a u v ends t t₁
    ends_moved = link_moved good tabled {x = 2} (omega arith) pair ends_link r

    pub starts_asked : Plain rows × Linkable 30 a × Direction 1 × InRows rows 1 a v u
    starts_asked = link_asked good ends_moved.tabled {x = 1} (omega arith) (proper-sym pair) starts-link

    pub starts_burst : {s : List ℕ} → Bursts (InRows rows 1 a) 30 a t₁ s → (e : Conflict) → Answer k rows q s (Err e)
    starts_burst b e =
        let (same, nil) = link_refuted good ends_moved.tabled {x = 1} (omega arith) (proper-sym pair) starts-link b in (
          same_then ends_moved.same same,
          λ p from c f fit l. nil p (measured-same ends_moved.same c.measured) f (ends_moved.fitting p c.measured f fit l) l,
        )

    module _ {s : List ℕ} {starts : ℕ} (r₁ : Raises (InRows rows 1 a) (On (InRows rows 1 a) v u starts) 30 a t₁ s starts) where
      starts_moved : Moved k 1 a v u starts t₁ s
      starts_moved = link_moved good ends_moved.tabled {x = 1} (omega arith) (proper-sym pair) starts-link r₁

      pub cut_asked : (a < 3) × (ends < 2 ^ 10) × (starts < 2 ^ 10)
      cut_asked = (pair.axis, ends_moved.small, starts_moved.small)

      same : SameMeasures t s
      same = same_then ends_moved.same starts_moved.same

      fitting : (p : Problem) → Measured p t → (f : Domains) → Fitting p t f → f ⊑ k → Fitting p s f
      fitting p w f fit b = starts_moved.fitting p (measured-same ends_moved.same w) f (ends_moved.fitting p w f fit b) b

      cut : (p : Problem) → Measured p t → (f : Domains) → Fitting p t f → f ⊑ k → FilledWith (CutBoth s a) f
      cut p w f fit b = fitting_cut (measured-same same w) a pair.axis f (fitting p w f fit b)

      -- both directions followed, and the cuts made around the items that grew
      all_closed : {j : Domains} {rows' r : List ℕ} → Narrowed (FilledWith (CutBoth s a)) (CutAround s a ends starts) k q j rows' r
          → (p : Problem) (from : ℕ) → Charted p k q t from a u v → ClosedBut (λ x. Queued r from (queue_end r)) NoPair p j (table s)
      all_closed {j} {rows'} {r} n p from c = record {
        size = closed.size;
        on = closed.on;
        cut = λ b w z h l. made b w z (rw c.measured.ten at h) (lt-ltb (p.capacity b) _ l) (closed.cut b w z h l);
      }
        where
          m : Measured p s
          m = measured-same same c.measured

          Cut : Cuts
          Cut b w z = (⊥ ⊎ (Grew 2 a ends 2 b w ⊎ Grew 2 a ends 1 b z)) ⊎ (Grew 1 a starts 2 b w ⊎ Grew 1 a starts 1 b z)

          Left : Links
          Left y b w z = Queued q from (queue_end q) b w z ⊎ ((y ≡ 1) × SamePair a v u b w z)

          closed : ClosedBut (λ x. Queued r from (queue_end r)) Cut p j (table s)
          closed =
              closed_on n.grown (omega (arith, c.measured.ten)) from c.first c.within
              (starts_moved.closed p (measured-same ends_moved.same c.measured) Left (λ x. Queued q from (queue_end q)) _ (λ y b w z d o. o)
              (ends_moved.closed p c.measured _ Left NoPair
              (λ y b w z d o. ⊎_elim (λ o. inl (inl o)) (λ (f, o). by_direction (λ y. Left y b w z ⊎ ((y ≡ 2) × SamePair a u v b w z))
              (inl (inr (refl, (f, ⊎_elim inr inl o)))) (inr (refl, (f, o))) y d) o) c.closed))

          made : (b w z : ℕ) (c : Proper 10 b w z) → over m b w z c ≡ true → (gone j 1 b w z ≡ true) ⊎ Cut b w z → (gone j 1 b w z ≡ true) ⊎ ⊥
          made b w z c l (inl e) = inl e
          made b w z c l (inr (inl (inl o))) = inr o
          made b w z c l (inr (inl (inr (inl (_, e, h))))) =
              let f = rw e at ((exceeds-joined m b w z c).0 ∙ l) in
              inl (rw e (n.done.0 w h z (rw e at c) f))
          made b w z c l (inr (inl (inr (inr (o, _, _))))) = absurd (omega arith)
          made b w z c l (inr (inr (inl (o, _, _)))) = absurd (omega arith)
          made b w z c l (inr (inr (inr (_, e, h)))) =
              let f = rw e at ((exceeds-joined m b w z c).1 ∙ l) in
              inl (rw e (sym (gone-converse j 1 a w z (omega arith)) ∙ n.done.1 z h w (proper-sym (rw e at c)) f))

      pub cut-answer : (j : Domains) (rows' r : List ℕ) (b : Result (Unit {0}) Conflict)
          → NarrowedIf (FilledWith (CutBoth s a)) (CutAround s a ends starts) k q j rows' r b → Answer j rows' r s b
      cut-answer j rows' r (Err _) nil = (same, λ p from c f fit l. nil f (cut p c.measured f fit l) l)
      cut-answer j rows' r (Ok _) n = (
        same,
        λ p from c. record {
          narrowed = record { grown = n.grown; low = λ f fit l. n.low f (cut p c.measured f fit l) l; done = all_closed n p from c };
          measured = measured-same same c.measured;
          tabled = starts_moved.tabled;
          under = λ f fit l. (fitting p c.measured f fit l).under;
        },
      )
