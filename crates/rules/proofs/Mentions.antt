-- Every clause with a premise of u and v is, up to its symmetries, among those that working the pair off looks at.
use Rattle.std.specs.Prelude.{◌⊎◌, ◌≡◌, ◌<◌}
use Rattle.prelude.specs.Names.{true, List, inl, inr, refl, sym, ◌∙◌, ℕ, ℕ_discrete, arith}
use mathlib.Core.Logic.{⊎_swap}
use Rattle.model.proofs.Below.{below_three}
use Rattle.model.specs.Domains.{Domains}
use Rattle.model.specs.Order.{Proper}
use Rattle.model.specs.Relations.{gone, converse}
use Rattle.model.specs.Facts.{overlaps, removed, forced, Fact, says, Holds}
use Rattle.model.specs.Clauses.{of, Axes, Three, Order, Rule, c3, d2, d1_far, d1_near, g1, AllHold}
use Rattle.model.proofs.Slots.{proper-sym}
use Rattle.model.proofs.Facts.{gone-converse, forced_converse}
use Rattle.domains.specs.Queue.{SamePair}
use Rattle.rules.specs.Worked.{Handled, PathFrom, Paths, next_axis, Third, Diagonal, Overlapping}
use Rattle.rules.specs.Mentions.{Mentions, Mentioning}
use Rattle.rules.proofs.Triangles.{either_order}
use Rattle.rules.proofs.OnAxes.{axes_next, axes_swap}
use Rattle.rules.proofs.Cycles.{overlap_converse, ring_of, ring_premises}

-- The other two axes, in one order or the other
two_axes : (a : ℕ) → a < 3 → (d e : ℕ) → Axes a d e
    → ((d ≡ next_axis a) × (e ≡ next_axis (next_axis a))) ⊎ ((d ≡ next_axis (next_axis a)) × (e ≡ next_axis a))
two_axes =
    below_three _ (λ d e x. elim (ℕ_discrete d 1) [ yes h ↦ inl (omega arith) | no h ↦ inr (omega arith) ])
    (λ d e x. elim (ℕ_discrete d 2) [ yes h ↦ inl (omega arith) | no h ↦ inr (omega arith) ])
    (λ d e x. elim (ℕ_discrete d 0) [ yes h ↦ inl (omega arith) | no h ↦ inr (omega arith) ])

-- A path read from its other end
order_converse : (x : ℕ) → Order x → Order (converse x)
order_converse x h = elim (either_order h) [ inl e ↦ rw e (omega arith) | inr e ↦ rw e (omega arith) ]

three_converse : {n a u v w : ℕ} → Three n a u v w → Three n a w v u
three_converse t = record { uv = proper-sym t.vw; vw = proper-sym t.uv; uw = proper-sym t.uw }

-- A ring from s on, and the other way round
module _ (k : Domains) (a q r s t : ℕ) (h : AllHold k (ring_of a q r s t)) where
  ring_converse : AllHold k (ring_of a s r q t)
  unfolding says
  ring_converse =
      let (qr, (rs, (st, (tq, (e, _))))) = h in
      let sq = gone-converse k 0 a q s (omega arith) ∙ e in
      (overlap_converse k a r s rs, (overlap_converse k a q r qr, (overlap_converse k a t q tq, (overlap_converse k a s t st, (sq, tt)))))

  ring_flipped : AllHold k (ring_of a q t s r)
  ring_flipped =
      let (qr, (rs, (st, (tq, e)))) = h in
      (overlap_converse k a t q tq, (overlap_converse k a s t st, (overlap_converse k a r s rs, (overlap_converse k a q r qr, e))))

module _ (k j : Domains) where
  -- what is done where u and v on the axis a are worked off
  record Done (a u v : ℕ) : Type 0 where
    paths : Handled (Paths a u v) k j
    across : gone k 0 a u v ≡ true → Handled (Diagonal a u v) k j
    overlapping : Holds k (of overlaps a u v) → Handled (Overlapping a u v) k j

  -- rule 1 with the pair as a premise on a and on d
  third : (a d e u v : ℕ) → Done a u v → Axes a d e → Proper 10 a u v → Holds k (of overlaps a u v) → Holds k (of overlaps d u v)
      → Holds j (of (removed 0) e u v)
  third a d e u v done x s f g =
      let next : Axes a (next_axis a) (next_axis (next_axis a)) = axes_next a s.axis in
      elim (two_axes a s.axis d e x) [
        | inl (p, q) ↦ rw q (done.overlapping f _ _ (inl (next, s, refl, refl)) (f, (rw p at g, tt)))
        | inr (p, q) ↦ rw q (done.overlapping f _ _ (inr (inl (axes_swap next, s, refl, refl))) (f, (rw p at g, tt)))
      ]

  -- rule 4 with the pair as a side, and as the diagonal
  module _ (a q r s t : ℕ) (x : Three 10 a q r s) (y : Three 10 a s t q) (z : Proper 10 a r t) (h : AllHold k (ring_of a q r s t)) where
    side : Done a q r → Holds j (of overlaps a r t)
    side done = done.overlapping h.0 _ _ (inr (inr (inl (s, x.vw.item_v, (t, x, y, z, refl, refl))))) h

    diagonal : Done a q s → Holds j (of overlaps a r t)
    unfolding says
    diagonal done = done.across h.1.1.1.1.0 _ _ (r, x.vw.item_u, (t, x, y, z, refl, refl)) h

  -- the pair in the other order
  done-converse : (a u v : ℕ) → Done a u v → Done a v u
  unfolding says
  done-converse a u v done =
      let back : (ps : List Fact) (c : Fact) (d e : ℕ) → Third a d e v u ps c → AllHold k ps → Holds j c =
      λ ps c d e (x, s, p, q) h. let (f, (g, _)) = rw p at h in
      let w = third a d e u v done x (proper-sym s) (overlap_converse k a v u f) (overlap_converse k d v u g) in
      rw q (gone-converse j 0 e u v (omega arith) ∙ w) in record {
        paths = λ ps c (x, o, m) h. done.paths ps c (x, o, ⊎_swap m) h;
        across = λ e ps c (r, hr, ring) h.
            let (t, x, y, z, _, f) = ring in
            rw f (diagonal a u r v t (three_converse x) (three_converse y) z (ring_converse k a v r u t (ring_premises k ps c ring h)) done);
        overlapping = λ e ps c m h. elim m [
          | inl m ↦ back ps c _ _ m h
          | inr (inl m) ↦ back ps c _ _ m h
          | inr (inr m) ↦ done.overlapping (overlap_converse k a v u e) ps c (inr (inr (⊎_swap m))) h
        ];
      }

-- All clauses with a premise of u and v on the axis a
pub mentioning_handled : (k j : Domains) {a u v : ℕ} → Proper 10 a u v → Handled (Paths a u v) k j
    → (gone k 0 a u v ≡ true → Handled (Diagonal a u v) k j) → (Holds k (of overlaps a u v) → Handled (Overlapping a u v) k j)
    → Handled (Mentioning a u v) k j
unfolding says
mentioning_handled k j {a} {u} {v} s paths across overlapping ps c (rule, m) h = go rule m h
  where
    at : {b q r : ℕ} → SamePair a u v b q r → Done k j b q r
    at (e, m) =
        let d : Done k j a u v = record { paths = paths; across = across; overlapping = overlapping } in
        elim m [ inl (x, y) ↦ rw (e, x, y) d | inr (x, y) ↦ rw (e, x, y) (done-converse k j a u v d) ]

    -- a path from its other end
    forced_back : (i : Domains) {x : ℕ} → Order x → (b s t : ℕ) → says (forced (converse x)) i b t s ≡ says (forced x) i b s t
    forced_back i {x} o b s t = forced_converse i x b s t (omega arith)

    removed_back : (i : Domains) {x : ℕ} → Order x → (b s t : ℕ) → gone i (converse x) b t s ≡ gone i x b s t
    removed_back i {x} o b s t = gone-converse i x b s t (omega arith)

    reversed : {x b t w : ℕ} {ps : List Fact} {c : Fact} → SamePair a u v b t w → Order x → PathFrom (converse x) b w t ps c → AllHold k ps
        → Holds j c
    reversed {x} n o m h = (at n).paths _ _ (converse x, order_converse x o, inr m) h

    go : {ps : List Fact} {c : Fact} → Rule 10 ps c → Mentions a u v ps → AllHold k ps → Holds j c
    go (d2 x b s t w o i) (inl n) h = (at n).paths _ _ (x, o, inl (w, i, inl (refl, refl))) h
    go (d2 x b s t w o i) (inr (inl n)) (f, (g, _)) =
        sym (forced_back j o b s w)
        ∙ reversed n o (s, three_converse i, inl (refl, refl)) (forced_back k o b t w ∙ g, (forced_back k o b s t ∙ f, tt))
    go (d1_far x b s t w o i) (inl n) h = (at n).paths _ _ (x, o, inl (w, i, inr (inl (refl, refl)))) h
    go (d1_far x b s t w o i) (inr (inl n)) (f, (g, _)) =
        sym (removed_back j o b s w)
        ∙ reversed n o (s, three_converse i, inr (inr (refl, refl))) (removed_back k o b t w ∙ g, (forced_back k o b s t ∙ f, tt))
    go (d1_near x b s t w o i) (inl n) h = (at n).paths _ _ (x, o, inl (w, i, inr (inr (refl, refl)))) h
    go (d1_near x b s t w o i) (inr (inl n)) (f, (g, _)) =
        sym (removed_back j o b s w)
        ∙ reversed n o (s, three_converse i, inr (inl (refl, refl))) (forced_back k o b t w ∙ g, (removed_back k o b s t ∙ f, tt))
    go (c3 b d e s t x p) (inl n) (f, (g, _)) = third k j b d e s t (at n) x p f g
    go (c3 b d e s t x p) (inr (inl n)) (f, (g, _)) = third k j d b e s t (at n) (omega arith) (omega arith) g f
    go (g1 b q r s t x y z) (inl n) h = side k j b q r s t x y z h (at n)
    go (g1 b q r s t x y z) (inr (inl n)) h =
        side k j b s r q t (three_converse x) (three_converse y) z (ring_converse k b q r s t h) (done-converse k j b r s (at n))
    go (g1 b q r s t x y z) (inr (inr (inl n))) h =
        overlap_converse j b t r (side k j b s t q r y x (proper-sym z) (ring_converse k b q t s r (ring_flipped k b q r s t h)) (at n))
    go (g1 b q r s t x y z) (inr (inr (inr (inl n)))) h =
        overlap_converse j b t r
        (side k j b q t s r (three_converse y) (three_converse x) (proper-sym z) (ring_flipped k b q r s t h) (done-converse k j b t q (at n)))
    go (g1 b q r s t x y z) (inr (inr (inr (inr (inl n))))) h = diagonal k j b q r s t x y z h (at n)
    go (c3 b d e s t x p) (inr (inr n)) h = elim n [ ]
    go (d2 x b s t w o i) (inr (inr n)) h = elim n [ ]
    go (d1_far x b s t w o i) (inr (inr n)) h = elim n [ ]
    go (d1_near x b s t w o i) (inr (inr n)) h = elim n [ ]
    go (g1 b q r s t x y z) (inr (inr (inr (inr (inr n))))) h = elim n [ ]
