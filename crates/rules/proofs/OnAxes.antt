-- Rule 1: overlap known on two axes is removed on the third. The axes stand in a circle.
use Rattle.std.specs.Prelude.{◌≡◌, ◌+◌, ◌*◌, ◌^◌, ◌<◌, Result}
use Rattle.prelude.specs.Names.{true, false, List, sym, ◌∙◌, ℕ, arith, eqb, eqb-true, eq-eqb, ne_eqb}
use Rattle.model.specs.Domains.{Domains}
use Rattle.model.specs.Order.{Proper}
use Rattle.model.specs.Facts.{overlaps, says, Holds}
use Rattle.model.specs.Clauses.{of, Axes, c3, Lawful}
use Rattle.model.proofs.Below.{clash, below_three}
use Rattle.domains.specs.Bits.{bit_at}
use Rattle.domains.specs.Rows.{row_at}
use Rattle.domains.specs.Queue.{Good}
use Rattle.domains.specs.declared.store.Conflict.{Conflict}
use Rattle.domains.specs.Narrowed.{All, Asked, Askable, Narrowed, RemovedIf}
use Rattle.rules.specs.Worked.{next_axis, Handled, HandledIf, Third}
use Rattle.domains.proofs.BitLaws.{bit_power}
use Rattle.domains.proofs.Narrowed.{narrowed_none, outcome_as}
use Rattle.rules.proofs.Handling.{lawful_holds}
use Rattle.domains.proofs.Mirror.{OverlapSet, row_overlaps}

pub axes_next : (a : ℕ) → a < 3 → Axes a (next_axis a) (next_axis (next_axis a))
axes_next = below_three _ (omega arith) (omega arith) (omega arith)

pub axes_of : {a b c : ℕ} → a < 3 → b ≡ next_axis a → c ≡ next_axis b → Axes a b c
axes_of {a} h e f = rw (f, e) (axes_next a h)

pub axes_swap : {a b c : ℕ} → Axes a b c → Axes a c b
axes_swap x = omega arith

module _ {a b c u v : ℕ} (x : Axes a b c) (s : Proper 10 a u v) {k : Domains} {rows q : List ℕ} (g : Good k rows q)
    {m : ℕ} (f : OverlapSet (row_at rows b u) m) where
  overlap_known : bit_at m v ≡ says overlaps k b u v
  overlap_known = row_overlaps g.laid.mirror x.axis_b s.item_u s.item_v f

  -- overlap is not known on b
  pub third_idle : bit_at m v ≡ false → Narrowed Lawful (Handled (Third a b c u v) k) k q k rows q
  third_idle e = narrowed_none g (λ ps t (_, _, y, _) h. absurd (clash (overlap_known ∙ (rw y at h).1.0) e))

  module _ {i : ℕ} (is : i ≡ 2 ^ v) (small : i < 2 ^ 30) where
    -- the set of v alone
    only : (y : ℕ) → bit_at i y ≡ eqb y v
    only y = cc (bit_power v y)

    pub third_askable : Askable c u i
    third_askable = record {
      axis = x.axis_c;
      item = s.item_u;
      small = small;
      other = λ y hy. only (y * 10 + u) ∙ ne_eqb (y * 10 + u) v (omega (arith, s.distinct, s.item_v));
    }

    pub third_worked : bit_at m v ≡ true → Holds k (of overlaps a u v) → (j : Domains) (rows' r : List ℕ) (t : Result (Unit {0}) Conflict)
        → RemovedIf (All c u i) k q j rows' r t → HandledIf (Third a b c u v) k q j rows' r t
    unfolding says
    third_worked e h j rows' r t =
        outcome_as (Asked c u i) Lawful (All c u i) (Handled (Third a b c u v) k) k q j rows' r t
        (λ f l d. record {
          all = λ y w hy hw o.
              let z = eqb-true (y * 10 + w) v (sym (only (y * 10 + w)) ∙ o) in
              let e0 : y ≡ 0 = omega (arith, s.item_v) in
              let e1 : w ≡ v = omega (arith, s.item_v) in
              rw (e0, e1) (lawful_holds k l d (c3 a b c u v x s) (h, (sym overlap_known ∙ e, tt)));
          filled = l.filled;
        })
        (λ d all ps o (_, _, _, z) p. rw z (all 0 v (omega arith) s.item_v (only (0 * 10 + v) ∙ eq-eqb (0 * 10 + v) v (omega arith))))
