-- Removing a relation of u with each item of a set, one after another.
use Rattle.std.specs.Prelude.{◌≢◌, ◌≡◌, ◌≤◌, ◌<◌}
use Rattle.prelude.specs.Names.{true, false, List, ◌∙◌, ℕ, arith}
use Rattle.model.specs.Domains.{Domains}
use Rattle.model.specs.Order.{Proper, ◌⊑◌}
use Rattle.model.specs.Relations.{gone, without}
use Rattle.model.proofs.Below.{fails}
use Rattle.model.proofs.Facts.{gone_mono}
use Rattle.model.proofs.Without.{without-less, without_gone, without_other}
use Rattle.domains.specs.Bits.{bit_at, TakenOut}
use Rattle.domains.specs.Queue.{queue_end, Good}
use Rattle.domains.specs.Narrowed.{Narrowed, RemovedOnly, One, Spare, Each, Spares}
use Rattle.domains.proofs.BitLaws.{bit_below, taken_in}
use Rattle.domains.proofs.Narrowed.{narrowed_none, narrowed-then, narrowed_as}
use Rattle.domains.proofs.Through.{Through, through_none, through_one, through_all}

-- What domains of G have left, narrowing to G leaves
pub still_left : {G D : Domains → Type 0} {k : Domains} {q : List ℕ} {j : Domains} {rows r : List ℕ} → Narrowed G D k q j rows r
    → (f : Domains) → G f → f ⊑ k → (y a u v : ℕ) → gone f y a u v ≡ false → gone j y a u v ≡ false
still_left {j = j} n f g b y a u v e = fails (gone_mono f j (n.low f g b) y a u v) e

-- The items of the set that are not left over are dealt with, and the others can be
pub record Dealing (x a u items : ℕ) (k : Domains) (q : List ℕ) (j : Domains) (rows r : List ℕ) (left : ℕ) : Type 0 where
  pub known : (1 ≤ queue_end q) × (x < 3) × (a < 3) × (u < 10)
  pub narrowed : Narrowed (Each x a u items) (λ f. Through 10 items left (λ v. gone f x a u v ≡ true)) k q j rows r
  pub spares : Spares j x a u left

pub dealing_none : {x a u items : ℕ} {k : Domains} {rows q : List ℕ} → Good k rows q → x < 3 → a < 3 → u < 10 → Spares k x a u items
    → Dealing x a u items k q k rows q items
dealing_none g hx ha hu s = record { known = (g.least, hx, ha, hu); narrowed = narrowed_none g (through_none s.small); spares = s }

module _ {x a u items : ℕ} {k : Domains} {q : List ℕ} {j : Domains} {rows r : List ℕ} {left : ℕ} (d : Dealing x a u items k q j rows r left) where
  pub dealing_spare : (v : ℕ) → bit_at left v ≡ true → Proper 10 a u v × Spare j x a u v
  dealing_spare v e =
      let hv = bit_below 10 left v d.spares.small e in
      let (ne, s) = d.spares.spare v hv e in
      (omega arith, s)

  -- one more item
  pub dealing_one : {v rest : ℕ} {l : Domains} {rows' s : List ℕ} → bit_at left v ≡ true → TakenOut left v rest
      → RemovedOnly (One x a u v) j r l rows' s → Dealing x a u items k q l rows' s rest
  dealing_one {v} {rest} {l} {rows'} {s} e o n =
      let hx = d.known.1 in
      let w = (dealing_spare v e).0 in
      let good = d.narrowed.grown.good.laid.well_formed in
      let kept : (y t : ℕ) → y < 3 → t < 10 → t ≢ u → t ≢ v → gone j y a u t ≡ false → gone l y a u t ≡ false =
      λ y t hy ht ne de h. still_left n (without j x a u v) (without_gone j x good w) (without-less j x a u v) y a u t
      (without_other j x y hx hy good w (omega arith) (record { near = λ _ _ _ p. de p; far = λ _ _ p _. w.distinct p }) ∙ h) in record {
        known = d.known;
        narrowed = narrowed-then {E = One x a u v} d.known.0 d.narrowed
            (narrowed_as (λ f h b. h v w.item_v (d.narrowed.done.within v e)) (λ _ h. h) n)
            (λ b t h. through_one t o (λ i _ g. gone_mono l j b x a u i g) h);
        spares = record {
          small = omega (arith, d.spares.small, o.less);
          spare = λ t ht h.
              let (i, de) = taken_in o t h in
              let (ne, s) = d.spares.spare t ht i in
              let (y, hy, yx, g) = s.other in
              (ne, record { left = kept x t hx ht ne de s.left; other = (y, hy, yx, kept y t hy ht ne de g) });
        };
      }

  -- none is left over
  pub dealing_all : left ≡ 0 → RemovedOnly (Each x a u items) k q j rows r
  dealing_all z = narrowed_as (λ f h b. h) (λ _ t v hv e. through_all t z v e) d.narrowed
