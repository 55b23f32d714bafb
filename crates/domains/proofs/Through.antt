-- Going through the bits of a number from the lowest on: each is taken out of those that are left, until none is.
use Rattle.std.specs.Prelude.{◌≡◌, ◌^◌, ◌<◌}
use Rattle.prelude.specs.Names.{true, false, sym, ◌∙◌, ℕ, ℕ_discrete, arith}
use Rattle.model.proofs.Below.{clash}
use Rattle.domains.specs.Bits.{bit_at, TakenOut}
use Rattle.domains.proofs.BitLaws.{bit-zero, taken-rest, taken_in}

-- of the bits of a set of n some are left, and P holds of the others
pub record Through (n items left : ℕ) (P : ℕ → Type 0) : Type 0 where
  pub small : left < 2 ^ n
  pub within : (i : ℕ) → bit_at left i ≡ true → bit_at items i ≡ true
  pub dealt : (i : ℕ) → bit_at items i ≡ true → bit_at left i ≡ false → P i

pub through_none : {n items : ℕ} {P : ℕ → Type 0} → items < 2 ^ n → Through n items items P
through_none h = record { small = h; within = λ i e. e; dealt = λ i e f. absurd (clash e f) }

-- one more is dealt with, and what held of those before still does
pub through_one : {n items left i r : ℕ} {P Q : ℕ → Type 0} → Through n items left P → TakenOut left i r
    → ((j : ℕ) → bit_at items j ≡ true → P j → Q j) → Q i → Through n items r Q
through_one {n} {items} {left} {i} {r} {P} {Q} g w f q = record {
  small = omega (arith, g.small, w.less);
  within = λ j e. g.within j (taken_in w j e).0;
  dealt = λ j e o. elim (ℕ_discrete j i) [ yes p ↦ rw p q | no d ↦ f j e (g.dealt j e (sym (taken-rest w j d) ∙ o)) ];
}

pub through_all : {n items left : ℕ} {P : ℕ → Type 0} → Through n items left P → left ≡ 0 → (i : ℕ) → bit_at items i ≡ true → P i
through_all g z i e = g.dealt i e (rw z (bit-zero i))
