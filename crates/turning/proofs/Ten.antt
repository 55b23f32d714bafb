-- Arrays of ten entries that are filled one by one.
use Rattle.std.specs.Prelude.{◌≡◌, ◌+◌, ◌≤◌, ◌<◌}
use Rattle.prelude.specs.Names.{List, refl, sym, ◌∙◌, ℕ, zero, suc, arith, length, get_or, set, length-set, ext_get_or, get_or-set_same}
use Rattle.prelude.specs.Names.{get_or-set_other}
use Rattle.prelude.specs.Names.{ℕ_discrete, dec_lt, replicate}
use Rattle.instance.proofs.Positions.{ten-at}
use Rattle.turning.specs.Turned.{each_of_ten}

pub each_at : {A : Type 0} (f : ℕ → A) (u : ℕ) (d : A) → u < 10 → get_or (each_of_ten f) u d ≡ f u
unfolding each_of_ten
each_at f u d h = ten-at d f u h

pub each-length : {A : Type 0} (f : ℕ → A) → length (each_of_ten f) ≡ 10
unfolding each_of_ten
each-length f = refl

pub blank_at : {A : Type 0} (x : A) (n k : ℕ) → get_or (replicate n x) k x ≡ x
blank_at x zero k = refl
blank_at x (suc n) zero = refl
blank_at x (suc n) (suc k) = blank_at x n k

-- of ten entries the first u are those of f, and the others as they were
pub record FilledTo {A : Type 0} (d : A) (f : ℕ → A) (given : List A) (xs : List A) (u : ℕ) : Type 0 where
  pub room : length xs ≡ 10
  pub filled : (k : ℕ) → k < u → get_or xs k d ≡ f k
  pub left : (k : ℕ) → u ≤ k → get_or xs k d ≡ get_or given k d

module _ {A : Type 0} {d : A} {f : ℕ → A} {given : List A} where
  pub fill_next : {xs : List A} {u : ℕ} {x : A} → FilledTo d f given xs u → u < 10 → x ≡ f u → FilledTo d f given (set xs u x) (u + 1)
  fill_next {xs} {u} {x} φ l e = record {
    room = length-set xs u x ∙ φ.room;
    filled = λ k h. elim (ℕ_discrete k u) [
      | yes s ↦ rw s (get_or-set_same xs u x d (omega (arith, φ.room)) ∙ e)
      | no n ↦ get_or-set_other xs u k x d n ∙ φ.filled k (omega arith)
    ];
    left = λ k h. let n : k ≡ u → ⊥ = λ s. omega arith in get_or-set_other xs u k x d n ∙ φ.left k (omega arith);
  }

  -- an entry that stays
  pub fill_same : {xs : List A} {u : ℕ} → FilledTo d f given xs u → get_or given u d ≡ f u → FilledTo d f given xs (u + 1)
  fill_same {xs} {u} φ e = record {
    room = φ.room;
    filled = λ k h. elim (ℕ_discrete k u) [ yes s ↦ rw s (φ.left u (omega arith) ∙ e) | no n ↦ φ.filled k (omega arith) ];
    left = λ k h. φ.left k (omega arith);
  }

  -- all ten, where those past u are those of f too
  pub fill_all : {xs : List A} {u : ℕ} → FilledTo d f given xs u → ((k : ℕ) → u ≤ k → k < 10 → get_or given k d ≡ f k) → xs ≡ each_of_ten f
  fill_all {xs} {u} φ past = ext_get_or d xs (each_of_ten f) (φ.room ∙ sym (each-length f)) (λ k h.
      by k (omega (arith, φ.room)) (dec_lt k u) ∙ sym (each_at f k d (omega (arith, φ.room))))
    where
      by : (k : ℕ) → k < 10 → Dec (k < u) → get_or xs k d ≡ f k
      by k l (yes h) = φ.filled k h
      by k l (no h) = φ.left k (omega arith) ∙ past k (omega arith) l
