-- What loops keep: facts of all numbers below one, and of the entries of a list; facts of the three axes.
use Rattle.std.specs.Prelude.{◌≢◌, ◌≡◌, ◌+◌, ◌<◌}
use Rattle.prelude.specs.Names.{List, refl, ℕ, zero, suc, ℕ_discrete, arith, get_or, set, length, replicate, get_or-set_same}
use Rattle.prelude.specs.Names.{get_or-set_other}

-- what holds below i, and at i, holds below i + 1
pub below_more : (P : ℕ → Type 0) (i : ℕ) → ((x : ℕ) → x < i → P x) → P i → (x : ℕ) → x < i + 1 → P x
below_more P i h e x l = elim (ℕ_discrete x i) [ yes q ↦ rw q e | no q ↦ h x (omega arith) ]

-- what holds of the other entries, and of what is stored at i, holds of all entries after
pub written : {A : Type 0} (d : A) (P : ℕ → A → Type 0) (l : List A) (i : ℕ) (v : A) → i < length l → P i v → ((x : ℕ) → x ≢ i → P x (get_or l x d))
    → (x : ℕ) → P x (get_or (set l i v) x d)
written d P l i v room new other x =
    elim (ℕ_discrete x i) [ yes q ↦ rw (q, get_or-set_same l i v d room) new | no q ↦ rw (get_or-set_other l i x v d q) (other x q) ]

-- A list of one value
pub blank_at : {A : Type 0} (x : A) (m i : ℕ) → get_or (replicate m x) i x ≡ x
blank_at x zero i = refl
blank_at x (suc m) zero = refl
blank_at x (suc m) (suc i) = blank_at x m i
