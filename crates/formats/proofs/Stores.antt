-- Laws of runs of stores into a list, and of the bytes of a row of parts: what the writers' proofs cite.
use Rattle.std.specs.Prelude.{◌≡◌, ◌∷◌, ◌++◌, ◌+◌, ◌-◌, ◌≤◌, ◌<◌}
use Rattle.prelude.specs.Names.{refl, ◌∙◌, List, [], append_assoc, append-nil, ℕ, suc, arith, add-zero, zero-add}
use Rattle.prelude.specs.Names.{suc-add, add-one, length, take, drop, set, get_or, length-append, sets, take-suc, length-take-le}
use native.Mathlib.Nat.{add-suc}
use lib.Seq.{sets-eq, take-add}
use Rattle.formats.specs.Formats.{row_bytes}

module _ {A : Type 0} where
  -- a second run of stores right after a first
  pub sets_append : (a b l : List A) (i : ℕ) → sets (sets l i a) (i + length a) b ≡ sets l i (a ++ b)
  sets_append [] b l i = rw add-zero
  sets_append (x ∷ a) b l i = rw (add-suc, ← (suc-add i (length a))) (sets_append a b (set l i x) (suc i))

  -- a run from the start is a new front
  pub sets-front : (bs d : List A) → length bs ≤ length d → sets d 0 bs ≡ bs ++ drop (length bs) d
  sets-front bs d h = sets-eq bs d 0 (omega arith) ∙ rw zero-add

-- one byte more of a run
pub sets-next : (l s : List ℕ) (at i : ℕ) → i < length s → set (sets l at (take i s)) (at + i) (get_or s i 0) ≡ sets l at (take (i + 1) s)
sets-next l s at i h =
    let e : at + length (take i s) ≡ at + i = rw (length-take-le i s (omega arith)) in
    rw (add-one, take-suc s i 0 h, ← (sets_append (take i s) (get_or s i 0 ∷ []) l at), e)

-- runs of stores, each right after the one before
abbrev pub stores : List ℕ → ℕ → List (List ℕ) → List ℕ
stores l at [] = l
stores l at (w ∷ ws) = stores (sets l at w) (at + length w) ws

abbrev pub joined : List (List ℕ) → List ℕ
joined [] = []
joined (w ∷ ws) = w ++ joined ws

-- are one run
pub stores_joined : (l : List ℕ) (at : ℕ) (ws : List (List ℕ)) → stores l at ws ≡ sets l at (joined ws)
stores_joined l at [] = refl
stores_joined l at (w ∷ ws) = stores_joined (sets l at w) (at + length w) ws ∙ sets_append w (joined ws) l at

-- a row of parts
module _ {A : Type 0} (bytes : A → List ℕ) where
  pub row_append : (xs ys : List A) → row_bytes bytes (xs ++ ys) ≡ row_bytes bytes xs ++ row_bytes bytes ys
  unfolding row_bytes
  row_append [] ys = refl
  row_append (x ∷ xs) ys = rw (row_append xs ys, append_assoc)

  pub row-none : (l : List A) → row_bytes bytes (take 0 l) ≡ []
  unfolding row_bytes
  row-none l = refl

  -- one part more
  pub row_next : (l : List A) (j : ℕ) (d : A) → j < length l → row_bytes bytes (take (j + 1) l) ≡ row_bytes bytes (take j l) ++ bytes (get_or l j d)
  unfolding row_bytes
  row_next l j d h = rw (add-one, take-suc l j d h, row_append, append-nil)

  -- the bytes of fewer parts are no more
  pub row_mono : (l : List A) (j n : ℕ) → j ≤ n → length (row_bytes bytes (take j l)) ≤ length (row_bytes bytes (take n l))
  row_mono l j n h =
      let e : n ≡ j + (n - j) = omega arith in rw (e, take-add, row_append, length-append) (omega arith)

  -- the next part has room where the whole row has
  pub row_room : (l : List A) (j n : ℕ) (d : A) → j < n → n ≤ length l
      → length (row_bytes bytes (take j l)) + length (bytes (get_or l j d)) ≤ length (row_bytes bytes (take n l))
  row_room l j n d h k = rw (row_next l j d (omega arith), length-append) at (row_mono l (j + 1) n (omega arith))
