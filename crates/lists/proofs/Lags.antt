-- Laws of lags in an array, and of precedences with their lags.
use Rattle.std.specs.Prelude.{◌&&◌, ◌≡◌, ◌∷◌, ◌++◌, ◌+◌, ◌-◌, ◌<◌}
use Rattle.prelude.specs.Names.{refl, sym, ap, ◌∙◌, List, [], map, ℕ, zero, suc, arith, eqb}
use Rattle.prelude.specs.Names.{length, get_or, set, take, drop, replicate, add-one, drop-cons, append_assoc}
use lib.ListN.{length-map}
use lib.Seq.{take-suc-set, drop-set-lt}
use Rattle.formats.specs.Reading.{Read, got, refused, read_as}
use Rattle.parts.specs.declared.Precedence.{Precedence}
use Rattle.parts.specs.Sizes.{no_precedence}
use Rattle.parts.specs.Precedences.{Arc, arc_of, lag_of, lagged, unlagged}
use Rattle.parts.specs.Parts.{lags_zero}
use Rattle.parts.proofs.Laws.{zeros_zero}
use Rattle.lists.specs.Lists.{padded, Padded, with_lags}
use Rattle.std.specs.List.{list_all}

-- blanks are lags of 0
pub padded-zero : (room : ℕ) (gs : List ℕ) → lags_zero (padded room 0 gs) ≡ lags_zero gs
unfolding lags_zero
padded-zero room gs = go gs (room - length gs)
  where
    go : (gs : List ℕ) (k : ℕ) → lags_zero (gs ++ replicate k 0) ≡ lags_zero gs
    go [] k = zeros_zero k
    go (g ∷ gs) k = rw (go gs k)

-- as the library's test of each
pub lags_zero-all : (gs : List ℕ) → list_all (λ g. eqb g 0) gs ≡ lags_zero gs
unfolding lags_zero
lags_zero-all [] = refl
lags_zero-all (g ∷ gs) = ap (◌&&◌ (eqb g 0)) (lags_zero-all gs)

-- the test of all entries is that of those that count
pub lags_zero-first : {room m : ℕ} {lags : List ℕ} → Padded room 0 m lags → lags_zero (take m lags) ≡ lags_zero lags
lags_zero-first {room} {m} {lags} φ = sym (ap lags_zero φ.same ∙ padded-zero room (take m lags))

-- a lag is put into the precedence of its place
pub lag-next : (os : List Precedence) (gs : List ℕ) (i : ℕ) → i < length os → i < length gs →
    let y = lagged (arc_of (get_or os i no_precedence)) (get_or gs i 0) in
    take i os ++ with_lags (map arc_of (drop i os)) (drop i gs)
    ≡ take (i + 1) (set os i y) ++ with_lags (map arc_of (drop (i + 1) (set os i y))) (drop (i + 1) gs)
unfolding with_lags
lag-next os gs i h k =
    rw (add-one, take-suc-set, drop-set-lt (suc i) os i _ (omega arith), drop-cons os i no_precedence h, drop-cons gs i 0 k, append_assoc)

-- orders with their lags are as many, are the orders, and have the lags
pub lagged-count : (l : List Arc) (gs : List ℕ) → length (with_lags l gs) ≡ length l
unfolding with_lags
lagged-count [] gs = refl
lagged-count (a ∷ l) [] = ap suc (lagged-count l [])
lagged-count (a ∷ l) (g ∷ gs) = ap suc (lagged-count l gs)

pub lagged_arcs : (l : List Arc) (gs : List ℕ) → map arc_of (with_lags l gs) ≡ l
unfolding with_lags
lagged_arcs [] gs = refl
lagged_arcs (a ∷ l) [] = ap (◌∷◌ a) (lagged_arcs l [])
lagged_arcs (a ∷ l) (g ∷ gs) = ap (◌∷◌ a) (lagged_arcs l gs)

pub lagged-lags : (l : List Arc) (gs : List ℕ) → length gs ≡ length l → map lag_of (with_lags l gs) ≡ gs
unfolding with_lags
lagged-lags [] [] e = refl
lagged-lags [] (g ∷ gs) e = absurd (omega arith)
lagged-lags (a ∷ l) [] e = absurd (omega arith)
lagged-lags (a ∷ l) (g ∷ gs) e = ap (◌∷◌ g) (lagged-lags l gs (omega arith))

-- a precedence is its order with its lag
pub lagged-back : (os : List Precedence) → with_lags (map arc_of os) (map lag_of os) ≡ os
unfolding with_lags
lagged-back [] = refl
lagged-back (o ∷ os) = ap (◌∷◌ o) (lagged-back os)

-- blanks have the lag 0
pub lagged-padded : (room : ℕ) (os : List Precedence) (gs : List ℕ) → length gs ≡ length os
    → with_lags (map arc_of (padded room no_precedence os)) (padded room 0 gs) ≡ padded room no_precedence (with_lags (map arc_of os) gs)
unfolding with_lags
lagged-padded room os gs e = rw (lagged-count, length-map, e) (go os gs e (room - length os))
  where
    go : (os : List Precedence) (gs : List ℕ) → length gs ≡ length os → (k : ℕ)
        → with_lags (map arc_of (os ++ replicate k no_precedence)) (gs ++ replicate k 0) ≡ with_lags (map arc_of os) gs ++ replicate k no_precedence
    go [] [] e zero = refl
    go [] [] e (suc k) = ap (◌∷◌ no_precedence) (go [] [] refl k)
    go [] (g ∷ gs) e k = absurd (omega arith)
    go (o ∷ os) [] e k = absurd (omega arith)
    go (o ∷ os) (g ∷ gs) e k = ap (◌∷◌ (lagged (arc_of o) g)) (go os gs (omega arith) k)

-- orders that were read as precedences without lags
unlagged_arcs : (l : List Arc) → map arc_of (map unlagged l) ≡ l
unlagged_arcs [] = refl
unlagged_arcs (a ∷ l) = ap (◌∷◌ a) (unlagged_arcs l)

pub arcs_read : (r : Read (List Arc)) {z : Read (List Precedence)} → read_as (map unlagged) r ≡ z → r ≡ read_as (map arc_of) z
arcs_read (got l at rest) h = rw (← h, unlagged_arcs)
arcs_read (refused e) h = rw (← h)
