-- Laws of words, plans and steps as bytes.
use Rattle.std.specs.Prelude.{◌∷◌, ◌++◌, ◌≡◌, ◌+◌, ◌*◌, ◌/◌, ◌%◌, ◌≤◌, ◌<◌}
use Rattle.prelude.specs.Names.{List, [], append-nil, append_assoc, drop-drop, map, refl, sym, ◌∙◌, ℕ, zero, suc, ℕ_discrete, dec_lt}
use Rattle.prelude.specs.Names.{arith, add-zero, add-one, length, get_or, set, replicate, length-append, length-set, drop_of_length-le, get_or-eq_default}
use Rattle.prelude.specs.Names.{sets, ext_get_or, get_or-set_same, get_or-set_other, get_or-append-add}
use lib.ListN.{get_or-append}
use lib.Seq.{sets-eq}
use borrow.Rule.Slice.PartMut.{put_mid}
use Rattle.formats.proofs.Stores.{sets-front, sets_append}
use Rattle.instance.proofs.Positions.{ten-at}
use Rattle.instance.specs.declared.Packing.{Packing}
use Rattle.instance.specs.declared.Position.{Position}
use Rattle.instance.specs.Values.{origin}
use Rattle.sheet.specs.Places.{word_at}
use Rattle.buffers.specs.Bytes.{piece_bytes, packing_bytes, plan_position, plan_mark, packing_in, step_bytes, steps_in}

-- a part of a list that is replaced as a whole
pub part_stored : (l part : List ℕ) (at k : ℕ) → length part ≡ k → at + k ≤ length l → put_mid at k l part ≡ sets l at part
part_stored l part at k e h =
    let r : at + length part ≤ length l = omega arith in
    rw (sets-eq part l at r, append_assoc, drop-drop, e)

-- a word and the steps come back from their bytes
pub word_back : (v : ℕ) → v % 256 + 256 * (v / 256) ≡ v
word_back v = omega arith

pub steps_back : (m : ℕ) → steps_in (step_bytes m) ≡ m
unfolding steps_in step_bytes
steps_back m = omega arith

-- bytes that fill the whole buffer
pub fills : (bs out : List ℕ) → length out ≡ length bs → sets out 0 bs ≡ bs
fills bs out h =
    let l : length out ≤ length bs = omega arith in
    sets-front bs out (omega arith) ∙ rw (drop_of_length-le out l) (append-nil bs)

-- pieces one after the other
pub packing-length : (n : ℕ) (q : Packing) → length (packing_bytes n q) ≡ 7 * n
unfolding packing_bytes
packing-length zero q = refl
packing-length (suc n) q = simp length-append (omega (arith, packing-length n q))

-- one piece more
pub pieces_next : (q : Packing) (l : List ℕ) (u : ℕ)
    → sets (sets l 0 (packing_bytes u q)) (7 * u) (piece_bytes (get_or q.positions u origin) (get_or q.marks u 0)) ≡ sets l 0 (packing_bytes (u + 1) q)
unfolding packing_bytes
pieces_next q l u =
    let e : 0 + length (packing_bytes u q) ≡ 7 * u = omega (arith, packing-length u q) in
    rw (add-one, ← e) (sets_append (packing_bytes u q) (piece_bytes (get_or q.positions u origin) (get_or q.marks u 0)) l 0)

pub packing_fills : (n : ℕ) (q : Packing) (out : List ℕ) → length out ≡ 7 * n → sets out 0 (packing_bytes n q) ≡ packing_bytes n q
packing_fills n q out l = fills (packing_bytes n q) out (l ∙ sym (packing-length n q))

-- what the bytes do not give is 0
byte_past : (s : List ℕ) (k : ℕ) → length s ≤ k → get_or s k 0 ≡ 0
byte_past s k h = get_or-eq_default s 0 h

pub position_past : (s : List ℕ) (u : ℕ) → length s ≤ 7 * u → plan_position s u ≡ origin
position_past s u h =
    let word : (k : ℕ) → length s ≤ k → word_at s k ≡ 0 = λ k l. rw (byte_past s k l, byte_past s (k + 1) (omega arith)) in
    (λ i. record { x = word (7 * u) h i; y = word (7 * u + 2) (omega arith) i; t = word (7 * u + 4) (omega arith) i })

-- of ten values the first u are read, with a blank past them
pub record ReadTo {A : Type 0} (blank : A) (value : ℕ → A) (xs : List A) (u : ℕ) : Type 0 where
  pub room : length xs ≡ 10
  pub read : (v : ℕ) → v < u → get_or xs v blank ≡ value v
  pub past : (v : ℕ) → u ≤ v → get_or xs v blank ≡ blank

module _ {A : Type 0} (blank : A) (value : ℕ → A) where
  pub read_none : ReadTo blank value (replicate 10 blank) 0
  read_none = record { room = refl; read = λ v h. absurd (omega arith); past = λ v h. blank_at 10 v }
    where
      blank_at : (n v : ℕ) → get_or (replicate n blank) v blank ≡ blank
      blank_at zero v = refl
      blank_at (suc n) zero = refl
      blank_at (suc n) (suc v) = blank_at n v

  pub read_next : {xs : List A} {u : ℕ} (x : A) → ReadTo blank value xs u → u < 10 → x ≡ value u → ReadTo blank value (set xs u x) (u + 1)
  read_next {xs} {u} x ρ h e = record {
    room = length-set xs u x ∙ ρ.room;
    read = λ v l. go v l (ℕ_discrete v u);
    past = λ v l. let d : v ≡ u → ⊥ = λ q. omega arith in get_or-set_other xs u v x blank d ∙ ρ.past v (omega arith);
  }
    where
      go : (v : ℕ) → v < u + 1 → Dec (v ≡ u) → get_or (set xs u x) v blank ≡ value v
      go v l (yes q) = rw q (get_or-set_same xs u x blank (omega (arith, ρ.room)) ∙ e)
      go v l (no d) = get_or-set_other xs u v x blank d ∙ ρ.read v (omega arith)

  ten_read : (xs : List A) (n : ℕ) → ReadTo blank value xs n → ((u : ℕ) → n ≤ u → value u ≡ blank)
      → xs ≡ map value (0 ∷ 1 ∷ 2 ∷ 3 ∷ 4 ∷ 5 ∷ 6 ∷ 7 ∷ 8 ∷ 9 ∷ [])
  ten_read xs n ρ none =
      ext_get_or blank xs _ ρ.room (λ u h. at u (dec_lt u n) ∙ sym (ten-at blank value u (omega (arith, ρ.room))))
    where
      at : (u : ℕ) → Dec (u < n) → get_or xs u blank ≡ value u
      at u (yes h) = ρ.read u h
      at u (no h) = ρ.past u (omega arith) ∙ sym (none u (omega arith))

pub read_all : (s : List ℕ) (ps : List Position) (ms : List ℕ) (n : ℕ) → ReadTo origin (plan_position s) ps n → ReadTo 0 (plan_mark s) ms n
    → length s ≡ 7 * n → record { positions = ps; marks = ms } ≡ packing_in s
unfolding packing_in
read_all s ps ms n ρ σ l =
    let p = ten_read origin (plan_position s) ps n ρ (λ u h. position_past s u (omega arith)) in
    let m = ten_read 0 (plan_mark s) ms n σ (λ u h. byte_past s (7 * u + 6) (omega arith)) in
    (λ i. record { positions = p i; marks = m i })

-- positions and marks come back from their bytes
module _ (q : Packing) (u : ℕ) where
  abbrev piece : List ℕ
  piece = piece_bytes (get_or q.positions u origin) (get_or q.marks u 0)

  byte-back : (n k : ℕ) → u < n → k < 7 → get_or (packing_bytes n q) (7 * u + k) 0 ≡ get_or piece k 0
  unfolding packing_bytes
  byte-back zero k h s = absurd (omega arith)
  byte-back (suc n) k h s = go (ℕ_discrete u n) (λ l. byte-back n k l s)
    where
      go : Dec (u ≡ n) → (u < n → get_or (packing_bytes n q) (7 * u + k) 0 ≡ get_or piece k 0)
          → get_or (packing_bytes n q ++ piece_bytes (get_or q.positions n origin) (get_or q.marks n 0)) (7 * u + k) 0 ≡ get_or piece k 0
      go (yes e) before =
          let at : 7 * u + k ≡ length (packing_bytes n q) + k = omega (arith, packing-length n q) in
          rw (at, ← e) (get_or-append-add (packing_bytes u q) piece k 0)
      go (no d) before =
          get_or-append (packing_bytes n q) (piece_bytes (get_or q.positions n origin) (get_or q.marks n 0)) 0 (7 * u + k)
          (omega (arith, packing-length n q)) ∙ before (omega arith)

  module _ (n : ℕ) (h : u < n) where
    word_of : (k : ℕ) → k < 6 → word_at (packing_bytes n q) (7 * u + k) ≡ word_at piece k
    word_of k l =
        let e : 7 * u + k + 1 ≡ 7 * u + (k + 1) = omega arith in
        rw (e, byte-back n k h (omega arith), byte-back n (k + 1) h (omega arith))

    position_back : plan_position (packing_bytes n q) u ≡ get_or q.positions u origin
    position_back =
        let p = get_or q.positions u origin in
        let x : word_at (packing_bytes n q) (7 * u) ≡ p.x = rw add-zero at (word_of 0 (omega arith)) ∙ word_back p.x in
        let y = word_of 2 (omega arith) ∙ word_back p.y in
        let t = word_of 4 (omega arith) ∙ word_back p.t in
        (λ i. record { x = x i; y = y i; t = t i })

    pub positions-back : n ≤ 10 → get_or (packing_in (packing_bytes n q)).positions u origin ≡ get_or q.positions u origin
    unfolding packing_in
    positions-back few = ten-at origin (plan_position (packing_bytes n q)) u (omega arith) ∙ position_back

    pub marks-back : n ≤ 10 → get_or (packing_in (packing_bytes n q)).marks u 0 ≡ get_or q.marks u 0
    unfolding packing_in
    marks-back few = ten-at 0 (plan_mark (packing_bytes n q)) u (omega arith) ∙ byte-back n 6 h (omega arith)
