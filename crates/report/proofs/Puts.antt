-- Laws of a text that is put at the front of a buffer, part after part, and of its length.
use Rattle.std.specs.Prelude.{◌≡◌, ◌∷◌, ◌++◌, ◌+◌, ◌-◌, ◌*◌, ◌^◌, ◌≤◌, ◌<◌}
use Rattle.prelude.specs.Names.{refl, ◌∙◌, List, [], append_assoc, append-nil, ℕ, suc, arith, add-one, zero-add, length, take, drop, set, get_or}
use Rattle.prelude.specs.Names.{length-append, length-take, length-drop, drop_of_length-le, drop-drop, take_all, take_at}
use lib.Seq.{drop-append_seam}
use borrow.Rule.Slice.PartMut.{put_mid}
use Rattle.formats.specs.Formats.{row_bytes}
use Rattle.formats.proofs.Stores.{row_room, sets_append, sets-front}
use Rattle.instance.specs.declared.Packing.{Packing}
use Rattle.instance.specs.Values.{origin}
use Rattle.report.proofs.Decimals.{decimal_short}
use Rattle.report.specs.Text.{with_front, text_field, text_fields, line, item_line, item_lines}

-- a buffer without its first bytes
abbrev pub rest_of : List ℕ → ℕ → List ℕ
rest_of out at = take (length out - at) (drop at out)

pub rest-room : (out : List ℕ) (at n : ℕ) → at + n ≤ length out → n ≤ length (rest_of out at)
rest-room out at n h = simp (length-take, length-drop) (omega arith)

-- one text after another is a text
pub fronts_joined : (a b l : List ℕ) {out part : List ℕ} {at : ℕ} → at ≡ length a → length a + length b ≤ length l → out ≡ with_front a l
    → part ≡ with_front b (rest_of out at) → put_mid at (length out - at) out part ≡ with_front (a ++ b) l
fronts_joined a b l {out} {part} {at} e h o p =
    let same : length out ≡ length l = rw o (simp (length-append, length-drop) (omega arith)) in
    let first : take at out ≡ a = rw (o, e) (take_at a (drop (length a) l) _ refl) in
    let rest : drop at out ≡ drop at l = rw (o, e) (drop-append_seam a (drop (length a) l)) in
    let all : take (length out - at) (drop at l) ≡ drop at l = take_all _ (drop at l) (simp length-drop (omega arith)) in
    let none : drop (length out - at) (drop at l) ≡ [] = drop_of_length-le (drop at l) (simp length-drop (omega arith)) in
    rw (p, first, rest, all, none, append-nil, drop-drop, length-append, e, append_assoc)

-- and so is a byte after a text
pub byte_after : (a l : List ℕ) (b : ℕ) → length a < length l → set (with_front a l) (length a) b ≡ with_front (a ++ b ∷ []) l
byte_after a l b h =
    rw (← (sets-front a l (omega arith))) (rw zero-add at (sets_append a (b ∷ []) l 0))
    ∙ sets-front (a ++ b ∷ []) l (rw length-append (omega arith))

-- the fields, and the end of the line
pub fields_ended : (ns : List ℕ) → text_fields ns ≡ row_bytes text_field ns ++ 0x0a ∷ []
unfolding row_bytes
fields_ended [] = refl
fields_ended (n ∷ ns) = rw (fields_ended ns) (rw append_assoc)

pub fields-length : (ns : List ℕ) → length (text_fields ns) ≡ length (row_bytes text_field ns) + 1
fields-length ns = rw (fields_ended ns, length-append)

-- the next field has room where all have, and the end of the line too
pub field_room : (ns : List ℕ) (i : ℕ) → i < length ns
    → length (row_bytes text_field (take i ns)) + length (text_field (get_or ns i 0)) < length (text_fields ns)
field_room ns i h =
    let whole : take (length ns) ns ≡ ns = take_all (length ns) ns (omega arith) in
    omega (arith, fields-length ns, rw whole at (row_room text_field ns i (length ns) 0 h (omega arith)))

-- a line: its first part, and then the fields
pub line-put : (first ns l : List ℕ) {out part : List ℕ} {at end : ℕ} → at ≡ length first → end ≡ length (text_fields ns) → at + end ≤ length l
    → out ≡ with_front first l → part ≡ with_front (text_fields ns) (rest_of out at)
    → (at + end ≡ length (line first ns)) × (put_mid at (length out - at) out part ≡ with_front (line first ns) l)
unfolding line
line-put first ns l e f h o p = (rw length-append (omega arith), fronts_joined first (text_fields ns) l e (omega arith) o p)

-- numbers of at most k + 1 digits take at most k + 2 bytes each, and the line's end 1
abbrev pub Small : ℕ → List ℕ → Type 0
Small k [] = Unit
Small k (n ∷ ns) = (n < 10 ^ suc k) × Small k ns

pub fields_short : (k : ℕ) (ns : List ℕ) → Small k ns → length (text_fields ns) ≤ (2 + k) * length ns + 1
fields_short k [] h = omega arith
fields_short k (n ∷ ns) h = rw length-append (omega (arith, decimal_short k n h.0, fields_short k ns h.1))

-- three numbers of at most 5 digits and a byte
pub item_short : (x y t mark : ℕ) → x < 65536 → y < 65536 → t < 65536 → mark < 256 → length (text_fields (x ∷ y ∷ t ∷ mark ∷ [])) ≤ 23
item_short x y t mark hx hy ht hm = simp length-append (omega (
  arith,
  decimal_short 4 x (omega arith),
  decimal_short 4 y (omega arith),
  decimal_short 4 t (omega arith),
  decimal_short 2 mark (omega arith),
))

module _ (q : Packing) where
  pub items-none : item_lines q 0 ≡ []
  unfolding item_lines
  items-none = refl

  pub items-next : (u : ℕ) → item_lines q (u + 1) ≡ item_lines q u ++ item_line u (get_or q.positions u origin) (get_or q.marks u 0)
  unfolding item_lines
  items-next u = rw add-one
