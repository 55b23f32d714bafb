-- A row of parts that is being written: the loops of the two writers of a counted row.
use Rattle.std.specs.Prelude.{◌∷◌, ◌++◌, ◌≡◌, ◌+◌, ◌*◌, ◌≤◌, ◌<◌}
use Rattle.prelude.specs.Names.{List, [], map, refl, sym, ◌∙◌, ℕ, add-zero, arith, length, get_or, take, length-append, sets}
use Rattle.prelude.specs.Names.{take_all}
use Rattle.std.specs.List.{sum_by}
use Rattle.std.proofs.lemmas.List.Sums.{sum_by-cons}
use lib.ListN.{length-map}
use Rattle.formats.specs.Formats.{row_bytes}
use Rattle.formats.proofs.Stores.{row-none, row_next, row_room, sets_append}
use Rattle.parts.specs.declared.Precedence.{Precedence}
use Rattle.parts.specs.Precedences.{arc_of}
use Rattle.parts.specs.declared.Item.{Item}
use Rattle.parts.specs.Parts.{count_bytes, item, precedence}
use Rattle.parts.proofs.Laws.{item-most}
use Rattle.parts.proofs.Writers.{byte_number-count, bit-most, precedence-bytes, precedences-length}

-- of the parts, which have room from place k₀ on, i are stored; the next one's place is k
pub record Row {A : Type 0} (bytes : A → List ℕ) (xs : List A) (out₀ : List ℕ) (k₀ i : ℕ) (out : List ℕ) (k : ℕ) : Type 0 where
  pub room : k₀ + length (row_bytes bytes xs) ≤ length out₀
  pub within : i ≤ length xs
  pub place : k ≡ k₀ + length (row_bytes bytes (take i xs))
  pub stored : out ≡ sets out₀ k₀ (row_bytes bytes (take i xs))
  pub same : length out ≡ length out₀

pub row-start : {A : Type 0} (bytes : A → List ℕ) (xs : List A) (out : List ℕ) (k : ℕ)
    → k + length (row_bytes bytes xs) ≤ length out → Row bytes xs out k 0 out k
row-start bytes xs out k r = record {
  room = r;
  within = omega arith;
  same = refl;
  place = rw (row-none bytes) (sym (add-zero k));
  stored = rw (row-none bytes);
}

module _ {A : Type 0} {bytes : A → List ℕ} {xs : List A} {out₀ : List ℕ} {k₀ i : ℕ} {out : List ℕ} {k : ℕ}
    (row : Row bytes xs out₀ k₀ i out k) where
  -- the next part has room
  pub row_fits : (d : A) → i < length xs → k + length (bytes (get_or xs i d)) ≤ length out
  row_fits d l =
      let all : take (length xs) xs ≡ xs = take_all _ _ (omega arith) in
      let r = row_room bytes xs i (length xs) d l (omega arith) in
      omega (arith, rw all at r)

  pub row_more : (d : A) → i < length xs → {k' : ℕ} → k' ≡ k + length (bytes (get_or xs i d)) → {out' : List ℕ} → out' ≡ sets out k (bytes (get_or xs i d))
      → length out' ≡ length out → Row bytes xs out₀ k₀ (i + 1) out' k'
  row_more d l p s m =
      let next = row_next bytes xs i d (omega arith) in
      record {
        room = row.room;
        within = omega arith;
        same = omega arith;
        place = rw (next, length-append) (omega arith);
        stored = rw (next, s, row.place, row.stored, sets_append);
      }

  -- all parts are stored after their count
  pub row_written : length xs ≤ i → (front : List ℕ) (at n : ℕ) → k₀ ≡ at + length (count_bytes n) → out₀ ≡ sets front at (count_bytes n)
      → (k ≡ at + length (count_bytes n ++ row_bytes bytes xs)) × (out ≡ sets front at (count_bytes n ++ row_bytes bytes xs))
  row_written l front at n p s = let all : take i xs ≡ xs = take_all _ _ l in
      (rw length-append (omega (arith, rw all at row.place)), rw all at row.stored ∙ rw (s, p, sets_append))

-- parts that are held in another form
pub row-held : {A B : Type 0} (bytes : B → List ℕ) (part : A → B) (xs : List A) → row_bytes (λ x. bytes (part x)) xs ≡ row_bytes bytes (map part xs)
unfolding row_bytes
row-held bytes part [] = refl
row-held bytes part (x ∷ xs) = rw (row-held bytes part xs)

-- an order has two bytes
pub precedences-many : (xs : List Precedence) → length (row_bytes precedence.bytes (map arc_of xs)) ≡ 2 * length xs
precedences-many xs = precedences-length (map arc_of xs) ∙ rw length-map

-- an item's record has at most seven bytes
pub items-bytes : (xs : List Item) → (sum_by (λ i. length (item.bytes i)) xs ≡ length (row_bytes item.bytes xs)) × (length (row_bytes item.bytes xs) ≤ 7 * length xs)
unfolding row_bytes
items-bytes [] = (refl, omega arith)
items-bytes (x ∷ xs) =
    let (s, m) = items-bytes xs in
    (rw (sum_by-cons, s, length-append), rw length-append (omega (arith, item-most x)))

-- what the proofs of counted rows cite
pub ruleset rows = (
  byte_number-count,
  bit-most,
  length-append,
  precedences-many,
  items-bytes,
  precedence-bytes,
  row_fits,
  row-start,
  row_more,
)
