-- The record that is handed out for an item is the bytes that the item was read from.
use Rattle.std.specs.Prelude.{Ok, ◌≡◌, ◌+◌, ◌-◌, ◌≤◌, ◌<◌}
use Rattle.prelude.specs.Names.{List, ap, subst, ℕ, zero, suc, arith, length, get_or, take, drop, length-append, length-drop}
use Rattle.prelude.specs.Names.{take_at, get_or-drop}
use lib.ListN.{get_or-append}
use Rattle.formats.specs.Reading.{Bytes, got, run}
use Rattle.parts.specs.declared.Item.{Item}
use Rattle.parts.specs.Parts.{item}
use Rattle.parts.specs.Sizes.{no_item}
use Rattle.parts.proofs.Laws.{item_lawful}
use Rattle.sheet.specs.Places.{after_item, item_place}
use Rattle.sheet.proofs.Faults.{item_read_there}
use Rattle.instance.specs.Sheets.{instance_of, decode}
use Rattle.instance.specs.Reads.{Reads}
use Rattle.instance.proofs.RoundTrips.{read_sheet}
use Rattle.item_record.specs.Record.{lookup, item_record}
use Rattle.item_record.proofs.Refusing.{Grounds, grounds, from_grounds}

-- a record is not at the start of the sheet, and the next one is after it
pub place-positive : (s : List ℕ) (k : ℕ) → 0 < item_place s k
unfolding item_place after_item
place-positive s zero = omega arith
place-positive s (suc k) = omega arith

pub next_after : (s : List ℕ) (k : ℕ) → item_place s k < item_place s (suc k)
unfolding item_place after_item
next_after s k = omega arith

-- the part that an item is read from is the item's bytes
part_read : (s : List ℕ) → Bytes s → {a e : ℕ} → a ≤ e → e ≤ length s → {x : Item}
    → run item.reading a (drop a s) ≡ got x e (drop e s) → take (e - a) (drop a s) ≡ item.bytes x
part_read s b {a} {e} l m {x} h =
    let same = (item_lawful.read_written a (drop a s) (λ i. rw get_or-drop (b (a + i))) h).same in
    let n : length (item.bytes x) ≡ e - a = omega (arith, simp (length-append, length-drop) at (ap length same)) in
    rw same (take_at (item.bytes x) (drop e s) (e - a) n)

module _ (sheet : List ℕ) (r : Reads sheet) (k : ℕ) (l : k < r.instance.item_count) where
  -- item k was read at its place, and its record is within the sheet
  pub read_there : (item_place sheet (suc k) ≤ length sheet)
      × (run item.reading (item_place sheet k) (drop (item_place sheet k) sheet)
      ≡ got (get_or r.instance.items k no_item) (item_place sheet (suc k)) (drop (item_place sheet (suc k)) sheet))
  unfolding instance_of
  read_there =
      let (x, h, q) = read_sheet sheet r.reads in
      let (n, each) = item_read_there sheet h in
      let m : k < length x.items = rw (← q) at l in
      let (inside, there) = each k (omega arith) in
      (inside, rw (← q, get_or-append) there)

-- an item that is found has its record within the sheet
pub found_there : (sheet : List ℕ) (k : ℕ) → lookup (decode sheet) k ≡ Ok tt → item_place sheet (suc k) ≤ length sheet
found_there sheet k q = let (r, l) = subst (Grounds sheet k) q (grounds sheet k) in (read_there sheet r k l).0

-- "handed out as that part of the lent sheet itself": the bytes that item k was read from
pub record_is_read : (sheet : List ℕ) → Bytes sheet → (r : Reads sheet) (k : ℕ) → k < r.instance.item_count
    → let i = get_or r.instance.items k no_item in
    (run item.reading (item_place sheet k) (drop (item_place sheet k) sheet)
    ≡ got i (item_place sheet (suc k)) (drop (item_place sheet (suc k)) sheet))
    × (item_record sheet k ≡ item.bytes i)
unfolding item_record
record_is_read sheet b r k l =
    let (inside, there) = read_there sheet r k l in
    let after = next_after sheet k in
    (there, rw (from_grounds sheet k (Ok tt) (r, l)) (part_read sheet b (omega arith) inside there))
