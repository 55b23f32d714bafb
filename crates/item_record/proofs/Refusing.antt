-- An item's record is refused exactly for the table's conditions.
use Rattle.std.specs.Prelude.{◌↔◌, ◌≡◌, ◌<◌, Result, Ok, Err}
use Rattle.prelude.specs.Names.{Bool, true, false, cond, List, [], refl, sym, ap, subst, ℕ, ltb, ltb-true, ltb-false, lt-ltb, le-ltb}
use Rattle.refusal.specs.declared.Refusal.{Refusal}
use Rattle.refusal.specs.declared.Refusal.TheVariants.{BadItem}
use Rattle.refusal.specs.Numbers.{number_of, place_of}
use Rattle.refusal.proofs.Numbers.{same-refusal, number-not-zero}
use Rattle.formats.specs.Reading.{Read, got, refused}
use Rattle.instance.specs.declared.Instance.{Instance}
use Rattle.instance.specs.Sheets.{decode}
use Rattle.instance.specs.Reads.{Reads}
use Rattle.instance.proofs.Readings.{reads_as, decode_refuses}
use Rattle.item_record.specs.Record.{lookup, item_record, refusal_code, code_of, item_record_code}
use Rattle.item_record.specs.declared.RefusalCode.{RefusalCode}
use Rattle.item_record.specs.Refusing.{RecordFault, unread, missing}

-- how a lookup ends
abbrev pub Lookup : Type 0
Lookup = Result (Unit {0}) Refusal

-- number and place say how the lookup ended
same_code : (o p : Lookup) → code_of o ≡ code_of p → o ≡ p
same_code (Ok _) (Ok _) q = refl
same_code (Ok _) (Err f) q = absurd (number-not-zero f (ap (λ (c : RefusalCode). c.number) (sym q)))
same_code (Err e) (Ok _) q = absurd (number-not-zero e (ap (λ (c : RefusalCode). c.number) q))
same_code (Err e) (Err f) q =
    ap Err (same-refusal e f (ap (λ (c : RefusalCode). c.number) q) (ap (λ (c : RefusalCode). c.place) q))

module _ (sheet : List ℕ) (k : ℕ) where
  -- what holds where the lookup gives this
  abbrev pub Grounds : Lookup → Type 0
  Grounds (Ok _) = (r : Reads sheet) × (k < r.instance.item_count)
  Grounds (Err e) = RecordFault sheet k e

  pub grounds : Grounds (lookup (decode sheet) k)
  grounds = go (decode sheet) refl
    where
      on-sheet : (r : Reads sheet) (b : Bool) → ltb k r.instance.item_count ≡ b
          → Grounds (cond b (Ok tt) (Err (BadItem 0)))
      on-sheet r true l = (r, ltb-true _ _ l)
      on-sheet r false l = missing r (ltb-false _ _ l) refl

      go : (d : Read Instance) → decode sheet ≡ d → Grounds (lookup d k)
      go (got i at rest) h = on-sheet (reads_as sheet h) (ltb k i.item_count) refl
      go (refused e) h = unread ((decode_refuses sheet e).0 h)

  pub from_grounds : (o : Lookup) → Grounds o → lookup (decode sheet) k ≡ o
  from_grounds (Ok _) (r, l) = rw (r.reads, lt-ltb k r.instance.item_count l)
  from_grounds (Err e) (unread f) = rw ((decode_refuses sheet e).1 f)
  from_grounds (Err e) (missing r l q) = rw (r.reads, le-ltb k r.instance.item_count l, q)

  coded : (o : Lookup) → (item_record_code sheet k ≡ code_of o) ↔ Grounds o
  unfolding item_record_code
  coded o = (λ q. subst Grounds (same_code (lookup (decode sheet) k) o q) grounds, λ g. ap (λ (p : Lookup). code_of p) (from_grounds o g))

  -- "a second call gives number and place"
  pub record_refuses : (e : Refusal)
      → (item_record_code sheet k ≡ refusal_code (number_of e) (place_of e)) ↔ RecordFault sheet k e
  record_refuses e = coded (Err e)

  -- "it gives 0 and 0 where nothing is refused"
  pub record_serves : (item_record_code sheet k ≡ refusal_code 0 0) ↔ ((r : Reads sheet) × (k < r.instance.item_count))
  record_serves = coded (Ok tt)

  -- "When the record is refused, the part is empty"
  pub record_empty : (e : Refusal) → item_record_code sheet k ≡ refusal_code (number_of e) (place_of e)
      → item_record sheet k ≡ []
  unfolding item_record
  record_empty e h = rw (from_grounds (Err e) ((record_refuses e).0 h))
