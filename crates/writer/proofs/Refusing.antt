-- Writing a sheet is refused exactly for the table's conditions; what it leaves in the room, and that reading undoes it.
use Rattle.std.specs.Prelude.{◌++◌, ◌↔◌, ◌⊎◌, ◌≡◌, ◌≤◌, ◌<◌}
use Rattle.prelude.specs.Names.{Bool, true, false, List, inl, inr, refl, subst, ℕ, dec_lt, arith, length, take, drop}
use Rattle.prelude.specs.Names.{take-append_seam, lt-ltb, le-ltb, lt-leb, le-leb}
use Rattle.formats.specs.Reading.{Bytes}
use Rattle.instance.specs.declared.Instance.{Instance}
use Rattle.instance.specs.Valid.{valid}
use Rattle.instance.specs.Sheets.{decode, encode}
use Rattle.instance.specs.Answers.{read_result, read_values}
use Rattle.writer.specs.Answers.{write_answer, write_values, written_room}
use Rattle.instance.specs.Reads.{Full, SameInstance}
use Rattle.writer.specs.Refusing.{WriteFault}
use Rattle.instance.proofs.RoundTrips.{read_valid, decode_encodes, blanked, encode_decodes, same_blanked}
use Rattle.instance.proofs.Readings.{read_reads}

module _ (i : Instance) (room : ℕ) where
  -- what holds where these values are given
  abbrev Grounds : ℕ ⊎ (ℕ × ℕ) → Type 0
  Grounds (inl n) = (valid i ≡ true) × (length (encode i) ≤ room) × (n ≡ length (encode i))
  Grounds (inr (n, place)) = WriteFault i room n × (place ≡ 0)

  grounds : (b : Bool) → valid i ≡ b → Dec (room < length (encode i)) → Grounds (write_values (write_answer i room))
  unfolding write_answer
  grounds false v l = rw v (WriteFault.nine v refl, refl)
  grounds true v (yes l) = rw (v, lt-ltb room (length (encode i)) l) (WriteFault.eight v l refl, refl)
  grounds true v (no l) = rw (v, le-ltb room (length (encode i)) (omega arith)) (v, omega arith, refl)

  from_grounds : (a : ℕ ⊎ (ℕ × ℕ)) → Grounds a → write_values (write_answer i room) ≡ a
  unfolding write_answer
  from_grounds (inl n) (v, l, k) = rw (v, le-ltb room (length (encode i)) l, k)
  from_grounds (inr (n, place)) (WriteFault.nine v k, z) = rw (v, k, z)
  from_grounds (inr (n, place)) (WriteFault.eight v l k, z) = rw (v, lt-ltb room (length (encode i)) l, k, z)

  exactly : (a : ℕ ⊎ (ℕ × ℕ)) → (write_values (write_answer i room) ≡ a) ↔ Grounds a
  exactly a = ((λ k. subst Grounds k (grounds (valid i) refl (dec_lt room (length (encode i))))), from_grounds a)

  -- 9, then 8, each with place 0
  pub write_refuses : (n place : ℕ) → (write_values (write_answer i room) ≡ inr (n, place)) ↔ (WriteFault i room n × (place ≡ 0))
  write_refuses n place = exactly (inr (n, place))

  -- "Writing returns the sheet's length"
  pub write_writes : (n : ℕ) → (write_values (write_answer i room) ≡ inl n)
      ↔ ((valid i ≡ true) × (length (encode i) ≤ room) × (n ≡ length (encode i)))
  write_writes n = exactly (inl n)

-- "Every refusal leaves lent buffers untouched"
pub room_untouched : (i : Instance) (room : List ℕ) (n place : ℕ)
    → write_values (write_answer i (length room)) ≡ inr (n, place) → written_room i room ≡ room
unfolding written_room
room_untouched i room n place k = go ((write_refuses i (length room) n place).0 k).0
  where
    go : WriteFault i (length room) n → written_room i room ≡ room
    go (WriteFault.nine v k) = rw v
    go (WriteFault.eight v l k) = rw (v, lt-leb (length (encode i)) (length room) l)

room-filled : (i : Instance) (room : List ℕ) → valid i ≡ true → length (encode i) ≤ length room
    → written_room i room ≡ encode i ++ drop (length (encode i)) room
unfolding written_room
room-filled i room v l = rw (v, le-leb (length (encode i)) (length room) l)

-- "A written sheet reads back as the same sheet"
pub written_read_back : (i : Instance) → Full i → (room : List ℕ) (n : ℕ)
    → write_values (write_answer i (length room)) ≡ inl n
    → (j : Instance)
    × (read_values (read_result (decode (take n (written_room i room)))) ≡ inl j)
    × SameInstance i j
written_read_back i full room n e =
    let (v, l, m) = (write_writes i (length room) n).0 e in
    let back = encode_decodes i v full in
    (blanked i, rw (m, room-filled i room v l, take-append_seam, back), same_blanked i v full)

-- "bytes that read as a sheet are written again as those bytes"; the room past them stays
pub read_written_again : (s : List ℕ) → Bytes s → (i : Instance)
    → read_values (read_result (decode s)) ≡ inl i
    → (room : List ℕ) → length s ≤ length room
    → (write_values (write_answer i (length room)) ≡ inl (length s))
    × (written_room i room ≡ s ++ drop (length s) room)
read_written_again s bytes i e room l =
    let h = read_reads s i e in
    let v = read_valid s h bytes in
    let same = decode_encodes s h bytes in
    let k : length (encode i) ≤ length room = rw same l in
    rw (← same) ((write_writes i (length room) _).1 (v, k, refl), room-filled i room v k)
