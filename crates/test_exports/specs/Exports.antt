-- The answers in numbers, 0 in place of what an answer does not hold.
use Rattle.std.specs.Prelude.{◌⊎◌, Result, Ok, Err}
use Rattle.prelude.specs.Names.{cond, List, inl, inr, ℕ, ltb, length, get_or, ℤ, pos}
use Rattle.refusal.specs.declared.Refusal.{Refusal}
use Rattle.refusal.specs.Numbers.{number_of, place_of}
use Rattle.instance.specs.declared.Instance.{Instance}
use Rattle.instance.specs.Answers.{read_result, read_values}
use Rattle.instance.specs.Sheets.{decode}
use Rattle.writer.specs.Answers.{write_answer, write_values, written_room}
use Rattle.packing.specs.Clearance.{clearance_answer, clearance_values}
use Rattle.test_values.specs.Values.{instance_in, packing_at}

-- what an answer holds, or number and place of a refusal: of reading, writing and the clearance, the values that the paper gives them
abbrev pub values_of : {A : Type 0} → Result A Refusal → A ⊎ (ℕ × ℕ)
values_of (Ok x) = inl x
values_of (Err e) = inr (number_of e, place_of e)

-- number and place of a refusal
abbrev pub number_in : {A : Type 0} → A ⊎ (ℕ × ℕ) → ℕ
number_in (inl value) = 0
number_in (inr (number, place)) = number

abbrev pub place_in : {A : Type 0} → A ⊎ (ℕ × ℕ) → ℕ
place_in (inl value) = 0
place_in (inr (number, place)) = place

-- what writing, and the clearance, answers where it is not refused
abbrev pub length_in : ℕ ⊎ (ℕ × ℕ) → ℕ
length_in (inl length) = length
length_in (inr refusal) = 0

abbrev pub clearance_in : ℤ ⊎ (ℕ × ℕ) → ℤ
clearance_in (inl z) = z
clearance_in (inr refusal) = pos 0

-- the values of reading a sheet
abbrev pub sheet_values : List ℕ → Instance ⊎ (ℕ × ℕ)
sheet_values s = read_values (read_result (decode s))

-- what reading and writing again returns and leaves in the room
abbrev pub rewrite_length : Instance ⊎ (ℕ × ℕ) → ℕ → ℕ
rewrite_length (inl i) room = length_in (write_values (write_answer i room))
rewrite_length (inr refusal) room = 0

abbrev pub rewrite_room : Instance ⊎ (ℕ × ℕ) → List ℕ → List ℕ
rewrite_room (inl i) room = written_room i room
rewrite_room (inr refusal) room = room

-- the values of writing a value's bytes, and of the clearance in one
abbrev pub written_values : List ℕ → ℕ → ℕ ⊎ (ℕ × ℕ)
written_values value room = write_values (write_answer (instance_in value) room)

abbrev pub cleared_values : List ℕ → List ℕ → ℕ → ℕ → ℕ → ℤ ⊎ (ℕ × ℕ)
cleared_values value plan u v a = clearance_values (clearance_answer (instance_in value) (packing_at plan 0) u v a)

-- byte i, 256 past the end
unfoldable pub record_byte : List ℕ → ℕ → ℕ
record_byte s i = cond (ltb i (length s)) (get_or s i 0) 256
