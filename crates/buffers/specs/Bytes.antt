-- Plans and steps as bytes (document 01, "Refusals": "The planning screen, written in C, ..").
use Rattle.std.specs.Prelude.{◌∷◌, ◌++◌, ◌+◌, ◌*◌, ◌/◌, ◌%◌}
use Rattle.prelude.specs.Names.{List, [], map, ℕ, zero, suc, get_or}
use Rattle.sheet.specs.Places.{word_at}
use Rattle.instance.specs.declared.Packing.{Packing}
use Rattle.instance.specs.declared.Position.{Position}
use Rattle.instance.specs.Values.{origin}
use Rattle.buffers.specs.Lengths.{piece_length}

-- "2 bytes each", "low byte first"
abbrev pub word_bytes : ℕ → List ℕ
word_bytes v = v % 256 ∷ v / 256 ∷ []

-- "Its plan bytes are x, y, t for each piece", and its mark, "a seventh byte on the screen" (document 02, #106)
abbrev pub piece_bytes : Position → ℕ → List ℕ
piece_bytes p mark = word_bytes p.x ++ (word_bytes p.y ++ (word_bytes p.t ++ mark ∷ []))

-- those of the first n pieces
unfoldable pub packing_bytes : ℕ → Packing → List ℕ
packing_bytes zero q = []
packing_bytes (suc n) q = packing_bytes n q ++ piece_bytes (get_or q.positions n origin) (get_or q.marks n 0)

-- the packing that plan bytes give; what they do not give is 0
abbrev pub plan_position : List ℕ → ℕ → Position
plan_position s u = record { x = word_at s (piece_length * u); y = word_at s (piece_length * u + 2); t = word_at s (piece_length * u + 4) }

abbrev pub plan_mark : List ℕ → ℕ → ℕ
plan_mark s u = get_or s (piece_length * u + 6) 0

unfoldable pub packing_in : List ℕ → Packing
packing_in s = record {
  positions = map (plan_position s) (0 ∷ 1 ∷ 2 ∷ 3 ∷ 4 ∷ 5 ∷ 6 ∷ 7 ∷ 8 ∷ 9 ∷ []);
  marks = map (plan_mark s) (0 ∷ 1 ∷ 2 ∷ 3 ∷ 4 ∷ 5 ∷ 6 ∷ 7 ∷ 8 ∷ 9 ∷ []);
}

-- "4 bytes of steps, low byte first"
unfoldable pub step_bytes : ℕ → List ℕ
step_bytes m = m % 256 ∷ m / 256 % 256 ∷ m / 65536 % 256 ∷ m / 16777216 ∷ []

-- the steps that four bytes say
unfoldable pub steps_in : List ℕ → ℕ
steps_in s = get_or s 0 0 + 256 * get_or s 1 0 + 65536 * get_or s 2 0 + 16777216 * get_or s 3 0
