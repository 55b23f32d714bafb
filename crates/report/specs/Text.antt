-- What the program prints, in ASCII (document 01, "The program").
use Rattle.std.specs.Prelude.{◌∷◌, ◌++◌}
use Rattle.prelude.specs.Names.{List, [], ℕ, zero, suc, length, drop, get_or}
use Rattle.refusal.specs.declared.Refusal.{Refusal}
use Rattle.refusal.specs.Numbers.{number_of, place_of}
use Rattle.instance.specs.declared.Packing.{Packing}
use Rattle.instance.specs.declared.Position.{Position}
use Rattle.instance.specs.Values.{origin}
use Rattle.report.specs.Decimal.{decimal}

-- no text is longer: an answer with its steps and ten lines of at most 24 characters
abbrev pub max_text : ℕ
max_text = 258

-- a buffer with a text at its front, and the rest as it was
abbrev pub with_front : List ℕ → List ℕ → List ℕ
with_front text out = text ++ drop (length text) out

-- a field after "one space"
abbrev pub text_field : ℕ → List ℕ
text_field n = 0x20 ∷ decimal n

-- more fields, and the end of the line
abbrev pub text_fields : List ℕ → List ℕ
text_fields [] = 0x0a ∷ []
text_fields (n ∷ ns) = text_field n ++ text_fields ns

-- "fields separated by one space": the first one as it is, and numbers
unfoldable pub line : List ℕ → List ℕ → List ℕ
line first ns = first ++ text_fields ns

-- the words `placed`, `none`, `spent`, `refused`
abbrev pub placed_word : List ℕ
placed_word = 0x70 ∷ 0x6c ∷ 0x61 ∷ 0x63 ∷ 0x65 ∷ 0x64 ∷ []

abbrev pub none_word : List ℕ
none_word = 0x6e ∷ 0x6f ∷ 0x6e ∷ 0x65 ∷ []

abbrev pub spent_word : List ℕ
spent_word = 0x73 ∷ 0x70 ∷ 0x65 ∷ 0x6e ∷ 0x74 ∷ []

abbrev pub refused_word : List ℕ
refused_word = 0x72 ∷ 0x65 ∷ 0x66 ∷ 0x75 ∷ 0x73 ∷ 0x65 ∷ 0x64 ∷ []

-- "one line a piece: number, x, y, t", and the mark "printed as a fifth column, 0 or 1"
unfoldable pub item_line : ℕ → Position → ℕ → List ℕ
item_line u p mark = line (decimal u) (p.x ∷ p.y ∷ p.t ∷ mark ∷ [])

-- the lines of the first n items
unfoldable pub item_lines : Packing → ℕ → List ℕ
item_lines q zero = []
item_lines q (suc u) = item_lines q u ++ item_line u (get_or q.positions u origin) (get_or q.marks u 0)

-- "the answer word and steps"
abbrev pub answer_line : List ℕ → ℕ → List ℕ
answer_line word steps = line word (steps ∷ [])

-- ", then for placed one line a piece"
abbrev pub packed_text : ℕ → Packing → ℕ → List ℕ
packed_text steps q n = answer_line placed_word steps ++ item_lines q n

abbrev pub infeasible_text : ℕ → List ℕ
infeasible_text steps = answer_line none_word steps

abbrev pub spent_text : ℕ → List ℕ
spent_text steps = answer_line spent_word steps

-- "A refused sheet prints `refused`, number, place"
abbrev pub refused_text : Refusal → List ℕ
refused_text e = line refused_word (number_of e ∷ place_of e ∷ [])
