-- The byte examples of documents 01 and 02, and more for the limits and the order of the fields.
use Rattle.std.specs.Prelude.{◌≡◌, ◌∷◌}
use Rattle.prelude.specs.Names.{true, false, List, [], ℕ, length}
use Rattle.refusal.specs.declared.Refusal.TheVariants.{EndsEarly, UnknownBit, WrittenDefault, BadCount, BadItem, NotRising, TrailingBytes, NoLag}
use Rattle.refusal.specs.declared.Refusal.TheVariants.{TooLarge}
use Rattle.formats.specs.Reading.{Read, got, refused, run}
use Rattle.formats.specs.Formats.{whole}
use Rattle.parts.specs.declared.Size.{Size}
use Rattle.parts.specs.declared.Item.{Item}
use Rattle.parts.specs.Precedences.{Arc}
use Rattle.sheet.specs.Sheet.{Sheet, sheet}
use Rattle.sheet.specs.Computing.{sheet_computing}

abbrev read : List ℕ → Read Sheet
read s = run (whole sheet) 0 s

-- the bytes are read as the sheet, and it is written as them
abbrev Means : List ℕ → Sheet → Type 0
Means s x = (read s ≡ got x (length s) []) × (sheet.bytes x ≡ s)

abbrev size_of : ℕ → ℕ → ℕ → Size
size_of width depth shifts = record { width = width; depth = depth; shifts = shifts }

abbrev item_of : ℕ → ℕ → ℕ → Item
item_of width depth shifts = record { size = size_of width depth shifts; may_turn = false }

abbrev turnable : ℕ → ℕ → ℕ → Item
turnable width depth shifts = record { size = size_of width depth shifts; may_turn = true }

abbrev before : ℕ → ℕ → Arc
before u v = record { predecessor = u; successor = v }

abbrev sheet_of : Size → List Item → List Arc → ℕ → List ℕ → ℕ → Sheet
sheet_of container items precedences yard_number lags walkway =
    record { container = container; items = items; precedences = precedences; yard_number = yard_number; lags = lags; walkway = walkway }

readings :
    -- the hall 2×1×2 with the pieces 2×1×1 and 1×1×1 and the order 1,0
    Means (0x1D ∷ 2 ∷ 0 ∷ 2 ∷ 0 ∷ 2 ∷ 1 ∷ 2 ∷ 0 ∷ 0 ∷ 1 ∷ 1 ∷ 0 ∷ [])
    (sheet_of (size_of 2 1 2) (item_of 2 1 1 ∷ item_of 1 1 1 ∷ []) (before 1 0 ∷ []) 0 (0 ∷ []) 0)
    -- the same with a lag of 5
    × Means (0x5D ∷ 2 ∷ 0 ∷ 2 ∷ 0 ∷ 2 ∷ 1 ∷ 2 ∷ 0 ∷ 0 ∷ 1 ∷ 1 ∷ 0 ∷ 5 ∷ [])
    (sheet_of (size_of 2 1 2) (item_of 2 1 1 ∷ item_of 1 1 1 ∷ []) (before 1 0 ∷ []) 0 (5 ∷ []) 0)
    -- all left out
    × Means (0 ∷ []) (sheet_of (size_of 1 1 1) [] [] 0 [] 0)
    -- the hall's measures alone; the yard number alone
    × Means (0x07 ∷ 2 ∷ 0 ∷ 3 ∷ 0 ∷ 4 ∷ 0 ∷ []) (sheet_of (size_of 2 3 4) [] [] 0 [] 0)
    × Means (0x20 ∷ 1 ∷ 0 ∷ []) (sheet_of (size_of 1 1 1) [] [] 1 [] 0)
    -- the greatest measure; the yard number 65,535
    × Means (0x0C ∷ 255 ∷ 15 ∷ 1 ∷ 0x01 ∷ 255 ∷ 15 ∷ []) (sheet_of (size_of 1 1 4095) (item_of 4095 1 1 ∷ []) [] 0 [] 0)
    × Means (0x20 ∷ 255 ∷ 255 ∷ []) (sheet_of (size_of 1 1 1) [] [] 65535 [] 0)
    -- the least walkway and the widest; a lag, and a walkway after it
    × Means (0x80 ∷ 1 ∷ []) (sheet_of (size_of 1 1 1) [] [] 0 [] 1)
    × Means (0x80 ∷ 255 ∷ []) (sheet_of (size_of 1 1 1) [] [] 0 [] 255)
    × Means (0xD8 ∷ 2 ∷ 0 ∷ 0 ∷ 1 ∷ 0 ∷ 1 ∷ 3 ∷ 5 ∷ []) (sheet_of (size_of 1 1 1) (item_of 1 1 1 ∷ item_of 1 1 1 ∷ []) (before 0 1 ∷ []) 0 (3 ∷ []) 5)
    -- a piece that may be turned, between two that may not
    × Means (0x08 ∷ 3 ∷ 0 ∷ 0x0A ∷ 2 ∷ 0 ∷ 0x01 ∷ 3 ∷ 0 ∷ []) (sheet_of (size_of 1 1 1) (item_of 1 1 1 ∷ turnable 1 2 1 ∷ item_of 3 1 1 ∷ []) [] 0 [] 0)
    -- all written, and no two alike
    × Means
    (0xFF ∷ 2 ∷ 1 ∷ 3 ∷ 0 ∷ 4 ∷ 0 ∷ 2 ∷ 0x0F ∷ 5 ∷ 0 ∷ 6 ∷ 0 ∷ 7 ∷ 0 ∷ 0x07 ∷ 8 ∷ 0 ∷ 9 ∷ 0 ∷ 11 ∷ 10
    ∷ 2 ∷ 0 ∷ 1 ∷ 1 ∷ 0 ∷ 12 ∷ 13 ∷ 0 ∷ 14 ∷ 15 ∷ [])
    (sheet_of (size_of 0x0102 3 4) (turnable 5 6 7 ∷ item_of 8 9 0x0A0B ∷ []) (before 0 1 ∷ before 1 0 ∷ []) 0x0D0C (0 ∷ 14 ∷ []) 15)
unfolding sheet_computing
readings = search

refusals :
    -- 1: the bytes end before a map byte, within a field, within an order that would get 5
    (read [] ≡ refused (EndsEarly 0))
    × (read (0x01 ∷ 2 ∷ []) ≡ refused (EndsEarly 2))
    × (read (0x18 ∷ 2 ∷ 0 ∷ 0 ∷ 1 ∷ 2 ∷ []) ≡ refused (EndsEarly 6))
    -- 2: bit 4 of a piece
    × (read (0x08 ∷ 1 ∷ 0x10 ∷ []) ≡ refused (UnknownBit 2))
    -- bit 3 has no field: what follows is after the piece
    × (read (0x08 ∷ 1 ∷ 0x08 ∷ 2 ∷ 0 ∷ []) ≡ refused (TrailingBytes 3))
    -- 3: a measure of 1, yard number 0
    × (read (0x01 ∷ 1 ∷ 0 ∷ []) ≡ refused (WrittenDefault 1))
    × (read (0x20 ∷ 0 ∷ 0 ∷ []) ≡ refused (WrittenDefault 1))
    -- 4: 0 pieces; 11 pieces, while 10 may follow; 91 orders, while 90 may follow
    × (read (0x08 ∷ 0 ∷ []) ≡ refused (BadCount 1))
    × (read (0x08 ∷ 11 ∷ []) ≡ refused (BadCount 1))
    × (read (0x08 ∷ 10 ∷ []) ≡ refused (EndsEarly 2))
    × (read (0x10 ∷ 91 ∷ []) ≡ refused (BadCount 1))
    × (read (0x10 ∷ 90 ∷ []) ≡ refused (EndsEarly 2))
    -- 5, with two pieces: the order 0,0; the order 0,2; the order 0,0 after 1,0, which would get 6 too
    × (read (0x18 ∷ 2 ∷ 0 ∷ 0 ∷ 1 ∷ 0 ∷ 0 ∷ []) ≡ refused (BadItem 5))
    × (read (0x18 ∷ 2 ∷ 0 ∷ 0 ∷ 1 ∷ 0 ∷ 2 ∷ []) ≡ refused (BadItem 5))
    × (read (0x18 ∷ 2 ∷ 0 ∷ 0 ∷ 2 ∷ 1 ∷ 0 ∷ 0 ∷ 0 ∷ []) ≡ refused (BadItem 7))
    -- 6: the same order twice; 0,1 after 1,0
    × (read (0x18 ∷ 2 ∷ 0 ∷ 0 ∷ 2 ∷ 1 ∷ 0 ∷ 1 ∷ 0 ∷ []) ≡ refused (NotRising 7))
    × (read (0x18 ∷ 2 ∷ 0 ∷ 0 ∷ 2 ∷ 1 ∷ 0 ∷ 0 ∷ 1 ∷ []) ≡ refused (NotRising 7))
    -- 7: a byte after the last field
    × (read (0 ∷ 0 ∷ []) ≡ refused (TrailingBytes 1))
    -- 11: an empty field of lags, also before a byte that follows and after a yard number; 1 and 3 of the yard number come before it
    × (read (0x40 ∷ []) ≡ refused (NoLag 1))
    × (read (0x40 ∷ 0 ∷ []) ≡ refused (NoLag 1))
    × (read (0x60 ∷ 1 ∷ 0 ∷ []) ≡ refused (NoLag 3))
    × (read (0x60 ∷ []) ≡ refused (EndsEarly 1))
    × (read (0x60 ∷ 0 ∷ 0 ∷ []) ≡ refused (WrittenDefault 1))
    -- 11: two lags of 0, also before a byte that follows; 1: one of them alone
    × (read (0x58 ∷ 2 ∷ 0 ∷ 0 ∷ 2 ∷ 0 ∷ 1 ∷ 1 ∷ 0 ∷ 0 ∷ 0 ∷ []) ≡ refused (NoLag 9))
    × (read (0x58 ∷ 2 ∷ 0 ∷ 0 ∷ 2 ∷ 0 ∷ 1 ∷ 1 ∷ 0 ∷ 0 ∷ 0 ∷ 9 ∷ []) ≡ refused (NoLag 9))
    × (read (0x58 ∷ 2 ∷ 0 ∷ 0 ∷ 2 ∷ 0 ∷ 1 ∷ 1 ∷ 0 ∷ 0 ∷ []) ≡ refused (EndsEarly 10))
    -- the walkway: 3, also after a lag; 1, also after a lag; 7 for a byte after it
    × (read (0x80 ∷ 0 ∷ []) ≡ refused (WrittenDefault 1))
    × (read (0xD8 ∷ 2 ∷ 0 ∷ 0 ∷ 1 ∷ 0 ∷ 1 ∷ 3 ∷ 0 ∷ []) ≡ refused (WrittenDefault 8))
    × (read (0x80 ∷ []) ≡ refused (EndsEarly 1))
    × (read (0xD8 ∷ 2 ∷ 0 ∷ 0 ∷ 1 ∷ 0 ∷ 1 ∷ 3 ∷ []) ≡ refused (EndsEarly 8))
    × (read (0x80 ∷ 5 ∷ 0 ∷ []) ≡ refused (TrailingBytes 2))
    -- 11 comes before what is said of a walkway: of an empty field of lags, with 1, 3 or none at the same place; of a lag of 0
    × (read (0xC0 ∷ []) ≡ refused (NoLag 1))
    × (read (0xC0 ∷ 0 ∷ []) ≡ refused (NoLag 1))
    × (read (0xC0 ∷ 5 ∷ []) ≡ refused (NoLag 1))
    × (read (0xD8 ∷ 2 ∷ 0 ∷ 0 ∷ 1 ∷ 0 ∷ 1 ∷ 0 ∷ 0 ∷ []) ≡ refused (NoLag 7))
    -- 12: a width of 4,096; shifts of 65,535 after a width of 4,095; a piece's depth of 4,096. 1: its high byte is missing; 3: a field before it
    × (read (0x01 ∷ 0 ∷ 16 ∷ []) ≡ refused (TooLarge 1))
    × (read (0x05 ∷ 255 ∷ 15 ∷ 255 ∷ 255 ∷ []) ≡ refused (TooLarge 3))
    × (read (0x08 ∷ 1 ∷ 0x02 ∷ 0 ∷ 16 ∷ []) ≡ refused (TooLarge 3))
    × (read (0x01 ∷ 0 ∷ []) ≡ refused (EndsEarly 2))
    × (read (0x03 ∷ 1 ∷ 0 ∷ 0 ∷ 16 ∷ []) ≡ refused (WrittenDefault 1))
    × (read (0x03 ∷ 0 ∷ 16 ∷ 1 ∷ 0 ∷ []) ≡ refused (TooLarge 1))
unfolding sheet_computing
refusals = search
