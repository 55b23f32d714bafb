-- How long the buffers of a C program are.
use Rattle.prelude.specs.Names.{ℕ}

-- "A note is 273 bytes", with the choice "as 2 bytes more at its end" (document 02, #106)
abbrev pub note_length : ℕ
note_length = 275

-- "4 bytes of steps"
abbrev pub steps_length : ℕ
steps_length = 4

-- "x, y, t for each piece, 2 bytes each", with its mark as "a seventh byte"
abbrev pub piece_length : ℕ
piece_length = 7

-- the length that an earliest finish gives (document 02, #103): a number of 16 bits
abbrev pub finish_length : ℕ
finish_length = 2
