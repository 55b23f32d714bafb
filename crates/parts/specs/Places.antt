-- The places of bytes on a sheet.
use Rattle.std.specs.Prelude.{◌+◌, ◌<◌, Result, Ok, Err}
use Rattle.prelude.specs.Names.{ℕ, List, length, drop}
use Rattle.refusal.specs.declared.Refusal.{Refusal}
use Rattle.formats.specs.Reading.{Read, got, refused}

-- the places of the bytes from `at` on are numbers of their type
abbrev pub PlacesFit : ℕ → List ℕ → Type 0
PlacesFit at rest = at + length rest < 18446744073709551616

-- a value that has so many of the bytes from a place on, or a refusal
abbrev pub taken : {A : Type 0} → ℕ → List ℕ → Result (A × ℕ) Refusal → Read A
taken at rest (Ok (x, used)) = got x (at + used) (drop used rest)
taken at rest (Err e) = refused e
