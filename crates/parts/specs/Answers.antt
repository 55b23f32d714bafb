-- What the readers' answers say.
use Rattle.std.specs.Prelude.{Result, Ok, Err}
use Rattle.prelude.specs.Names.{ℕ, []}
use Rattle.refusal.specs.declared.Refusal.{Refusal}
use Rattle.formats.specs.Reading.{Reading, Read, got, refused, run}
use Rattle.parts.specs.declared.read.Rest.{Rest}

-- what reading gives of what is left
abbrev pub read_from : {A : Type 0} → Reading A → Rest → Read A
read_from r rest = run r rest.at rest.bytes.now

-- a value with the place after it and the bytes left there, or a refusal
abbrev pub answer : {A : Type 0} → Result (A × Rest) Refusal → Read A
answer (Ok (x, rest)) = got x rest.at rest.bytes.now
answer (Err e) = refused e

-- no byte is left at the place, or a refusal
abbrev pub at_end : ℕ → Result (Unit {0}) Refusal → Read (Unit {0})
at_end at (Ok u) = got tt at []
at_end at (Err e) = refused e
