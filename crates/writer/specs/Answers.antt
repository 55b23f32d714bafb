-- What writing answers, and what it leaves in the lent room.
use Rattle.std.specs.Prelude.{◌&&◌, ◌++◌, ◌⊎◌, Result, Ok, Err}
use Rattle.prelude.specs.Names.{cond, not, List, inl, inr, ℕ, leb, ltb, length, drop}
use Rattle.refusal.specs.declared.Refusal.{Refusal}
use Rattle.refusal.specs.declared.Refusal.TheVariants.{BadArgument, InvalidInstance}
use Rattle.refusal.specs.Numbers.{number_of, place_of}
use Rattle.instance.specs.declared.Instance.{Instance}
use Rattle.instance.specs.Sheets.{encode}
use Rattle.instance.specs.Valid.{valid}

-- 9, then 8; else "Writing returns the sheet's length"
unfoldable pub write_answer : Instance → ℕ → Result ℕ Refusal
write_answer i room =
    cond (not (valid i)) (Err InvalidInstance)
    (cond (ltb room (length (encode i))) (Err BadArgument) (Ok (length (encode i))))

-- the paper's values of writing: the sheet's length, or number and place of a refusal
abbrev pub write_values : Result ℕ Refusal → ℕ ⊎ (ℕ × ℕ)
write_values (Ok n) = inl n
write_values (Err e) = inr (number_of e, place_of e)

-- "and fills that many bytes and no byte after them"; a refusal leaves the room as it was
unfoldable pub written_room : Instance → List ℕ → List ℕ
written_room i out =
    cond (valid i && leb (length (encode i)) (length out)) (encode i ++ drop (length (encode i)) out) out
