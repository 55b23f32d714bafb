-- What the program prints for the bytes of a sheet (document 01, "The program").
use Rattle.prelude.specs.Names.{List, ℕ}
use Rattle.formats.specs.Reading.{Read, got, refused}
use Rattle.instance.specs.declared.Instance.{Instance}
use Rattle.instance.specs.declared.Packing.{Packing}
use Rattle.instance.specs.Sheets.{decode}
use Rattle.instance.specs.Values.{opening_checkpoint}
use Rattle.search.specs.declared.answer.Answer.{Answer}
use Rattle.search.specs.declared.answer.Answer.TheVariants.{Packed, Infeasible, BudgetSpent, Refused}
use Rattle.search.specs.declared.answer.SearchResult.{SearchResult}
use Rattle.search.specs.Results.{search_result}
use Rattle.report.specs.Text.{packed_text, infeasible_text, spent_text, refused_text}

-- "the answer word and steps, then for placed one line a piece"
abbrev pub answer_text : ℕ → Packing → ℕ → Answer → List ℕ
answer_text n q steps Packed = packed_text steps q n
answer_text n q steps Infeasible = infeasible_text steps
answer_text n q steps BudgetSpent = spent_text steps
answer_text n q steps (Refused e) = refused_text e

-- the text of a call's result, for an instance of n items
unfoldable pub result_text : ℕ → SearchResult → List ℕ
result_text n r = answer_text n r.packing r.steps r.answer

-- "searches with 1,000,000 steps"; "A refused sheet prints `refused`, number, place"
abbrev pub reading_text : Read Instance → List ℕ
reading_text (got i at rest) = result_text i.item_count (search_result i opening_checkpoint 1_000_000)
reading_text (refused e) = refused_text e

unfoldable pub program_text : List ℕ → List ℕ
program_text sheet = reading_text (decode sheet)
