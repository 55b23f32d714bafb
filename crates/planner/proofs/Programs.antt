-- Laws of the program's text by what reading the sheet answered.
use Rattle.std.specs.Prelude.{◌≡◌, ◌≤◌, Ok, Err}
use Rattle.prelude.specs.Names.{List, ℕ, refl}
use Rattle.refusal.specs.declared.Refusal.{Refusal}
use Rattle.formats.specs.Reading.{Bytes}
use Rattle.instance.specs.declared.Instance.{Instance}
use Rattle.instance.specs.Sheets.{decode}
use Rattle.instance.specs.Answers.{read_result}
use Rattle.instance.specs.Values.{opening_checkpoint}
use Rattle.instance.proofs.Sheets.{valid-says}
use Rattle.instance.proofs.RoundTrips.{read_valid}
use Rattle.instance.proofs.Readings.{was_read, was_refused}
use Rattle.search.specs.Results.{search_result}
use Rattle.report.specs.Text.{refused_text}
use Rattle.planner.specs.Program.{result_text, program_text}

module _ (s : List ℕ) where
  pub text_read : {i : Instance} → Ok i ≡ read_result (decode s)
      → program_text s ≡ result_text i.item_count (search_result i opening_checkpoint 1_000_000)
  unfolding program_text
  text_read {i} e = let w = was_read (decode s) (Ok i) e refl in rw w.was

  pub text_refused : {f : Refusal} → Err f ≡ read_result (decode s) → program_text s ≡ refused_text f
  unfolding program_text
  text_refused {f} e = rw (was_refused (decode s) (Err f) e refl)

  -- an instance that was read has at most ten items
  pub few-items : {i : Instance} → Ok i ≡ read_result (decode s) → Bytes s → i.item_count ≤ 10
  few-items {i} e b = let w = was_read (decode s) (Ok i) e refl in (valid-says i (read_valid s w.was b)).items-few

pub ruleset texts = (text_read, text_refused, few-items)
