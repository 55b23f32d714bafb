-- What `hallplan_pieces` returns: the number of the sheet's pieces, at most 10, or 100 plus the number of its first fault.
use Rattle.std.specs.Prelude.{◌↔◌, ◌⊎◌, ◌≡◌, ◌+◌, ◌≤◌, ◌<◌}
use Rattle.prelude.specs.Names.{List, inl, inr, ⊎_elim, refl, sym, ◌∙◌, ℕ, arith}
use Rattle.refusal.specs.Numbers.{number_of}
use Rattle.refusal.specs.declared.Refusal.{Refusal}
use Rattle.formats.specs.Reading.{Bytes}
use Rattle.sheet.specs.Faults.{FirstFault}
use Rattle.sheet.specs.Sheet.{max_items}
use Rattle.instance.proofs.Readings.{decode_refuses}
use Rattle.instance.proofs.Sheets.{valid-says}
use Rattle.instance.specs.Reads.{Reads}
use Rattle.c_api.specs.Calls.{pieces_code}
use Rattle.c_api.proofs.Plans.{fault_or_reads, reads-valid}
use Rattle.c_api.proofs.Tables.{refuses_by_table, served_by_table}

module _ (sheet : List ℕ) (bytes : Bytes sheet) where
  abbrev code : ℕ
  code = pieces_code sheet

  abbrev Fault : ℕ → Type 0
  Fault n = (e : Refusal) × FirstFault sheet e × (n ≡ number_of e)

  fault-code : (n : ℕ) → Fault n → code ≡ 100 + n
  unfolding pieces_code
  fault-code n (e, f, k) = rw ((decode_refuses sheet e).1 f, k)

  by_table : ((n : ℕ) × Fault n) ⊎ Reads sheet
  by_table = ⊎_elim (λ (e, f). inl (number_of e, (e, f, refl))) inr (fault_or_reads sheet)

  counted : (r : Reads sheet) → code ≡ r.instance.item_count
  unfolding pieces_code
  counted r = rw r.reads

  few : (r : Reads sheet) → r.instance.item_count ≤ max_items
  few r = (valid-says r.instance (reads-valid sheet bytes r)).items-few

  small : Reads sheet → code < 100
  small r = omega (arith, counted r, few r)

  pub pieces_refuses : (n : ℕ) → (code ≡ 100 + n) ↔ Fault n
  pieces_refuses = refuses_by_table code Fault by_table fault-code small

  pub pieces_counts : (n : ℕ) → ((code ≡ n) × (n ≤ max_items)) ↔ ((r : Reads sheet) × (n ≡ r.instance.item_count))
  pieces_counts n = (
    (λ (e, l). served_by_table code Fault by_table fault-code small (omega arith) (λ r. (r, sym e ∙ counted r))),
    (λ (r, e). (counted r ∙ sym e, omega (arith, few r))),
  )

  -- no other number than these two kinds
  pub pieces_answers : (code ≤ max_items) ⊎ (100 ≤ code)
  pieces_answers = ⊎_elim (λ (n, φ). inr (omega (arith, fault-code n φ))) (λ r. inl (omega (arith, counted r, few r))) by_table
