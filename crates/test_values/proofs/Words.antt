-- A number of two, four and eight bytes is what its bytes in a row give, the low byte first.
use Rattle.std.specs.Prelude.{◌≡◌, ◌+◌}
use Rattle.prelude.specs.Names.{List, ℕ, arith, add-zero, add_assoc}
use Rattle.std.specs.Int.{w16, w32, w64, from_le_bytes}
use Rattle.sheet.specs.Places.{byte_at, word_at}
use Rattle.test_values.specs.Values.{tabulate, four_at, number_at}

module _ (s : List ℕ) (at : ℕ) (bytes : List ℕ) (n : ℕ) where
  pub word_of_bytes : bytes ≡ tabulate 2 (λ i. byte_at s (at + i)) → n ≡ from_le_bytes w16 bytes → n ≡ word_at s at
  unfolding tabulate
  word_of_bytes e r = rw (r, e) (simp add-zero (omega arith))

  pub four_of_bytes : bytes ≡ tabulate 4 (λ i. byte_at s (at + i)) → n ≡ from_le_bytes w32 bytes → n ≡ four_at s at
  unfolding tabulate
  four_of_bytes e r = rw (r, e) (simp (add-zero, add_assoc) (omega arith))

  pub number_of_bytes : bytes ≡ tabulate 8 (λ i. byte_at s (at + i)) → n ≡ from_le_bytes w64 bytes → n ≡ number_at s at
  unfolding tabulate number_at
  number_of_bytes e r = rw (r, e) (simp (add-zero, add_assoc) (omega arith))
