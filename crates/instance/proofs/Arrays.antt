-- Arrays of structs.
use Rattle.std.specs.Prelude.{◌≡◌}
use Rattle.prelude.specs.Names.{List, map, sym, ◌∙◌, ℕ, length}
use lib.ListN.{length-map}

-- an array of structs is as long as what it is in memory
pub length_mapped : {A B : Type 0} (f : A → B) (l : List A) (n : ℕ) → length (map f l) ≡ n → length l ≡ n
length_mapped f l n e = sym (length-map l f) ∙ e
