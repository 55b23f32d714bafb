-- What is said of relations by their numbers: 0 overlap, 1 "u before v", 2 "v before u".
use Rattle.std.specs.Prelude.{◌&&◌, ◌≡◌, ◌<◌}
use Rattle.prelude.specs.Names.{true, false, ℕ}
use Rattle.model.specs.Domains.{Domains}
use Rattle.model.specs.Order.{Proper}
unfoldable pub use Rattle.model.specs.Domains.{gone, without, converse}

-- every pair has a relation left
abbrev pub Filled : Domains → Type 0
Filled k = (a u v : ℕ) → Proper 10 a u v → (gone k 0 a u v && (gone k 1 a u v && gone k 2 a u v)) ≡ false

-- nothing is removed of items past n
abbrev pub Untouched : ℕ → Domains → Type 0
Untouched n k = (x a u v : ℕ) → x < 3 → Proper 10 a u v → gone k x a u v ≡ true → (u < n) × (v < n)
