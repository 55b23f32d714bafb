-- What the rules speak of: relations of two items on an axis that are known or removed.
use Rattle.std.specs.Prelude.{◌&&◌, ◌≡◌}
use Rattle.prelude.specs.Names.{Bool, true, ℕ}
use Rattle.model.specs.Domains.{Domains}
use Rattle.model.specs.Relations.{gone}

-- `removed x`: the relation x is removed. `forced x`: overlap and the relation x are removed. `overlaps`: both orders are removed. `nothing`: all three
pub data Saying : Type 0 where
  overlaps nothing : Saying
  removed forced : ℕ → Saying

-- the same of two items on an axis
pub record Fact : Type 0 where
  pub saying : Saying
  pub axis : ℕ
  pub u : ℕ
  pub v : ℕ

unfoldable pub says : Saying → Domains → ℕ → ℕ → ℕ → Bool
says overlaps k a u v = gone k 1 a u v && gone k 2 a u v
says nothing k a u v = gone k 0 a u v && (gone k 1 a u v && gone k 2 a u v)
says (removed x) k a u v = gone k x a u v
says (forced x) k a u v = gone k 0 a u v && gone k x a u v

abbrev pub Holds : Domains → Fact → Type 0
Holds k c = says c.saying k c.axis c.u c.v ≡ true
