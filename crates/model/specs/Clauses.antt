-- Rules 1 to 4 as document 01 words them, forward from what is fixed to what is removed: where a clause's premises hold, its conclusion must.
-- proofs/Clauses shows that domains obey them exactly where the tests of specs/Rules, which see each rule from the relation that it removes, ask for
-- nothing that is left.
use Rattle.std.specs.Prelude.{◌∷◌, ◌≢◌, ◌≤◌, ◌<◌}
use Rattle.prelude.specs.Names.{List, [], ℕ}
use Rattle.model.specs.Domains.{Domains}
use Rattle.model.specs.Order.{Proper}
use Rattle.model.specs.Relations.{Filled}
use Rattle.model.specs.Facts.{Saying, overlaps, removed, forced, Fact, Holds}

-- the fact about u and v on the axis a
abbrev pub of : Saying → ℕ → ℕ → ℕ → Fact
of s a u v = record { saying = s; axis = a; u = u; v = v }

-- the three axes in some order
pub record Axes (a b c : ℕ) : Type 0 where
  pub axis_a : a < 3
  pub axis_b : b < 3
  pub axis_c : c < 3
  pub ab : a ≢ b
  pub ac : a ≢ c
  pub bc : b ≢ c

-- three distinct items of n on an axis
pub record Three (n a u v w : ℕ) : Type 0 where
  pub uv : Proper n a u v
  pub vw : Proper n a v w
  pub uw : Proper n a u w

-- 1 or 2: an order of two items
pub record Order (x : ℕ) : Type 0 where
  pub least : 1 ≤ x
  pub most : x ≤ 2

pub data Rule (n : ℕ) : List Fact → Fact → Type 0 where
  -- "1. Overlap known on two axes of a pair: strike it on the third (C3)."
  c3 : (a b c u v : ℕ) → Axes a b c → Proper n a u v → Rule n (of overlaps a u v ∷ of overlaps b u v ∷ []) (of (removed 0) c u v)
  -- "2. u before v and v before w known: strike all but u before w (D2)."
  d2 : (x a u v w : ℕ) → Order x → Three n a u v w → Rule n (of (forced x) a u v ∷ of (forced x) a v w ∷ []) (of (forced x) a u w)
  -- "3. u before v known and 'u before w' struck: strike 'v before w'. v before w known and 'u before w' struck: strike 'u before v' (D1 is a case of these).":
  -- each seen in both directions
  d1_far : (x a u v w : ℕ) → Order x → Three n a u v w → Rule n (of (forced x) a u v ∷ of (removed x) a v w ∷ []) (of (removed x) a u w)
  d1_near : (x a u v w : ℕ) → Order x → Three n a u v w → Rule n (of (removed x) a u v ∷ of (forced x) a v w ∷ []) (of (removed x) a u w)
  -- "4. On one axis ab, bc, cd, da known to overlap and overlap struck for ac: strike all but overlap for bd (G1)."; the items are q, r, s, t
  g1 : (a q r s t : ℕ) → Three n a q r s → Three n a s t q → Proper n a r t
      → Rule n (of overlaps a q r ∷ of overlaps a r s ∷ of overlaps a s t ∷ of overlaps a t q ∷ of (removed 0) a q s ∷ []) (of overlaps a r t)

abbrev pub AllHold : Domains → List Fact → Type 0
AllHold k [] = Unit {0}
AllHold k (c ∷ cs) = Holds k c × AllHold k cs

-- where the premises hold, so does the conclusion
abbrev pub Obeyed : ℕ → Domains → Type 0
Obeyed n k = (ps : List Fact) (c : Fact) → Rule n ps c → AllHold k ps → Holds k c

-- domains that obey rules 1 to 4 for ten items and have something left of each pair
pub record Lawful (f : Domains) : Type 0 where
  pub obeyed : Obeyed 10 f
  pub filled : Filled f
