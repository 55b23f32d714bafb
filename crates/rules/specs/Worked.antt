-- The clauses that each function of rules 1 to 4 sees to.
use Rattle.std.specs.Prelude.{◌&&◌, ◌||◌, ◌∷◌, ◌⊎◌, ◌≡◌, ◌+◌, ◌*◌, ◌^◌, ◌<◌, Result}
use Rattle.prelude.specs.Names.{Bool, true, false, List, [], ℕ, zero, suc}
use Rattle.model.specs.Domains.{Domains}
use Rattle.model.specs.Order.{Proper}
use Rattle.model.specs.Facts.{overlaps, removed, forced, Fact, Holds}
use Rattle.model.specs.Clauses.{of, Axes, Three, Order, AllHold, Lawful}
use Rattle.domains.specs.Bits.{bit_at}
use Rattle.domains.specs.Narrowed.{NarrowedIf, NarrowsIf}
use Rattle.domains.specs.declared.store.Store.{Store}
use Rattle.domains.specs.declared.store.Conflict.{Conflict}

-- a set of clauses
abbrev pub Clauses : Type 1
Clauses = List Fact → Fact → Type 0

-- what their premises in k ask for holds in j
abbrev pub Handled : Clauses → Domains → Domains → Type 0
Handled H k j = (ps : List Fact) (c : Fact) → H ps c → AllHold k ps → Holds j c

-- .. and nothing is removed that lawful domains have left, or there are no lawful domains below; the same of a function, from its entry to its exit
abbrev pub HandledIf : Clauses → Domains → List ℕ → Domains → List ℕ → List ℕ → Result (Unit {0}) Conflict → Type 0
HandledIf H k = NarrowedIf Lawful (Handled H k) k

abbrev pub HandlesIf : Clauses → Store → Store → Result (Unit {0}) Conflict → Type 0
HandlesIf H old = NarrowsIf Lawful (Handled H old.domains) old

-- rules 2 and 3 from the pair u, v on
abbrev pub PathFrom : ℕ → ℕ → ℕ → ℕ → Clauses
PathFrom x a u v ps c =
    (w : ℕ) × Three 10 a u v w
    × (((ps ≡ of (forced x) a u v ∷ of (forced x) a v w ∷ []) × (c ≡ of (forced x) a u w))
    ⊎ (((ps ≡ of (forced x) a u v ∷ of (removed x) a v w ∷ []) × (c ≡ of (removed x) a u w))
    ⊎ ((ps ≡ of (removed x) a u v ∷ of (forced x) a v w ∷ []) × (c ≡ of (removed x) a u w))))

-- with u, v as the first premise, for both orders
abbrev pub PathsFrom : ℕ → ℕ → ℕ → Clauses
PathsFrom a u v ps c = (x : ℕ) × Order x × PathFrom x a u v ps c

-- .. or, seen from the other end, as the second
abbrev pub Paths : ℕ → ℕ → ℕ → Clauses
Paths a u v ps c = (x : ℕ) × Order x × (PathFrom x a u v ps c ⊎ PathFrom x a v u ps c)

-- rule 1 for the axis c
abbrev pub Third : ℕ → ℕ → ℕ → ℕ → ℕ → Clauses
Third a b c u v ps t =
    Axes a b c × Proper 10 a u v × (ps ≡ of overlaps a u v ∷ of overlaps b u v ∷ []) × (t ≡ of (removed 0) c u v)

-- rule 4 with the items q, r, s and some t
abbrev pub Ring : ℕ → ℕ → ℕ → ℕ → Clauses
Ring a q r s ps c =
    (t : ℕ) × Three 10 a q r s × Three 10 a s t q × Proper 10 a r t
    × (ps ≡ of overlaps a q r ∷ of overlaps a r s ∷ of overlaps a s t ∷ of overlaps a t q ∷ of (removed 0) a q s ∷ []) × (c ≡ of overlaps a r t)

-- rule 4 with q, r as a side, and with q, s as the diagonal
abbrev pub Sides : ℕ → ℕ → ℕ → Clauses
Sides a q r ps c = (s : ℕ) × (s < 10) × Ring a q r s ps c

abbrev pub Diagonal : ℕ → ℕ → ℕ → Clauses
Diagonal a q s ps c = (r : ℕ) × (r < 10) × Ring a q r s ps c

-- x, y, t in a circle
abbrev pub next_axis : ℕ → ℕ
next_axis zero = 1
next_axis (suc zero) = 2
next_axis (suc (suc a)) = 0

-- the clauses with "u and v overlap" as a premise: rule 1 for the other axes, and rule 4 with them as a side
abbrev pub Overlapping : ℕ → ℕ → ℕ → Clauses
Overlapping a u v ps t =
    let b = next_axis a in
    let c = next_axis b in
    Third a b c u v ps t ⊎ (Third a c b u v ps t ⊎ (Sides a u v ps t ⊎ Sides a v u ps t))

-- what rules 2 and 3 remove of the relation x of u and w over v, by the rows of u (near) and v (far)
abbrev pub reached : ℕ → ℕ → ℕ → ℕ → ℕ → Bool
reached near far v zero w =
    (bit_at near v && bit_at far w)
    && ((bit_at near (10 + v) && bit_at far (10 + w)) || (bit_at near (20 + v) && bit_at far (20 + w)))
reached near far v (suc x) w =
    (bit_at near (suc x * 10 + v) && bit_at far (suc x * 10 + w)) && (bit_at near v || bit_at far w)

-- two rows, and an item of which the first has something left
pub record Pathable (near far v : ℕ) : Type 0 where
  pub near_small : near < 2 ^ 30
  pub far_small : far < 2 ^ 30
  pub item : v < 10
  pub left : (bit_at near v && (bit_at near (10 + v) && bit_at near (20 + v))) ≡ false

pub record Reached (near far v r : ℕ) : Type 0 where
  pub small : r < 2 ^ 30
  pub is : (x w : ℕ) → x < 3 → w < 10 → bit_at r (x * 10 + w) ≡ reached near far v x w

-- u overlaps each item of a set
abbrev pub OverlapAll : ℕ → ℕ → ℕ → Domains → Type 0
OverlapAll a u items f = (v : ℕ) → v < 10 → bit_at items v ≡ true → Holds f (of overlaps a u v)
