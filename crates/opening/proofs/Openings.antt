-- The precedences of a valid instance name two items each; they are fixed one after another.
use Rattle.std.specs.Prelude.{◌∷◌, ◌⊎◌, ◌≡◌, ◌+◌, ◌^◌, ◌≤◌, ◌<◌, Result, Ok, Err}
use Rattle.prelude.specs.Names.{true, List, [], map, Mem, mem-head, mem-tail, refl, ◌∙◌, ℕ, zero, suc}
use Rattle.prelude.specs.Names.{arith, bit_or, get_or, length, drop, drop-cons, add-one}
use Rattle.parts.specs.declared.Precedence.{Precedence}
use Rattle.std.specs.Prelude.{None}
use Rattle.parts.specs.Precedences.{arc_of, all_allowed}
use Rattle.parts.specs.Sizes.{no_precedence}
use Rattle.instance.specs.Meaning.{precedence_of}
use Rattle.model.specs.Domains.{Domains, fix_before}
use Rattle.model.specs.Branching.{fix_precedences}
use Rattle.model.specs.Order.{Proper, ◌⊑◌}
use Rattle.model.specs.Relations.{without, Filled}
use Rattle.model.proofs.Order.{below_refl, below_trans}
use Rattle.model.proofs.Without.{fix_before-less}
use Rattle.domains.specs.Queue.{queue_end}
use Rattle.domains.specs.Narrowed.{Grown, Narrowed, Refuted, NarrowedIf, All, Asked, Askable}
use Rattle.domains.specs.declared.store.Conflict.{Conflict}
use Rattle.opening.specs.Openings.{all_fixed}
use Rattle.domains.proofs.Narrowed.{grown-then}
use Rattle.nodes.proofs.BranchRemovals.{taken_one, taken_more, set_one, set_more, askable, filled_more, Exact, exact}
use Rattle.nodes.specs.Choice.{SetOf}
use Rattle.opening.proofs.Sound.{allowed-proper}
use Rattle.model.specs.Problem as M

-- fixing only removes
pub fixing_less : (l : List M.Precedence) (k : Domains) → fix_precedences l k ⊑ k
fixing_less [] k = below_refl k
fixing_less (o ∷ l) k =
    let j = fix_before k 2 o.predecessor o.successor in
    below_trans (fix_precedences l j) j k (fixing_less l j) (fix_before-less k 2 o.predecessor o.successor)

-- the first i precedences are fixed: from k to j
pub record Fixing (os : List Precedence) (k : Domains) (q : List ℕ) (i : ℕ) (j : Domains) (rows r : List ℕ) : Type 0 where
  pub left : fix_precedences (map precedence_of (drop i os)) j ≡ all_fixed os k
  pub grown : Grown k q j rows r

-- an entry of a list is in it
getD_in : {A : Type 0} (d : A) (l : List A) (i : ℕ) → i < length l → Mem (get_or l i d) l
getD_in d [] i h = absurd (omega arith)
getD_in d (x ∷ l) zero h = mem-head refl
getD_in d (x ∷ l) (suc i) h = mem-tail (getD_in d l i (omega arith))

-- each of the precedences, where they are allowed, names two items
pub allowed_at : (os : List Precedence) → all_allowed 10 None (map arc_of os) ≡ true → (i : ℕ) → i < length os
    → let o = get_or os i no_precedence in Proper 10 2 o.predecessor o.successor
allowed_at os allowed i more = allowed-proper 10 None allowed (getD_in no_precedence os i more)

-- what is left of a list from i on has the entry at i first
next_of : (os : List Precedence) (i : ℕ) → i < length os → drop i os ≡ get_or os i no_precedence ∷ drop (i + 1) os
next_of os i more = rw add-one (drop-cons os i no_precedence more)

module _ {os : List Precedence} {k : Domains} {q : List ℕ} {i : ℕ} {j : Domains} {rows r : List ℕ} (f : Fixing os k q i j rows r) where
  abbrev o : Precedence
  o = get_or os i no_precedence

  module _ (allowed : all_allowed 10 None (map arc_of os) ≡ true) (more : i < length os) where
    next-proper : Proper 10 2 o.predecessor o.successor
    next-proper = allowed_at os allowed i more

    abbrev next : Domains
    next = fix_before j 2 o.predecessor o.successor

    rest : fix_precedences (map precedence_of (drop (i + 1) os)) next ≡ all_fixed os k
    rest = (rw (next_of os i more) refl) ∙ f.left

    -- "v before u" and overlap, as a set
    module _ {x y : ℕ} (hx : (x ≡ 2 ^ o.successor) × (x < 2 ^ 30)) (hy : (y ≡ 2 ^ (20 + o.successor)) × (y < 2 ^ 30)) where
      of_both : SetOf (bit_or x y) o.successor (λ z. (z ≡ 2) ⊎ (z ≡ 0))
      of_both = let l = next-proper.item_v in set_more (set_one 0 (omega arith) l (omega arith) hx) (set_one 2 (omega arith) l refl hy)

      pub fixable : Askable 2 o.predecessor (bit_or x y)
      fixable = askable next-proper of_both

      fixed : (l : Domains) (rows' z : List ℕ) (b : Result (Unit {0}) Conflict)
          → NarrowedIf (Asked 2 o.predecessor (bit_or x y)) (All 2 o.predecessor (bit_or x y)) j r l rows' z b → Exact next j r l rows' z b
      unfolding fix_before without
      fixed = exact next-proper (taken_more next-proper (taken_one next-proper f.grown.good.laid.well_formed 2) 0) of_both r

      pub fixing_next : {l : Domains} {rows' z : List ℕ} → 1 ≤ queue_end q
          → Narrowed (Asked 2 o.predecessor (bit_or x y)) (All 2 o.predecessor (bit_or x y)) j r l rows' z → Fixing os k q (i + 1) l rows' z
      fixing_next {l} {rows'} {z} least n =
          let (is, grown) = fixed l rows' z (Ok tt) n in
          record { left = rw is rest; grown = grown-then least f.grown grown }

      -- a pair that has nothing left now has nothing left in the end
      pub fixing_fails : (e : Conflict) → Refuted (Asked 2 o.predecessor (bit_or x y)) j → Filled (all_fixed os k) → ⊥
      fixing_fails e none full =
          let os' = map precedence_of (drop (i + 1) os) in
          fixed j rows r (Err e) none (filled_more (fix_precedences os' next) next (fixing_less os' next) (rw rest full))
