-- Laws of a path's branches in an array, and of checkpoints as values.
use Rattle.std.specs.Prelude.{◌∷◌, ◌≡◌, ◌+◌, ◌-◌, ◌≤◌, ◌<◌}
use Rattle.prelude.specs.Names.{true, false, List, [], refl, sym, ap, ◌∙◌, subst, ℕ, zero, suc, ℕ_discrete, dec_lt}
use Rattle.prelude.specs.Names.{add-one, arith, leb, length, get_or, set, length-set, length-replicate, ext_get_or, get_or-set_same}
use Rattle.prelude.specs.Names.{get_or-set_other, set-get_or, eqb-true, le-leb, lt-ltb, le-ltb, leb-true, ltb-true}
use lib.Seq.{set-set}
use Rattle.model.proofs.Below.{and_intro, and_both, all-at, all_of}
use Rattle.model.specs.Below.{all_below}
use Rattle.model.specs.Branching.{Branch, first, second}
use Rattle.model.specs.Run.{ChoiceCheckpoint}
use Rattle.model.specs.Series.{stage}
use Rattle.nodes.proofs.Loops.{blank_at}
use Rattle.instance.specs.declared.Checkpoint.{Checkpoint}
use Rattle.instance.specs.declared.Status.{Status}
use Rattle.instance.specs.declared.Status.TheVariants.{Open, Infeasible, Packed}
use Rattle.tree_paths.specs.Checkpoints.{branch_of, branch_number, path_of, value_path, with_status, state_of, checkpoint_of, length_allowed}
use Rattle.tree_paths.specs.Checkpoints.{all_branches, well_formed, Bits, branches_of, value_at, value_of, PathIn, Backed, some_left, none_left}
use Rattle.model.specs.Search as S

-- a branch and its number
pub branch_back : (b : Branch) → branch_of (branch_number b) ≡ b
branch_back first = refl
branch_back second = refl

pub number-back : (m : ℕ) → m < 2 → branch_number (branch_of m) ≡ m
number-back zero h = refl
number-back (suc zero) h = refl
number-back (suc (suc m)) h = absurd (omega arith)

number_small : (b : Branch) → branch_number b < 2
number_small first = omega arith
number_small second = omega arith

pub path_length : (n : ℕ) (bs : List ℕ) → length (path_of n bs) ≡ n
path_length zero bs = refl
path_length (suc n) bs = ap suc (path_length n bs)

-- what is written past the path is no part of it
path_set : (n : ℕ) (bs : List ℕ) (i m : ℕ) → n ≤ i → path_of n (set bs i m) ≡ path_of n bs
path_set zero bs i m h = refl
path_set (suc n) bs i m h =
    let d : n ≡ i → ⊥ = λ e. omega arith in
    rw (get_or-set_other bs i n m 0 d, path_set n bs i m (omega arith))

pub branches_length : (path : List Branch) → length (branches_of path) ≡ 270
unfolding branches_of
branches_length [] = length-replicate {A = ℕ} 270 0
branches_length (b ∷ path) = length-set (branches_of path) (length path) (branch_number b) ∙ branches_length path

-- "0 past the length"
pub branches_past : (path : List Branch) (i : ℕ) → length path ≤ i → get_or (branches_of path) i 0 ≡ 0
unfolding branches_of
branches_past [] i h = blank_at {A = ℕ} 0 270 i
branches_past (b ∷ path) i h =
    let d : i ≡ length path → ⊥ = λ e. omega arith in
    get_or-set_other (branches_of path) (length path) i (branch_number b) 0 d ∙ branches_past path i (omega arith)

-- the path comes back from its array
pub path_back : (path : List Branch) → length path ≤ 270 → path_of (length path) (branches_of path) ≡ path
unfolding branches_of
path_back [] h = refl
path_back (b ∷ path) h =
    let n = length path in
    let bs = branches_of path in
    let l : n < length bs = omega (arith, branches_length path) in
    rw (get_or-set_same bs n (branch_number b) 0 l, branch_back, path_set n bs n (branch_number b) (omega arith), path_back path (omega arith))

-- and from the array of a path that was read from an array
pub given_back : (n : ℕ) (bs : List ℕ) → n ≤ 270 → path_of n (branches_of (path_of n bs)) ≡ path_of n bs
given_back n bs h =
    subst (λ (m : ℕ). path_of m (branches_of (path_of n bs)) ≡ path_of n bs) (path_length n bs) (path_back (path_of n bs) (rw path_length h))

set-small : (l : List ℕ) (i j v : ℕ) → v < 2 → get_or l j 0 < 2 → get_or (set l i v) j 0 < 2
set-small [] i j v small h = h
set-small (x ∷ l) zero zero v small h = small
set-small (x ∷ l) zero (suc j) v small h = h
set-small (x ∷ l) (suc i) zero v small h = h
set-small (x ∷ l) (suc i) (suc j) v small h = set-small l i j v small h

pub branches_small : (path : List Branch) (i : ℕ) → get_or (branches_of path) i 0 < 2
unfolding branches_of
branches_small [] i = omega (arith, blank_at {A = ℕ} 0 270 i)
branches_small (b ∷ path) i = set-small (branches_of path) (length path) i (branch_number b) (number_small b) (branches_small path i)

-- no branch is written for a first one
pub first-held : (path : List Branch) → branches_of (first ∷ path) ≡ branches_of path
unfolding branches_of
first-held path =
    ap (set (branches_of path) (length path)) (sym (branches_past path (length path) (omega arith))) ∙ set-get_or (branches_of path) (length path) 0

branches_bits : (path : List Branch) (n : ℕ) → all_branches n (branches_of path) ≡ true
unfolding all_branches
branches_bits path n = all_of n _ (λ i h. lt-ltb _ _ (branches_small path i))

-- what is asked of a checkpoint for its value to hold it
abbrev pub Short : S.Checkpoint → Type 0
Short (S.open_at path) = length path ≤ 270
Short S.infeasible = Unit {0}
Short (S.packed_at path) = length path ≤ 270

module _ (n : ℕ) where
  pub value_short : (κ : S.Checkpoint) → Short κ → (value_at n κ).length ≤ 270
  unfolding value_at
  value_short (S.open_at path) h = h
  value_short S.infeasible h = omega arith
  value_short (S.packed_at path) h = h

  -- a checkpoint comes back from its value, which is well_formed
  pub state-back : (κ : S.Checkpoint) → Short κ → state_of (value_at n κ) ≡ κ
  unfolding state_of value_at
  state-back (S.open_at path) h = ap S.open_at (path_back path h)
  state-back S.infeasible h = refl
  state-back (S.packed_at path) h = ap S.packed_at (path_back path h)

  pub value-choice : (κ : S.Checkpoint) → (value_at n κ).choice ≡ n
  unfolding value_at
  value-choice (S.open_at path) = refl
  value-choice S.infeasible = refl
  value-choice (S.packed_at path) = refl

  pub value-well_formed : (κ : S.Checkpoint) → Short κ → well_formed (value_at n κ) ≡ true
  unfolding well_formed value_at
  value-well_formed (S.open_at path) h = and_intro (le-leb _ _ h) (and_intro refl (branches_bits path (length path)))
  value-well_formed S.infeasible h = and_intro refl (and_intro refl (branches_bits [] 0))
  value-well_formed (S.packed_at path) h = and_intro (le-leb _ _ h) (and_intro refl (branches_bits path (length path)))

pub checkpoint-back : (s : ChoiceCheckpoint) → Short s.state → checkpoint_of (value_of s) ≡ s
unfolding checkpoint_of
checkpoint-back s h = rw (state-back s.number s.state h, value-choice s.number s.state)

-- a checkpoint by its status
pub state_as : (c : Checkpoint) {s : Status} → c.status ≡ s → state_of c ≡ with_status s (value_path c)
unfolding state_of
state_as c e = ap (λ (s : Status). with_status s (value_path c)) e

pub checkpoint_as : (c : Checkpoint) {s : Status} → c.status ≡ s → checkpoint_of c ≡ stage c.choice (with_status s (value_path c))
unfolding checkpoint_of
checkpoint_as c e = ap (stage c.choice) (state_as c e)

-- what a well_formed value says of its length and its branches
pub well_formed-bits : (c : Checkpoint) → well_formed c ≡ true → Bits c.length c.branches
unfolding well_formed
well_formed-bits c h =
    let (l, r) = and_both (leb c.length 270) _ h in
    record { within = leb-true _ _ l; bits = (and_both (length_allowed c.status c.length) _ r).1 }

pub well_formed-length : (c : Checkpoint) → well_formed c ≡ true → length_allowed c.status c.length ≡ true
unfolding well_formed
well_formed-length c h = (and_both (length_allowed c.status c.length) _ (and_both (leb c.length 270) _ h).1).0

-- the array of a path that was read from an array
pub again_at : (n : ℕ) (bs : List ℕ) → n ≤ 270 → (k : ℕ) → k < n → get_or (branches_of (path_of n bs)) k 0 ≡ branch_number (branch_of (get_or bs k 0))
unfolding branches_of
again_at zero bs l k h = absurd (omega arith)
again_at (suc n) bs l k h = rw (path_length n bs) (elim (ℕ_discrete k n) [
  | yes e ↦ rw e (get_or-set_same (branches_of (path_of n bs)) n _ 0 (omega (arith, branches_length (path_of n bs))))
  | no d ↦ get_or-set_other (branches_of (path_of n bs)) n k _ 0 d ∙ again_at n bs (omega arith) k (omega arith)
])

-- one branch more of an array of branches
pub bits-next : {n : ℕ} {bs : List ℕ} (i : ℕ) → Bits n bs → i < n → branch_number (branch_of (get_or bs i 0)) ≡ get_or bs i 0
unfolding all_branches
bits-next {n} {bs} i β h = number-back (get_or bs i 0) (ltb-true _ _ (all-at n _ β.bits i h))

module _ (n : ℕ) (bs : List ℕ) (long : length bs ≡ 270) (β : Bits n bs) (past : (k : ℕ) → n ≤ k → get_or bs k 0 ≡ 0) where
  branches_again : branches_of (path_of n bs) ≡ bs
  unfolding all_branches
  branches_again = ext_get_or 0 (branches_of (path_of n bs)) bs (branches_length (path_of n bs) ∙ sym long) (λ k _. elim (dec_lt k n) [
    | yes h ↦ again_at n bs β.within k h ∙ bits-next k β h
    | no h ↦ branches_past (path_of n bs) k (rw (path_length n bs) (omega arith)) ∙ sym (past k (omega arith))
  ])

  -- the value of what a value holds is that value, where it is well_formed and 0 past its length
  pub value_again : (m : ℕ) (s : Status) → length_allowed s n ≡ true
      → value_at m (with_status s (path_of n bs)) ≡ record { status = s; length = n; branches = bs; choice = m }
  unfolding value_at
  value_again m Open a = rw (path_length n bs, branches_again)
  value_again m Packed a = rw (path_length n bs, branches_again)
  value_again m Infeasible a =
      let z : n ≡ 0 = eqb-true n 0 a in
      let e : branches_of [] ≡ bs = subst (λ (l : ℕ). branches_of (path_of l bs) ≡ bs) z branches_again in
      rw (z, e)

-- The array of a path within a call

pub path_in_root : PathIn [] (branches_of []) 0
path_in_root = record { many = refl; entries = refl }

pub path_in_next : {path : List Branch} {bs : List ℕ} {n : ℕ} (b : Branch) → PathIn path bs n → PathIn (b ∷ path) (set bs n (branch_number b)) (n + 1)
unfolding branches_of
path_in_next b h = record { many = omega (arith, h.many); entries = rw (h.many, h.entries) }

-- one branch more of an array that is read from its start
pub path_next : (n : ℕ) (bs : List ℕ) → path_of (n + 1) bs ≡ branch_of (get_or bs n 0) ∷ path_of n bs
path_next n bs = rw add-one

-- the last branch of a path: a first one becomes second, a second one is dropped
module _ {path : List Branch} {bs : List ℕ} {n : ℕ} where
  last_number : {b : Branch} → PathIn (b ∷ path) bs n → n ≤ 270 → get_or bs (n - 1) 0 ≡ branch_number b
  unfolding branches_of
  last_number {b} h l =
      let e : n - 1 ≡ length path = omega (arith, h.many) in
      rw (e, h.entries) (get_or-set_same (branches_of path) (length path) (branch_number b) 0 (omega (arith, h.many, branches_length path)))

  made_second : PathIn (first ∷ path) bs n → PathIn (second ∷ path) (set bs (n - 1) 1) n
  unfolding branches_of
  made_second h =
      let e : n - 1 ≡ length path = omega (arith, h.many) in
      record { many = h.many; entries = rw (e, h.entries, set-set) }

  second_dropped : PathIn (second ∷ path) bs n → PathIn path (set bs (n - 1) 0) (n - 1)
  unfolding branches_of
  second_dropped h =
      let e : n - 1 ≡ length path = omega (arith, h.many) in
      record { many = e; entries = rw (e, h.entries, set-set) (first-held path) }

module _ {bs : List ℕ} {n : ℕ} where
  -- a last branch 0 becomes 1; any other is dropped; or none is left
  pub back-at-first : (path : List Branch) → PathIn path bs n → 0 < n → n ≤ 270 → get_or bs (n - 1) 0 ≡ 0 → Backed (S.backtrack path) (set bs (n - 1) 1) n
  back-at-first [] h g l e = absurd (omega (arith, h.many))
  back-at-first (first ∷ path) h g l e = some_left (made_second h)
  back-at-first (second ∷ path) h g l e = absurd (omega (arith, last_number h l))

  pub back-at_second : (path : List Branch) → PathIn path bs n → 0 < n → n ≤ 270 → (get_or bs (n - 1) 0 ≡ 0 → ⊥)
      → (rest : List Branch) × PathIn rest (set bs (n - 1) 0) (n - 1) × (S.backtrack path ≡ S.backtrack rest)
  back-at_second [] h g l f = absurd (omega (arith, h.many))
  back-at_second (first ∷ path) h g l f = absurd (f (last_number h l))
  back-at_second (second ∷ path) h g l f = (path, second_dropped h, refl)

  pub back-at_root : (path : List Branch) → PathIn path bs n → n ≡ 0 → Backed (S.backtrack path) bs 0
  back-at_root [] h e = none_left
  back-at_root (b ∷ path) h e = absurd (omega (arith, h.many))

-- the test of one branch more
module _ {i j : ℕ} (bs : List ℕ) (next : i ≡ suc j) where
  pub branches_fail : 1 < get_or bs j 0 → all_branches i bs ≡ false
  unfolding all_branches
  branches_fail g = rw (next, le-ltb (get_or bs j 0) 2 (omega arith), all_below)

  pub branches_pass : get_or bs j 0 ≤ 1 → all_branches i bs ≡ all_branches j bs
  unfolding all_branches
  branches_pass g = rw (next, lt-ltb (get_or bs j 0) 2 (omega arith), all_below)
