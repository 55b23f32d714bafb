-- A path has at most two first branches for each of the 45 pairs, and its branching pairs never go back in number.
use Rattle.std.specs.Prelude.{◌||◌, ◌∷◌, ◌≡◌, ◌+◌, ◌*◌, ◌≤◌, ◌<◌}
use Rattle.prelude.specs.Names.{Bool, true, false, not, cond, List, [], refl, sym, ◌∙◌, ap, ℕ, suc, dec_lt}
use Rattle.prelude.specs.Names.{arith, length, not-true, not-false}
use Rattle.model.specs.Below.{all_below}
use Rattle.model.specs.Problem.{Problem}
use Rattle.model.specs.Pairs.{pair_number, pair_of}
use Rattle.model.specs.Domains.{Domains, may_overlap, may_before, gone, without, fixed_before, remove_overlap, remove_before}
use Rattle.model.specs.Propagate.{Slot}
use Rattle.model.specs.Branching.{separated, packed, undecided, pair_separated, choice_number, choice_axis, choice, Branch, first, second}
use Rattle.model.specs.Branching.{branch_at, branched, path_domains}
use Rattle.model.specs.Order.{Proper, WellFormed, ◌⊑◌, Fork}
use Rattle.model.specs.Admits.{Sound}
use Rattle.model.specs.Search.{fork, Forking}
use Rattle.model.specs.Run.{look}
use Rattle.model.specs.FirstBranches.{firsts, saved, Passed}
use Rattle.model.proofs.Below.{fails, Implies, and_mono, or_mono, some_mono, all_of, none-at, or_neither, stays, First, first-is, first_exists}
use Rattle.model.proofs.Below.{clash}
use Rattle.model.proofs.Pairs.{number_of-pair, pair-at-number, pair_number-small}
use Rattle.model.proofs.Slots.{proper-sym}
use Rattle.model.proofs.Domains.{may_overlap-sym, fixed_before-of}
use Rattle.model.proofs.Without.{without_gone}
use Rattle.model.proofs.Monotone.{gone_mono, may_overlap_mono, may_before_mono, fixed_before_mono}
use Rattle.model.proofs.Propagate.{propagate-less}
use Rattle.model.proofs.Fork.{unseparated-pair, choice_number-is}
use Rattle.model.proofs.Path.{path_branch, path_well_formed, path_less, path_fork}
use Rattle.model.proofs.Search.{look_fork}

-- A stack with a snapshot for each first branch is enough to go back
pub saved-count : (path : List Branch) → length (saved path) ≡ firsts path
saved-count [] = refl
saved-count (first ∷ path) = ap suc (saved-count path)
saved-count (second ∷ path) = saved-count path

-- The pairs before the branching pair

-- what is passed stays so
passed_mono : (j k : Domains) (m : ℕ) → j ⊑ k → Passed k m → Passed j m
unfolding separated
passed_mono j k m h r i l =
    let d = pair_of i in
    some_mono 3 (λ a. or_mono (fixed_before_mono j k h a d.u d.v) (fixed_before_mono j k h a d.v d.u)) (r i l)

module _ (p : Problem) (limited : p.items ≤ 10) (k : Domains) (f : Fork p k (choice k)) where
  -- the number of the choice is that of the first pair without a fixed "before"
  choice-first : First 45 (unseparated-pair k) (choice_number k)
  unfolding choice
  choice-first =
      let i = choice_number k in
      let small = rw (number_of-pair i) at (pair_number-small (pair_of i).u (pair_of i).v f.place.rising (omega arith)) in
      let (j, le, r) = first_exists 45 (unseparated-pair k) i small (ap not f.unseparated) in
      rw (choice_number-is k j r) r

  choice-passed : Passed k (choice_number k)
  choice-passed i l = not-false _ (choice-first.earlier i l)

-- Each pair takes at most two first branches: one that removes overlap, and one that fixes a "before"

-- the axis of the choice is the first with more than one relation left
axis-least : (k : Domains) (u v b : ℕ) → b < 3 → undecided k b u v ≡ true → choice_axis k u v ≤ b
unfolding choice_axis
axis-least k u v b h e =
    let f : ℕ → Bool = λ a. undecided k a u v in
    let (j, le, r) = first_exists 3 f b h e in
    omega (arith, first-is 3 f 0 j r)

-- without overlap, an axis of a pair without a fixed "before" has both orders left
module _ (k : Domains) (u v : ℕ) (open-pair : separated k u v ≡ false) (a : ℕ) (ha : a < 3) where
  unfixed : (fixed_before k a u v ≡ false) × (fixed_before k a v u ≡ false)
  unfolding separated
  unfixed = or_neither _ _ (none-at 3 (λ b. fixed_before k b u v || fixed_before k b v u) open-pair a ha)

  both_orders : may_overlap k a u v ≡ false → undecided k a u v ≡ true
  unfolding undecided
  both_orders o =
      let after = stays (may_before k a v u) (λ e. clash (fixed_before-of k a u v o e) unfixed.0) in
      let before = stays (may_before k a u v) (λ e. clash (fixed_before-of k a v u (may_overlap-sym k a u v ∙ o) e) unfixed.1) in
      rw (o, after, before)

-- how many first branches led to the choice, at most: two for each pair before it, and one where overlap is removed already
halfway : Domains → ℕ
halfway k = let c = choice k in cond (may_overlap k c.axis c.u c.v) 0 1

halfway_once : (k : Domains) → halfway k ≤ 1
unfolding halfway
halfway_once k =
    let c = choice k in
    elim (may_overlap k c.axis c.u c.v) as (λ b. cond b 0 1 ≤ 1) [ true ↦ omega arith | false ↦ omega arith ]

undecided_mono : (j k : Domains) → j ⊑ k → (a u v : ℕ) → Implies (undecided j a u v) (undecided k a u v)
unfolding undecided
undecided_mono j k h a u v = search (or_mono, and_mono, may_overlap_mono j k h, may_before_mono j k h) depth 7

module _ (p : Problem) (limited : p.items ≤ 10) (k : Domains) (w : WellFormed k) (f : Fork p k (choice k))
    (j : Domains) (less : j ⊑ k) (g : Fork p j (choice j)) where
  abbrev c : Slot
  c = choice k

  s : Proper 10 c.axis c.u c.v
  s = omega arith

  -- no pair that is passed is chosen: numbers never fall
  rises : choice_number k ≤ choice_number j
  rises = elim (dec_lt (choice_number j) (choice_number k)) [
    | yes l ↦ absurd (clash (passed_mono j k _ less (choice-passed p limited k f) _ l) (not-true _ (choice-first p limited j g).passes))
    | no l ↦ omega arith
  ]

  -- while the choice is of one pair, its axis stays once overlap is removed
  module _ (same : choice_number k ≡ choice_number j) where
    still_open : separated j c.u c.v ≡ false
    unfolding choice
    still_open = rw (sym same) at g.unseparated

    stays_halfway : may_overlap j c.axis c.u c.v ≡ false → halfway j ≡ 1
    unfolding choice halfway
    stays_halfway o =
        let up = axis-least j c.u c.v c.axis f.place.axis (both_orders j c.u c.v still_open c.axis f.place.axis o) in
        let down = axis-least k c.u c.v (choice_axis j c.u c.v) (rw (sym same) at g.place.axis)
        (undecided_mono j k less _ _ _ (rw (sym same) at g.several)) in
        let e : choice_axis j c.u c.v ≡ c.axis = omega arith in
        rw (sym same, e, o)

    spent : (b : Branch) (o : Bool) → may_overlap k c.axis c.u c.v ≡ o → j ⊑ branch_at o b k c.axis c.u c.v
        → firsts (b ∷ []) + cond o 0 1 ≤ halfway j
    unfolding gone without
    spent first true e h =
        omega (
          arith,
          stays_halfway (not-true _
              (gone_mono j (remove_overlap k c.axis c.u c.v) h 0 c.axis c.u c.v (without_gone k 0 w s))),
        )
    spent first false e h =
        let q = gone_mono j (remove_before k c.axis c.v c.u) h 1 c.axis c.v c.u (without_gone k 1 w (proper-sym s)) in
        absurd (clash (fixed_before-of j _ _ _ (fails (may_overlap_mono j k less _ _ _) e) (not-true _ q))
        (unfixed j _ _ still_open c.axis f.place.axis).0)
    spent second true e h = omega arith
    spent second false e h = omega (arith, stays_halfway (fails (may_overlap_mono j k less _ _ _) e))

  -- a first branch takes the choice on: past its pair, or to where overlap is removed
  goes_on : (b : Branch) → j ⊑ branched k b → firsts (b ∷ []) + (2 * choice_number k + halfway k) ≤ 2 * choice_number j + halfway j
  unfolding branched halfway
  goes_on b h = elim (dec_lt (choice_number k) (choice_number j)) [
    | yes l ↦ let one = elim b as (λ b. firsts (b ∷ []) ≤ 1) [ first ↦ omega arith | second ↦ omega arith ] in omega (arith, halfway_once k)
    | no l ↦ let same : choice_number k ≡ choice_number j = omega (arith, rises) in omega (arith, spent same b _ refl h)
  ]

-- so a branch adds at most what the choice goes on by
module _ (p : Problem) (σ : Sound p) where
  fork_at : (path : List Branch) → look p path ≡ fork → Fork p (path_domains p path) (choice (path_domains p path))
  fork_at path e = let (i, c) = look_fork p path e in path_fork p σ path i c

  fork_firsts : (path : List Branch) → Forking (look p) path → look p path ≡ fork
      → firsts path ≤ 2 * choice_number (path_domains p path) + halfway (path_domains p path)
  fork_firsts [] l e = omega arith
  fork_firsts (b ∷ path) (d, l) e =
      let k = path_domains p path in
      let more = elim b as (λ b. firsts (b ∷ path) ≡ firsts (b ∷ []) + firsts path) [ first ↦ omega arith | second ↦ omega arith ] in
      omega (
        arith,
        fork_firsts path l d,
        goes_on p σ.limited k (path_well_formed p path) (fork_at path d) (path_domains p (b ∷ path)) (path_less p b path) (fork_at (b ∷ path) e) b
            (rw (path_branch p b path) (propagate-less p (branched k b))),
      )

  -- a path has at most 90 first branches, and one that is a branching point fewer
  pub fork_firsts_90 : (path : List Branch) → Forking (look p) path → look p path ≡ fork → firsts path < 90
  fork_firsts_90 path l e =
      let k = path_domains p path in
      omega (arith, fork_firsts path l e, halfway_once k, (choice-first p σ.limited k (fork_at path e)).within)

  pub firsts_90 : (path : List Branch) → Forking (look p) path → firsts path ≤ 90
  firsts_90 [] l = omega arith
  firsts_90 (first ∷ path) l = omega (arith, fork_firsts_90 path l.1 l.0)
  firsts_90 (second ∷ path) l = omega (arith, fork_firsts_90 path l.1 l.0)

  -- what the code keeps: the pairs before the last branching pair are passed on both branches
  pub branch_passed : (b : Branch) (path : List Branch) → look p path ≡ fork → Passed (path_domains p (b ∷ path)) (choice_number (path_domains p path))
  branch_passed b path e =
      passed_mono (path_domains p (b ∷ path)) _ _ (path_less p b path) (choice-passed p σ.limited (path_domains p path) (fork_at path e))

-- A look that starts at m finds the choice, or that all is packed
pub first-from : (k : Domains) (m j : ℕ) → Passed k m → j < 45 → pair_separated k j ≡ false
    → ((i : ℕ) → m ≤ i → i < j → pair_separated k i ≡ true) → First 45 (unseparated-pair k) j
first-from k m j r hj e f = record {
  within = hj;
  passes = ap not e;
  earlier = λ i l. let q : pair_separated k i ≡ true = elim (dec_lt i m) [ yes h ↦ r i h | no h ↦ f i (omega arith) l ] in ap not q;
}

pub packed-from : (p : Problem) → p.items ≤ 10 → (k : Domains) (m : ℕ) → Passed k m
    → ((u v : ℕ) → u < v → v < p.items → m ≤ pair_number u v → separated k u v ≡ true) → packed p k ≡ true
unfolding packed
packed-from p limited k m r f =
    all_of p.items (λ v. all_below v (λ u. separated k u v)) (λ v hv. all_of v (λ u. separated k u v) (λ u hu. elim (dec_lt (pair_number u v) m) [
      | yes h ↦ rw (pair-at-number u v hu) at (r (pair_number u v) h)
      | no h ↦ f u v hu hv (omega arith)
    ]))
