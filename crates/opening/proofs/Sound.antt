-- A valid instance is a sound problem.
use Rattle.std.specs.Prelude.{◌&&◌, ◌∷◌, ◌≡◌, ◌≤◌, ◌<◌}
use Rattle.prelude.specs.Names.{true, not, List, [], map, Mem, mem-head, mem-tail, refl, ap, ℕ}
use Rattle.prelude.specs.Names.{arith, length, get_or, get_or-take, length-take-le, leb, leb-true, ltb-true, lt-ltb, eqb-false, ne_eqb, not-true}
use mathlib.Core.List.Memᴰ
use Rattle.model.proofs.Below.{and_both, and_intro, below_three}
use Rattle.model.specs.Admits.{Sound}
use Rattle.model.specs.Order.{Proper}
use Rattle.parts.specs.Precedences.{Arc, arc_of, unlagged, names_items, rises, all_allowed}
use Rattle.parts.specs.Sizes.{max_measure, in_range, size_in_range, no_item}
use Rattle.parts.specs.declared.Precedence.{Precedence}
use Rattle.std.specs.Prelude.{Option, None, Some}
use Rattle.parts.specs.declared.Size.{Size}
use Rattle.instance.specs.Meaning.{measure_on, precedence_of, problem_of}
use Rattle.instance.specs.Valid.{valid, items_of, precedences_of}
use Rattle.instance.specs.declared.Instance.{Instance}
use Rattle.instance.proofs.Ranges.{range_at}
use Rattle.instance.proofs.Sheets.{valid-says}
use Rattle.model.specs.Problem as M

range_measures : (s : Size) → size_in_range s ≡ true → (a : ℕ) → a < 3 → (1 ≤ measure_on a s) × (measure_on a s ≤ max_measure)
unfolding size_in_range in_range
range_measures s h =
    let (w, r) = and_both (in_range s.width) _ h in
    let (d, t) = and_both (in_range s.depth) _ r in
    below_three (λ a. (1 ≤ measure_on a s) × (measure_on a s ≤ max_measure)) (both s.width w) (both s.depth d) (both s.shifts t)
  where
    both : (v : ℕ) → in_range v ≡ true → (1 ≤ v) × (v ≤ max_measure)
    both v h = let (a, b) = and_both (leb 1 v) (leb v max_measure) h in (leb-true _ _ a, leb-true _ _ b)

-- the measures of a valid instance are from 1 to the greatest
module _ (i : Instance) (h : valid i ≡ true) where
  pub container-measures : (a : ℕ) → a < 3 → measure_on a i.container ≤ max_measure
  container-measures a la = (range_measures i.container (valid-says i h).container-in_range a la).1

  pub item-measures : length i.items ≡ 10 → (a u : ℕ) → a < 3 → u < i.item_count
      → let m = measure_on a (get_or i.items u no_item).size in (1 ≤ m) × (m ≤ max_measure)
  item-measures long a u la lu =
      let says = valid-says i h in
      let n = i.item_count in
      let size = range_at (items_of i) says.items_in_range u (rw (length-take-le n i.items (omega (arith, says.items-few))) lu) in
      range_measures _ (rw (get_or-take n i.items u no_item lu) at size) a la

-- a precedence that is allowed names two items
names_proper : (n : ℕ) (o : Arc) → names_items n o ≡ true → Proper n M.time o.predecessor o.successor
unfolding names_items
names_proper n o h =
    let q = and_both _ _ h in
    let r = and_both _ _ q.1 in
    record { axis = omega arith; item_u = ltb-true _ _ q.0; item_v = ltb-true _ _ r.0; distinct = eqb-false _ _ (not-true _ r.1) }

pub allowed-proper : (n : ℕ) {o : Precedence} (last : Option Precedence) {l : List Precedence} → all_allowed n last (map arc_of l) ≡ true → Mem o l
    → Proper n M.time o.predecessor o.successor
unfolding all_allowed
allowed-proper n last h (mem-head {x = x} e) = rw e (names_proper n (arc_of x) (and_both _ _ (and_both _ _ h).0).0)
allowed-proper n last h (mem-tail {x = x} {xs = l} m) =
    let a = arc_of x in
    allowed-proper n (Some (unlagged a)) (and_both (names_items n a && rises last a) (all_allowed n (Some (unlagged a)) (map arc_of l)) h).1 m

-- precedences of n items are precedences of ten
pub allowed-wide : (n : ℕ) → n ≤ 10 → (last : Option Precedence) (l : List Arc) → all_allowed n last l ≡ true → all_allowed 10 last l ≡ true
unfolding all_allowed names_items
allowed-wide n h last [] e = refl
allowed-wide n h last (o ∷ os) e =
    let q = and_both (names_items n o && rises last o) (all_allowed n (Some (unlagged o)) os) e in
    let r = and_both (names_items n o) (rises last o) q.0 in
    let p = names_proper n o r.0 in
    let below = lt-ltb o.successor 10 (omega arith) in
    and_intro (and_intro (and_intro (lt-ltb o.predecessor 10 (omega arith)) (and_intro below (ap not (ne_eqb _ _ p.distinct)))) r.1)
    (allowed-wide n h (Some (unlagged o)) os q.1)

pub valid-sound : (i : Instance) → valid i ≡ true → length i.items ≡ 10 → Sound (problem_of i)
unfolding problem_of
valid-sound i h long = let says = valid-says i h in record {
  limited = says.items-few;
  positive = λ a u la lu. (item-measures i h long a u la lu).0;
  named = λ o m. let (x, mem, e) = Memᴰ.of_map precedence_of (precedences_of i) m in rw (← e) (allowed-proper _ None says.precedences-allowed mem);
}
