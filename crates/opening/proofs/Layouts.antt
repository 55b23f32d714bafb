-- An instance's measures beside the totals of chains, item by item.
use Rattle.std.specs.Prelude.{◌≡◌, ◌≢◌, ◌+◌, ◌*◌, ◌%◌, ◌≤◌, ◌<◌}
use Rattle.prelude.specs.Names.{cond, List, [], refl, sym, ap, ◌∙◌, ℕ, dec_lt, arith, ltb, get_or, set, length}
use Rattle.prelude.specs.Names.{length-set, replicate, lt-ltb, le-ltb}
use Rattle.model.proofs.Below.{below_three}
use Rattle.model.specs.Problem.{Problem, spacing}
use Rattle.model.specs.Wide.{wide}
use Rattle.model.proofs.Toward.{by_direction}
use Rattle.parts.specs.Sizes.{max_measure, no_item}
use Rattle.parts.specs.declared.Item.{Item}
use Rattle.parts.specs.declared.Size.{Size}
use Rattle.instance.specs.declared.Instance.{Instance}
use Rattle.instance.specs.Meaning.{measure_on, problem_of}
use Rattle.nodes.proofs.Loops.{blank_at, written}
use Rattle.chains.specs.Totals.{table, measure_at, capacity_at}
use Rattle.opening.specs.Layout.{with_walkway, put, put_item, max_spaced, Measures, LaidOut}

-- A measure is put at its three places: what holds of it there, and of the other entries, holds of all
put-at : (t : List ℕ) (i m : ℕ) → length t ≡ 696 → i < 30 → (P : ℕ → ℕ → Type 0) → ((j : ℕ) → j < 90 → j % 30 ≡ i → P j m)
    → ((j : ℕ) → (j < 90 → j % 30 ≢ i) → P j (get_or t j 0)) → (j : ℕ) → P j (get_or (put t i m) j 0)
put-at t i m long h P new other =
    written 0 P (set (set t i m) (30 + i) m) (60 + i) m (simp length-set (omega arith)) (new (60 + i) (omega arith) (omega arith)) (λ x.
    written 0 (λ x v. x ≢ 60 + i → P x v) (set t i m) (30 + i) m (simp length-set (omega arith)) (λ _. new (30 + i) (omega arith) (omega arith))
    (λ x. written 0 (λ x v. x ≢ 30 + i → x ≢ 60 + i → P x v) t i m (omega arith) (λ _ _. new i (omega arith) (omega arith))
    (λ x d e f. other x (λ l r. omega arith)) x) x)

-- The measures of an item, likewise
module _ (t : List ℕ) (u : ℕ) (s : Size) (long : length t ≡ 696) (h : u < 10) where
  item_at : (P : ℕ → ℕ → Type 0) → ((a j : ℕ) → a < 3 → j < 90 → j % 30 ≡ a * 10 + u → P j (measure_on a s))
      → ((j : ℕ) → (j < 90 → j % 10 ≢ u) → P j (get_or t j 0)) → (j : ℕ) → P j (get_or (put_item t u s) j 0)
  item_at P new other =
      put-at (put (put t u s.width) (10 + u) s.depth) (20 + u) s.shifts (simp length-set long) (omega arith) P
      (λ j hj e. new 2 j (omega arith) hj (omega arith))
      (λ j. put-at (put t u s.width) (10 + u) s.depth (simp length-set long) (omega arith) (λ j v. (j < 90 → j % 30 ≢ 20 + u) → P j v)
      (λ j hj e _. new 1 j (omega arith) hj (omega arith))
      (λ j. put-at t u s.width long (omega arith) (λ j v. (j < 90 → j % 30 ≢ 10 + u) → (j < 90 → j % 30 ≢ 20 + u) → P j v)
      (λ j hj e _ _. new 0 j (omega arith) hj (omega arith)) (λ j d e f. other j (λ l r. omega (arith, d l, e l, f l))) j) j)

-- the first n items of a list with a walkway, 0 past them, in the container of t₀
abbrev pub first-items : List Item → ℕ → List ℕ → ℕ → Problem
first-items items w t₀ n = record {
  items = 10;
  size = λ a u. cond (ltb u n) (measure_on a (with_walkway w (get_or items u no_item).size)) 0;
  capacity = capacity_at t₀;
  walkway = 0;
  precedences = [];
}

module _ (items : List Item) (w : ℕ) (t₀ t : List ℕ) (u : ℕ) (h : u < 10)
    (out : LaidOut (first-items items w t₀ u) t) where
  abbrev s : Size
  s = with_walkway w (get_or items u no_item).size

  abbrev q : Problem
  q = first-items items w t₀ (u + 1)

  -- in each of the three tables
  next-size : (o a z : ℕ) → (o < 90) × (o % 30 ≡ 0) × (a < 3) × (z < 10) → get_or t (o + a * 10 + z) 0 ≡ measure_at t a z
      → get_or (put_item t u s) (o + a * 10 + z) 0 ≡ q.size a z
  next-size o a z (ho, whole, ha, hz) was =
      item_at t u s out.long h (λ j v. j ≡ o + a * 10 + z → v ≡ q.size a z)
      (λ b j hb hj e is.
      let ea : b ≡ a = omega arith in
      let ez : z ≡ u = omega arith in
      rw (ea, ez, lt-ltb u (u + 1) (omega arith)) refl)
      (λ j d is. rw is (was ∙ (out.size a z ha hz ∙ elim (dec_lt z u) [
        | yes l ↦ rw (lt-ltb z u l, lt-ltb z (u + 1) (omega arith)) refl
        | no l ↦ let far : z ≢ u = λ e. d (omega arith) (omega arith) in
            rw (le-ltb z u (omega arith), le-ltb z (u + 1) (omega arith)) refl
      ]))) (o + a * 10 + z) refl

  pub laid_next : LaidOut q (put_item t u s)
  laid_next = record {
    long = simp length-set out.long;
    capacity = λ a ha. item_at t u s out.long h (λ j v. j ≡ 90 + a → v ≡ capacity_at t₀ a) (λ b j hb hj e is. absurd (omega arith))
        (λ j d is. rw is (out.capacity a ha)) (90 + a) refl;
    size = λ a z ha hz. next-size 60 a z (omega arith) refl;
    alone = λ x a z d ha hz.
        by_direction (λ x. table (put_item t u s) x a z ≡ q.size a z) (next-size 30 a z (omega arith) (out.alone 1 a z (omega arith) ha hz))
        (next-size 0 a z (omega arith) (out.alone 2 a z (omega arith) ha hz)) x d ∙ sym (next-size 60 a z (omega arith) refl);
  }

  pub measures-next : ((a : ℕ) → a < 3 → measure_on a s ≤ max_spaced) → Measures t → Measures (put_item t u s)
  measures-next most m = item_at t u s out.long h (λ j v. v ≤ max_spaced) (λ a j ha hj e. most a ha) (λ j d. m j)

-- the container alone, no items yet
abbrev pub no_items : Size → List ℕ
no_items c = set (set (set (replicate 696 0) 90 c.width) 91 c.depth) 92 c.shifts

module _ (c : Size) where
  no-items_at : (P : ℕ → ℕ → Type 0) → P 90 c.width → P 91 c.depth → P 92 c.shifts → ((j : ℕ) → P j 0) → (j : ℕ) → P j (get_or (no_items c) j 0)
  no-items_at P x y z rest =
      written 0 P (set (set (replicate 696 0) 90 c.width) 91 c.depth) 92 c.shifts (omega arith) z
      (λ j _. written 0 P (set (replicate 696 0) 90 c.width) 91 c.depth (omega arith) y
      (λ j _. written 0 P (replicate 696 0) 90 c.width (omega arith) x (λ j _. rw (blank_at {A = ℕ} 0 696 j) (rest j)) j) j)

  no-items-zero : (j : ℕ) → j < 90 → get_or (no_items c) j 0 ≡ 0
  no-items-zero = no-items_at (λ j v. j < 90 → v ≡ 0) (λ h. absurd (omega arith)) (λ h. absurd (omega arith)) (λ h. absurd (omega arith)) (λ j h. refl)

  pub measures-none : ((a : ℕ) → a < 3 → measure_on a c ≤ max_spaced) → Measures (no_items c)
  measures-none most = no-items_at (λ j v. v ≤ max_spaced) (most 0 (omega arith)) (most 1 (omega arith)) (most 2 (omega arith)) (λ j. omega arith)

  pub laid_none : (items : List Item) (w : ℕ) → LaidOut (first-items items w (no_items c) 0) (no_items c)
  laid_none items w = record {
    long = refl;
    capacity = λ a ha. refl;
    size = λ a u ha hu. no-items-zero (60 + a * 10 + u) (omega arith) ∙ rw (le-ltb u 0 (omega arith)) refl;
    alone = λ x a u d ha hu.
        by_direction (λ x. table (no_items c) x a u ≡ 0) (no-items-zero (30 + a * 10 + u) (omega arith)) (no-items-zero (0 + a * 10 + u) (omega arith)) x d
        ∙ sym (no-items-zero (60 + a * 10 + u) (omega arith));
  }

-- the walkway as the model has it: on x and y, and not on t
module _ (i : Instance) (a : ℕ) (ha : a < 3) (s : Size) where
  pub walkway-on : measure_on a (with_walkway i.walkway s) ≡ measure_on a s + spacing (problem_of i) a
  unfolding problem_of spacing
  walkway-on = below_three (λ a. measure_on a (with_walkway i.walkway s) ≡ measure_on a s + spacing (problem_of i) a) refl refl (omega arith) a ha

  -- so it makes a measure longer by no more than the greatest walkway
  pub walkway-most : i.walkway ≤ 255 → measure_on a s ≤ max_measure → measure_on a (with_walkway i.walkway s) ≤ max_spaced
  walkway-most h = below_three (λ a. measure_on a s ≤ max_measure → measure_on a (with_walkway i.walkway s) ≤ max_spaced)
      (λ l. omega arith) (λ l. omega arith) (λ l. omega arith) a ha

-- all of them
pub laid-all : (i : Instance) (u : ℕ) {t : List ℕ} → u ≡ i.item_count
    → LaidOut (first-items i.items i.walkway (no_items (with_walkway i.walkway i.container)) u) t
    → LaidOut (wide (problem_of i)) t
unfolding problem_of wide
laid-all i u e out = record {
  long = out.long;
  capacity = λ a ha. out.capacity a ha
      ∙ below_three (λ a. capacity_at (no_items (with_walkway i.walkway i.container)) a ≡ measure_on a (with_walkway i.walkway i.container))
      refl refl refl a ha ∙ walkway-on i a ha i.container;
  size = λ a z ha hz. (rw e at (out.size a z ha hz)) ∙ ap (λ m. cond (ltb z i.item_count) m 0) (walkway-on i a ha (get_or i.items z no_item).size);
  alone = out.alone;
}
