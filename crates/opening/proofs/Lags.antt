-- The steps of chains beside their totals: the measures alone, and then the lags, one precedence after another.
use Rattle.std.specs.Prelude.{◌&&◌, ◌∷◌, ◌++◌, ◌≢◌, ◌≡◌, ◌+◌, ◌-◌, ◌*◌, ◌/◌, ◌%◌, ◌≤◌, ◌<◌}
use Rattle.prelude.specs.Names.{Bool, true, false, cond, List, [], map, refl, sym, ◌∙◌, ap, ℕ}
use Rattle.prelude.specs.Names.{max, zero-le, le_refl, ℕ_discrete, dec_lt, arith, eqb, ltb, get_or, set, length, take}
use Rattle.prelude.specs.Names.{add-one, take-suc, length-set, eqb-true, eq-eqb, ltb-true, ltb-false}
use Rattle.model.specs.Problem.{Problem, lag_between, gap, time}
use Rattle.model.specs.Toward.{Direction, between}
use Rattle.model.proofs.Below.{and_intro, and_both, refuted}
use Rattle.model.proofs.Toward.{by_direction}
use Rattle.parts.specs.declared.Precedence.{Precedence}
use Rattle.parts.specs.Sizes.{no_precedence}
use Rattle.instance.specs.Meaning.{precedence_of}
use Rattle.nodes.proofs.Loops.{written}
use Rattle.chains.specs.Totals.{Small, table_start, measure_at, gapped_at, step_at}
use Rattle.chains.proofs.Relaxing.{table_start-is}
use Rattle.opening.specs.Layout.{max_spaced, Measures, put_lag, with_precedences, LaidOut, Stepped, SteppedOut, LagsLaid}
use Rattle.model.specs.Problem as M

cond-zero : (b : Bool) → ◌≡◌ {A = ℕ} (cond b 0 0) 0
cond-zero true = refl
cond-zero false = refl

cond-most : (b : Bool) (x : ℕ) → cond b x 0 ≤ x
cond-most true x = le_refl x
cond-most false x = zero-le

cond-max : (b c : Bool) (x g : ℕ) → cond b (max (cond c x 0) g) 0 ≡ max (cond (b && c) x 0) (cond b g 0)
cond-max true c x g = refl
cond-max false c x g = refl

-- without precedences nothing lies between items
gap-none : (p : Problem) (a u v : ℕ) → gap (with_precedences p []) a u v ≡ 0
unfolding gap
gap-none p a u v = cond-zero (eqb a time)

module _ {t s : List ℕ} (h : Stepped 60 t s) where
  pub measures-kept : Measures t → Measures s
  measures-kept m j = elim (dec_lt j 96) [
    | yes l ↦ rw (h.other j l) (m j)
    | no l ↦ elim (dec_lt j 696) [
      | yes b ↦ let i = (j - 96) / 10 in
          let z = (j - 96) % 10 in
          let e : j ≡ 96 + i * 10 + z = omega arith in
          rw (e, h.rows i z (omega arith) (omega arith)) (m (60 + i % 30 / 10 * 10 + z))
      | no b ↦ rw (h.later j (omega arith)) (m j)
    ]
  ]

  step_is : (x a v z : ℕ) → Direction x → a < 3 → v < 10 → z < 10 → step_at s (table_start x) a v z ≡ measure_at s a z
  step_is x a v z d ha hv hz =
      let i = table_start x + a * 10 + v in
      let axis : i % 30 / 10 ≡ a = omega (arith, table_start-is x d) in
      (rw axis at (h.rows i z (omega (arith, table_start-is x d)) hz)) ∙ sym (h.other (60 + a * 10 + z) (omega arith))

  pub stepped_out : (p : Problem) → Measures t → LaidOut (with_precedences p []) t → SteppedOut (with_precedences p []) s
  stepped_out p m out = record {
    laid = record {
      long = h.long ∙ out.long;
      capacity = λ a ha. h.other (90 + a) (omega arith) ∙ out.capacity a ha;
      size = λ a u ha hu. h.other (60 + a * 10 + u) (omega arith) ∙ out.size a u ha hu;
      alone = λ x a u d ha hu. h.other _ (omega (arith, table_start-is x d)) ∙ out.alone x a u d ha hu ∙ sym (h.other (60 + a * 10 + u) (omega arith));
    };
    small = λ j. omega (arith, measures-kept m j);
    plain = λ a u v ha hu hv e. gap-none p a u v;
    step = λ x a v z d ha hv hz. step_is x a v z d ha hv hz
        ∙ by_direction (λ x. measure_at s a z ≡ between x (with_precedences p []) a v z + measure_at s a z) (omega (arith, gap-none p a z v))
        (omega (arith, gap-none p a v z)) x d;
  }

-- One lag is put: the entries at its two places, and the others
module _ (t : List ℕ) (long : length t ≡ 696) (u v lag : ℕ) (hu : u < 10) (hv : v < 10) where
  abbrev ends : ℕ
  ends = 96 + (20 + u) * 10 + v

  abbrev starts : ℕ
  starts = 96 + (50 + v) * 10 + u

  abbrev onto : ℕ
  onto = get_or t (80 + v) 0 + lag

  abbrev back : ℕ
  back = get_or t (80 + u) 0 + lag

  abbrev after_three : List ℕ
  after_three = set (set (set t ends onto) starts back) 95 1

  -- what holds where the lag is the greatest so far, and where it is not, holds after
  by_greatest : (P : List ℕ → Type 0) → (get_or t ends 0 < onto → P after_three) → (onto ≤ get_or t ends 0 → P t) → P (put_lag t u v lag)
  by_greatest P more less = (elim (ltb (get_or t ends 0) onto) as (λ b. ltb (get_or t ends 0) onto ≡ b → P (cond b after_three t)) [
    | true ↦ λ e. more (ltb-true _ _ e)
    | false ↦ λ e. less (ltb-false _ _ e)
  ]) refl

  pub put_lag-long : length (put_lag t u v lag) ≡ 696
  put_lag-long = by_greatest (λ s. length s ≡ 696) (λ _. simp length-set long) (λ _. long)

  -- three entries are stored
  stored : (P : ℕ → ℕ → Type 0) → P ends onto → P starts back → P 95 1 → ((j : ℕ) → j ≢ ends → j ≢ starts → j ≢ 95 → P j (get_or t j 0)) → (j : ℕ)
      → P j (get_or after_three j 0)
  stored P x y z rest =
      written 0 P (set (set t ends onto) starts back) 95 1 (simp length-set (omega arith)) z
      (λ j. written 0 (λ j w. j ≢ 95 → P j w) (set t ends onto) starts back (simp length-set (omega arith)) (λ _. y)
      (λ j. written 0 (λ j w. j ≢ starts → j ≢ 95 → P j w) t ends onto (omega arith) (λ _ _. x) rest j) j)

  put_lag-other : (j : ℕ) → j ≢ ends → j ≢ starts → j ≢ 95 → get_or (put_lag t u v lag) j 0 ≡ get_or t j 0
  put_lag-other j a b c = by_greatest (λ s. get_or s j 0 ≡ get_or t j 0)
      (λ _. stored (λ i w. i ≡ j → w ≡ get_or t j 0) (λ e. absurd (a (sym e))) (λ e. absurd (b (sym e))) (λ e. absurd (c (sym e))) (λ i _ _ _ e. rw e) j refl)
      (λ _. refl)

  pub put_lag-kept : (j : ℕ) → j < 95 → get_or (put_lag t u v lag) j 0 ≡ get_or t j 0
  put_lag-kept j h = put_lag-other j (λ e. omega arith) (λ e. omega arith) (λ e. omega arith)

  put_lag_ends : get_or (put_lag t u v lag) ends 0 ≡ max onto (get_or t ends 0)
  put_lag_ends = by_greatest (λ s. get_or s ends 0 ≡ max onto (get_or t ends 0))
      (λ l. stored (λ i w. i ≡ ends → w ≡ max onto (get_or t ends 0)) (λ e. omega arith) (λ e. absurd (omega arith)) (λ e. absurd (omega arith))
      (λ i a _ _ e. absurd (a e)) ends refl) (λ l. omega arith)

  -- the same lies between them from either end
  put_lag-starts : get_or t starts 0 + get_or t (80 + v) 0 ≡ get_or t ends 0 + get_or t (80 + u) 0 → get_or (put_lag t u v lag) starts 0 ≡ max back (get_or t starts 0)
  put_lag-starts q = by_greatest (λ s. get_or s starts 0 ≡ max back (get_or t starts 0))
      (λ l. stored (λ i w. i ≡ starts → w ≡ max back (get_or t starts 0)) (λ e. absurd (omega arith)) (λ e. omega arith) (λ e. absurd (omega arith))
      (λ i _ b _ e. absurd (b e)) starts refl) (λ l. omega arith)

  put_lag-flag : get_or (put_lag t u v lag) 95 0 ≡ 0 → (onto ≤ get_or t ends 0) × (get_or t 95 0 ≡ 0)
  put_lag-flag = by_greatest (λ s. get_or s 95 0 ≡ 0 → (onto ≤ get_or t ends 0) × (get_or t 95 0 ≡ 0))
      (λ l e. absurd (stored (λ i w. i ≡ 95 → w ≡ 0 → ⊥) (λ e. absurd (omega arith)) (λ e. absurd (omega arith)) (λ _ e. omega arith)
      (λ i _ _ c e. absurd (c e)) 95 refl e)) (λ l e. (l, e))

  put_lag-small : onto < 32768 → back < 32768 → Small t → Small (put_lag t u v lag)
  put_lag-small x y small = by_greatest Small (λ _. stored (λ i w. w < 32768) x y (omega arith) (λ i _ _ _. small i)) (λ _. small)

-- one precedence more: what lies between its items is no less than its lag
module _ (p : Problem) (o : M.Precedence) (l : List M.Precedence) where
  abbrev before : Problem
  before = with_precedences p l

  abbrev after : Problem
  after = with_precedences p (o ∷ l)

  abbrev own : ℕ → ℕ → ℕ → Bool
  own a y z = eqb a time && (eqb o.predecessor y && eqb o.successor z)

  gap_more : (a y z : ℕ) → gap after a y z ≡ max (cond (own a y z) o.lag 0) (gap before a y z)
  unfolding gap
  gap_more a y z = cond-max (eqb a time) (eqb o.predecessor y && eqb o.successor z) o.lag _

  gap-own : gap after time o.predecessor o.successor ≡ max o.lag (gap before time o.predecessor o.successor)
  gap-own = gap_more time o.predecessor o.successor
      ∙ rw (and_intro (eq-eqb o.predecessor o.predecessor refl) (eq-eqb o.successor o.successor refl)) refl

  gap_other : (a y z : ℕ) → (a ≡ time → o.predecessor ≡ y → o.successor ≡ z → ⊥) → gap after a y z ≡ gap before a y z
  gap_other a y z n =
      let q : own a y z ≡ false = refuted (own a y z) (λ e. let (s, r) = and_both (eqb a time) _ e in
      let (x, y') = and_both (eqb o.predecessor y) (eqb o.successor z) r in n (eqb-true _ _ s) (eqb-true _ _ x) (eqb-true _ _ y')) in
      gap_more a y z ∙ rw q (omega arith)

  module _ (t : List ℕ) (out : SteppedOut before t) (hu : o.predecessor < 10) (hv : o.successor < 10)
      (most-u : measure_at t 2 o.predecessor ≤ max_spaced) (most-v : measure_at t 2 o.successor ≤ max_spaced) (lag : o.lag ≤ 255) where
    abbrev u : ℕ
    u = o.predecessor

    abbrev v : ℕ
    v = o.successor

    abbrev s : List ℕ
    s = put_lag t u v o.lag

    kept : (j : ℕ) → j < 95 → get_or s j 0 ≡ get_or t j 0
    kept = put_lag-kept t out.laid.long u v o.lag hu hv

    ends_is : get_or t (96 + (20 + u) * 10 + v) 0 ≡ gap before 2 u v + measure_at t 2 v
    ends_is = out.step 2 2 u v (omega arith) (omega arith) hu hv

    starts_is : get_or t (96 + (50 + v) * 10 + u) 0 ≡ gap before 2 u v + measure_at t 2 u
    starts_is = out.step 1 2 v u (omega arith) (omega arith) hv hu

    -- the steps, from either end
    ends_step : (a y z : ℕ) → a < 3 → y < 10 → z < 10 → step_at s 0 a y z ≡ gap after a y z + measure_at s a z
    ends_step a y z ha hy hz = elim (ℕ_discrete (a * 100 + y * 10 + z) (200 + u * 10 + v)) [
      | yes q ↦ let same : (a ≡ 2) × (y ≡ u) × (z ≡ v) = omega arith in
          rw (same.0, same.1, same.2) (omega (arith, put_lag_ends t out.laid.long u v o.lag hu hv, ends_is, gap-own, kept (80 + v) (omega arith)))
      | no q ↦ omega (
        arith,
        put_lag-other t out.laid.long u v o.lag hu hv (96 + (0 + a * 10 + y) * 10 + z) (λ e. q (omega arith)) (λ e. omega arith)
            (λ e. omega arith),
        out.step 2 a y z (omega arith) ha hy hz,
        gap_other a y z (λ e f g. q (omega arith)),
        kept (60 + a * 10 + z) (omega arith),
      )
    ]

    starts-step : (a y z : ℕ) → a < 3 → y < 10 → z < 10 → step_at s 30 a y z ≡ gap after a z y + measure_at s a z
    starts-step a y z ha hy hz = elim (ℕ_discrete (a * 100 + y * 10 + z) (200 + v * 10 + u)) [
      | yes q ↦ let same : (a ≡ 2) × (y ≡ v) × (z ≡ u) = omega arith in
          rw (same.0, same.1, same.2) (omega (
            arith,
            put_lag-starts t out.laid.long u v o.lag hu hv (omega (arith, ends_is, starts_is)),
            starts_is,
            gap-own,
            kept (80 + u) (omega arith),
          ))
      | no q ↦ omega (
        arith,
        put_lag-other t out.laid.long u v o.lag hu hv (96 + (30 + a * 10 + y) * 10 + z) (λ e. omega arith) (λ e. q (omega arith))
            (λ e. omega arith),
        out.step 1 a y z (omega arith) ha hy hz,
        gap_other a z y (λ e f g. q (omega arith)),
        kept (60 + a * 10 + z) (omega arith),
      )
    ]

    nothing_between : (a y z : ℕ) → a < 3 → y < 10 → z < 10 → gapped_at s a ≡ 0 → gap after a y z ≡ 0
    nothing_between a y z ha hy hz e = elim (ℕ_discrete a 2) [
      | no q ↦ gap_other a y z (λ t _ _. q t) ∙ out.plain a y z ha hy hz (sym (kept (93 + a) (omega arith)) ∙ e)
      | yes q ↦ let (less, flag) = put_lag-flag t out.laid.long u v o.lag hu hv (rw q at e) in
          let zero : o.lag ≤ 0 = omega (arith, ends_is, out.plain 2 u v (omega arith) hu hv flag) in
          rw q (omega (arith, gap_more 2 y z, out.plain 2 y z (omega arith) hy hz flag, cond-most (own 2 y z) o.lag))
    ]

    pub lag-put : SteppedOut after s
    lag-put = record {
      laid = record {
        long = put_lag-long t out.laid.long u v o.lag hu hv;
        capacity = λ a ha. kept (90 + a) (omega arith) ∙ out.laid.capacity a ha;
        size = λ a w ha hw. kept (60 + a * 10 + w) (omega arith) ∙ out.laid.size a w ha hw;
        alone = λ x a w d ha hw. kept _ (omega (arith, table_start-is x d)) ∙ out.laid.alone x a w d ha hw ∙ sym (kept (60 + a * 10 + w) (omega arith));
      };
      small = put_lag-small t out.laid.long u v o.lag hu hv (omega arith) (omega arith) out.small;
      plain = nothing_between;
      step = λ x a y z d ha hy hz. by_direction (λ x. step_at s (table_start x) a y z ≡ between x after a y z + measure_at s a z)
          (starts-step a y z ha hy hz) (ends_step a y z ha hy hz) x d;
    }

-- The order of precedences makes no difference to what lies between
lag_last : (o : M.Precedence) (l : List M.Precedence) (u v : ℕ) → lag_between (l ++ (o ∷ [])) u v ≡ lag_between (o ∷ l) u v
lag_last o [] u v = refl
lag_last o (x ∷ l) u v = omega (arith, lag_last o l u v)

laid_as : (p : Problem) (l m : List M.Precedence) {t : List ℕ} → ((u v : ℕ) → lag_between l u v ≡ lag_between m u v) → SteppedOut (with_precedences p l) t
    → SteppedOut (with_precedences p m) t
unfolding gap
laid_as p l m {t} same out = record {
  laid = record { long = out.laid.long; capacity = out.laid.capacity; size = out.laid.size; alone = out.laid.alone };
  small = out.small;
  plain = λ a u v ha hu hv e. sym (equal a u v) ∙ out.plain a u v ha hu hv e;
  step = λ x a v z d ha hv hz. out.step x a v z d ha hv hz ∙ ap (λ (g : ℕ). g + measure_at t a z)
      (by_direction (λ x. between x (with_precedences p l) a v z ≡ between x (with_precedences p m) a v z) (equal a z v) (equal a v z) x d);
}
  where
    equal : (a u v : ℕ) → gap (with_precedences p l) a u v ≡ gap (with_precedences p m) a u v
    equal a u v = ap (λ (g : ℕ). cond (eqb a time) g 0) (same u v)

map_last : (os : List Precedence) (o : Precedence) → map precedence_of (os ++ (o ∷ [])) ≡ map precedence_of os ++ (precedence_of o ∷ [])
map_last [] o = refl
map_last (x ∷ os) o = ap (λ (l : List M.Precedence). precedence_of x ∷ l) (map_last os o)

one_more : (os : List Precedence) (i : ℕ) → i < length os
    → map precedence_of (take (i + 1) os) ≡ map precedence_of (take i os) ++ (precedence_of (get_or os i no_precedence) ∷ [])
one_more os i h = rw (add-one, take-suc os i no_precedence h) (map_last (take i os) (get_or os i no_precedence))

-- the lags of the first i precedences are put, and then that of the next
pub lags-next : (os : List Precedence) (i : ℕ) {t s : List ℕ} → i < length os → let o = get_or os i no_precedence in
    o.predecessor < 10 → o.successor < 10 → measure_at s 2 o.predecessor ≤ max_spaced → measure_at s 2 o.successor ≤ max_spaced
    → o.lag ≤ 255 → LagsLaid (take i os) t s
    → LagsLaid (take (i + 1) os) t (put_lag s o.predecessor o.successor o.lag)
lags-next os i {t} {s} more hu hv most-u most-v lag laid p out =
    let o = get_or os i no_precedence in
    let l = map precedence_of (take i os) in
    rw (one_more os i more) (laid_as p (precedence_of o ∷ l) (l ++ (precedence_of o ∷ [])) (λ u v. sym (lag_last (precedence_of o) l u v))
    (lag-put p (precedence_of o) l s (laid p out) hu hv most-u most-v lag))
