-- The faults of some bytes by their places: over bytes s, what a reading from a place on reads, how far, and which faults it meets on the way,
-- if it reads on after each as if there were none. How each combinator puts these together.
use Rattle.std.specs.Prelude.{◌≡◌, ◌||◌, ◌∷◌, ◌⊎◌, ◌↔◌, ◌+◌, ◌≤◌, ◌<◌}
use Rattle.prelude.specs.Names.{refl, sym, ap, ◌∙◌, Bool, true, false, cond, false≢true, List, [], inl, inr, ℕ, zero, suc}
use Rattle.prelude.specs.Names.{min, arith, eq-or-lt_of_le, add-one, eqb, ltb, leb, length, get_or, drop, drop_of_length-le, drop-cons}
use Rattle.prelude.specs.Names.{eqb-true, eq-eqb, ltb-true, lt-ltb, leb-true, le-leb}
use Rattle.refusal.specs.declared.Refusal.{Refusal}
use Rattle.refusal.specs.declared.Refusal.TheVariants.{EndsEarly, UnknownBit, WrittenDefault, BadCount, BadItem, NotRising, TrailingBytes}
use Rattle.refusal.specs.declared.Refusal.TheVariants.{BadArgument, InvalidInstance, NotFollowing, NoLag, TooLarge, BadMark}
use Rattle.refusal.specs.Numbers.{place_of}
use Rattle.formats.specs.Reading.{Reading, done, due, end, ◌>>=◌, Read, got, refused, run, Before}
use Rattle.formats.specs.Formats.{up_to, Format, byte, Test, testing, tested, row_reading, count, whole}
use Rattle.formats.specs.Fields.{maps, map_byte}
use Rattle.formats.proofs.Run.{Next, after, run-then, never_both}
use Rattle.formats.proofs.Laws.{untested}

or_exactly : (a b : Bool) {A B : Type 0} → ((a ≡ true) ↔ A) → ((b ≡ true) ↔ B) → ((a || b) ≡ true) ↔ (A ⊎ B)
or_exactly true b p q = (λ _. inl (p.0 refl), λ _. refl)
or_exactly false b p q = (λ h. inr (q.0 h), elim [ inl x ↦ absurd (false≢true (p.1 x)) | inr y ↦ q.1 y ])

pub length-up_to : {A : Type 0} (n : ℕ) (x : ℕ → A) → length (up_to n x) ≡ n
length-up_to zero x = refl
length-up_to (suc n) x = ap suc (length-up_to n (λ k. x (suc k)))

pub getD_up_to : {A : Type 0} (n : ℕ) (x : ℕ → A) (k : ℕ) (d : A) → k < n → get_or (up_to n x) k d ≡ x k
getD_up_to zero x k d l = absurd (omega arith)
getD_up_to (suc n) x zero d l = refl
getD_up_to (suc n) x (suc k) d l = getD_up_to n (λ j. x (suc j)) k d (omega arith)

-- f is e, or is met after it
abbrev From : Refusal → Refusal → Type 0
From e f = (f ≡ e) ⊎ Before e f

from_both : {e f : Refusal} → From e f → From f e → e ≡ f
from_both (inl q) h = sym q
from_both (inr b) (inl q) = q
from_both (inr (inl l)) (inr b) = absurd (elim b [ inl m ↦ omega arith | inr (q, _) ↦ omega arith ])
from_both (inr (inr (q, l))) (inr b) = absurd (elim b [ inl m ↦ omega arith | inr (_, m) ↦ omega arith ])

-- 11 is the first of its place
no_lag-first : (f : Refusal) → From (NoLag (place_of f)) f
no_lag-first (EndsEarly p) = inr (inr (refl, omega arith))
no_lag-first (UnknownBit p) = inr (inr (refl, omega arith))
no_lag-first (WrittenDefault p) = inr (inr (refl, omega arith))
no_lag-first (BadCount p) = inr (inr (refl, omega arith))
no_lag-first (BadItem p) = inr (inr (refl, omega arith))
no_lag-first (NotRising p) = inr (inr (refl, omega arith))
no_lag-first (TrailingBytes p) = inr (inr (refl, omega arith))
no_lag-first BadArgument = inr (inr (refl, omega arith))
no_lag-first InvalidInstance = inr (inr (refl, omega arith))
no_lag-first NotFollowing = inr (inr (refl, omega arith))
no_lag-first (NoLag p) = inl refl
no_lag-first (TooLarge p) = inr (inr (refl, omega arith))
no_lag-first BadMark = inr (inr (refl, omega arith))

-- 12 is "after 3"
pub default-before_large : (at : ℕ) → Before (WrittenDefault at) (TooLarge at)
default-before_large at = inr (refl, omega arith)

from-no_lag : (at : ℕ) (f : Refusal) → at ≤ place_of f → From (NoLag at) f
from-no_lag at f l = elim (eq-or-lt_of_le l) [ inl q ↦ rw q (no_lag-first f) | inr h ↦ inr (inl h) ]

module _ (s : List ℕ) where
  -- of the faults M the first is given; where there is none, x was read, and s is left from `stop` on
  pub data Gives {A : Type 0} (x : A) (stop : ℕ) (M : Refusal → Type 0) : Read A → Type 0 where
    reads : stop ≤ length s → ((e : Refusal) → M e → ⊥) → Gives x stop M (got x stop (drop stop s))
    refuses : (e : Refusal) → M e → ((f : Refusal) → M f → From e f) → Gives x stop M (refused e)

  module _ {A : Type 0} {x : A} {stop : ℕ} {M : Refusal → Type 0} where
    pub gives_as : {N : Refusal → Type 0} {z : Read A} → Gives x stop M z → ((e : Refusal) → M e ↔ N e) → Gives x stop N z
    gives_as (reads l none) h = reads l (λ e n. none e ((h e).1 n))
    gives_as (refuses e m first) h = refuses e ((h e).0 m) (λ f n. first f ((h f).1 n))

    -- a refusal that is given is the first fault, and the first fault is given
    pub first-given : {z : Read A} → Gives x stop M z → (e : Refusal) → (z ≡ refused e) ↔ (M e × ((f : Refusal) → M f → From e f))
    first-given (reads l none) e = (λ h. absurd (never_both (sym h)), λ (m, _). absurd (none e m))
    first-given (refuses d m first) e =
        (λ h. let q : d ≡ e = cc in rw (← q) (m, first), λ (n, before). ap refused (from_both (first e n) (before d m)))

    -- a value is given where there is no fault, and only there
    pub none-given : {z : Read A} → Gives x stop M z → ((e : Refusal) → M e → ⊥) → z ≡ got x stop (drop stop s)
    none-given (reads l none) h = refl
    none-given (refuses e m first) h = absurd (h e m)

    pub given-none : {z : Read A} → Gives x stop M z → {y : A} {p : ℕ} {rest : List ℕ} → z ≡ got y p rest → (e : Refusal) → M e → ⊥
    given-none (reads l none) h = none
    given-none (refuses e m first) h = absurd (never_both h)

  -- one after the other, where every fault of the second is met after those of the first
  gives_then : {A B : Type 0} {x : A} {mid : ℕ} {y : B} {stop : ℕ} {M N : Refusal → Type 0} {z : Read A} (next : Next A B)
      → Gives x mid M z → (mid ≤ length s → Gives y stop N (next x mid (drop mid s))) → ((e f : Refusal) → M e → N f → From e f)
      → Gives y stop (λ e. M e ⊎ N e) (after z next)
  gives_then next (reads l none) h across = gives_as (h l) (λ e. (inr, elim [ inl m ↦ absurd (none e m) | inr n ↦ n ]))
  gives_then next (refuses e m first) h across = refuses e (inl m) (λ f. elim [ inl n ↦ first f n | inr n ↦ across e f m n ])

  -- the faults W, and 1 where s ends before `stop`
  abbrev pub OrEarly : (Refusal → Type 0) → ℕ → Refusal → Type 0
  OrEarly W stop e = W e ⊎ ((length s < stop) × (e ≡ EndsEarly (length s)))

  -- a fault of a part from `at` up to `stop`: at one of its bytes that is there, or 11, which may be after them: an empty field of lags gets it
  abbrev pub Inside : ℕ → ℕ → Refusal → Type 0
  Inside at stop e =
      let last = min stop (length s) in
      (at ≤ place_of e) × (place_of e ≤ last) × ((place_of e < last) ⊎ (e ≡ NoLag (place_of e)))

  -- it is met before what is after the part
  inside-first : {at : ℕ} (stop : ℕ) {e : Refusal} → Inside at stop e → (f : Refusal) → min stop (length s) ≤ place_of f → From e f
  inside-first stop (a, b, inl h) f l = inr (inl (omega arith))
  inside-first stop (a, b, inr q) f l = rw q (from-no_lag _ f (omega arith))

  -- a part's first byte is inside, and its place for 11 even where the part is empty
  pub first-inside : {at stop : ℕ} {e : Refusal} → place_of e ≡ at → at < stop → stop ≤ length s → Inside at stop e
  first-inside q h l = (omega arith, omega arith, inl (omega arith))

  pub no_lag-inside : {at stop : ℕ} → at ≤ stop → stop ≤ length s → Inside at stop (NoLag at)
  no_lag-inside h l = (omega arith, omega arith, inr refl)

  -- r reads x from `at` up to `stop`, and meets the faults W there
  pub record Spans {A : Type 0} (r : Reading A) (at : ℕ) (x : A) (stop : ℕ) (W : Refusal → Type 0) : Type 0 where
    pub onward : at ≤ stop
    pub within : (e : Refusal) → W e → Inside at stop e
    pub gives : at ≤ length s → Gives x stop (OrEarly W stop) (run r at (drop at s))

  module _ {A : Type 0} {at : ℕ} {x : A} {stop : ℕ} {W : Refusal → Type 0} where
    pub spans_as : {r : Reading A} {U : Refusal → Type 0} → Spans r at x stop W → ((e : Refusal) → W e ↔ U e) → Spans r at x stop U
    spans_as σ h = record {
      onward = σ.onward;
      within = λ e u. σ.within e ((h e).1 u);
      gives = λ l. gives_as (σ.gives l) (λ e. (elim [ inl w ↦ inl ((h e).0 w) | inr q ↦ inr q ], elim [ inl u ↦ inl ((h e).1 u) | inr q ↦ inr q ]));
    }

    pub spans_due : {next : ℕ → Reading A} → Spans (next (get_or s at 0)) (at + 1) x stop W → Spans (due next) at x stop W
    unfolding run
    spans_due {next} σ = record {
      onward = omega arith;
      within = λ e w. let (a, b, c) = σ.within e w in (omega arith, b, c);
      gives = λ l. elim (eq-or-lt_of_le l) [
        | inl q ↦ rw (drop_of_length-le s {i = at} (omega arith), q) (refuses (EndsEarly (length s)) (inr (omega arith, refl))
            (λ f. elim [ inl w ↦ absurd (omega (arith, σ.within f w)) | inr (_, p) ↦ inl p ]))
        | inr h ↦ rw (drop-cons s at 0, ← (add-one at)) (σ.gives (omega arith))
      ];
    }

  pub spans_done : {A : Type 0} (x : A) (at : ℕ) → Spans (done x) at x at (λ e. ⊥)
  unfolding run
  spans_done x at = record {
    onward = omega arith;
    within = λ e w. absurd w;
    gives = λ l. reads l (λ e. elim [ inl w ↦ w | inr (m, q) ↦ omega arith ]);
  }

  pub spans_byte : (at : ℕ) → Spans byte.reading at (get_or s at 0) (at + 1) (λ e. ⊥)
  unfolding byte
  spans_byte at = spans_due (spans_done (get_or s at 0) (at + 1))

  pub spans_two_bytes : {A : Type 0} (make : ℕ → ℕ → A) (at : ℕ)
      → Spans (due (λ a. due (λ b. done (make a b)))) at (make (get_or s at 0) (get_or s (at + 1) 0)) (at + 2) (λ e. ⊥)
  spans_two_bytes make at =
      let p : at + 2 ≡ at + 1 + 1 = omega arith in
      rw p (spans_due (spans_due (spans_done (make (get_or s at 0) (get_or s (at + 1) 0)) (at + 1 + 1))))

  -- one after the other
  module _ {A B : Type 0} {at : ℕ} {x : A} {mid : ℕ} {y : B} {stop : ℕ} {U W : Refusal → Type 0} where
    pub spans_then : (r : Reading A) (k : A → Reading B) → Spans r at x mid U → Spans (k x) mid y stop W → Spans (r >>= k) at y stop (λ e. U e ⊎ W e)
    spans_then r k σ τ = record {
      onward = omega arith;
      within = λ e. elim [
        | inl u ↦ let (a, b, c) = σ.within e u in (a, omega arith, elim c [ inl h ↦ inl (omega arith) | inr q ↦ inr q ])
        | inr w ↦ let (a, b, c) = τ.within e w in (omega arith, b, c)
      ];
      gives = λ l. rw run-then (gives_as (gives_then _ (σ.gives l) τ.gives across) (λ e. (
        elim [ inl (inl u) ↦ inl (inl u) | inl (inr (m, q)) ↦ inr (omega arith, q) | inr (inl w) ↦ inl (inr w) | inr (inr q) ↦ inr q ],
        elim [ inl (inl u) ↦ inl (inl u) | inl (inr w) ↦ inr (inl w) | inr q ↦ inr (inr q) ],
      )));
    }
      where
        across : (e f : Refusal) → OrEarly U mid e → OrEarly W stop f → From e f
        across e f (inl u) (inl w) = inside-first mid (σ.within e u) f (omega (arith, τ.within f w))
        across e f (inl u) (inr (_, q)) = inside-first mid (σ.within e u) f (rw q (omega arith))
        across e f (inr (l, _)) (inl w) = absurd (omega (arith, τ.within f w))
        across e f (inr (_, p)) (inr (_, q)) = inl (q ∙ sym p)

  -- where the test c, of a condition C, is a fault, that is refused
  gives_test : {A : Type 0} {x : A} {stop : ℕ} (c : Bool) {C : Type 0} {e : Refusal} {M : Refusal → Type 0} {z : Read A} → ((c ≡ true) ↔ C)
      → ((f : Refusal) → M f → Before e f) → Gives x stop M z → Gives x stop (λ f. (C × (f ≡ e)) ⊎ M f) (cond c (refused e) z)
  gives_test true {e = e} t h g = refuses e (inl (t.0 refl, refl)) (λ f. elim [ inl (_, q) ↦ inl q | inr m ↦ inr (h f m) ])
  gives_test false t h g = gives_as g (λ f. (inr, elim [ inl (c, _) ↦ absurd (false≢true (t.1 c)) | inr m ↦ m ]))

  module _ {A : Type 0} (f : Format A) {at : ℕ} {x : A} {stop : ℕ} where
    -- a value with no fault of its own is tested, at its place
    spans_tested : (tests : A → List Test) {M : Refusal → Type 0} → ((e : Refusal) → M e → stop ≤ length s → Inside at stop e)
        → (stop ≤ length s → Gives x stop M (run (testing (tests x) at x) stop (drop stop s)))
        → Spans f.reading at x stop (λ e. ⊥) → Spans (tested f tests).reading at x stop (λ e. (stop ≤ length s) × M e)
    unfolding tested run
    spans_tested tests {M} placed g σ = record {
      onward = σ.onward;
      within = λ e (l, m). placed e m l;
      gives = λ l. rw run-then (gives_as
          (gives_then {N = λ e. (stop ≤ length s) × M e} _ (σ.gives l) (λ m. gives_as (g m) (λ e. (λ n. (m, n), λ (_, n). n)))
          (λ e f. elim [ inl w ↦ absurd w | inr (m, _) ↦ λ (n, _). absurd (omega arith) ]))
          (λ e. (elim [ inl (inl w) ↦ absurd w | inl (inr q) ↦ inr q | inr m ↦ inl m ], elim [ inl m ↦ inr m | inr q ↦ inl (inr q) ])));
    }

    pub spans_one_test : (fault : A → Bool) (refusal : ℕ → Refusal) {C : Type 0} → (stop ≤ length s → Inside at stop (refusal at)) → ((fault x ≡ true) ↔ C)
        → Spans f.reading at x stop (λ e. ⊥)
        → Spans (tested f (λ y. record { fault = fault y; refusal = refusal } ∷ [])).reading at x stop
        (λ e. (stop ≤ length s) × C × (e ≡ refusal at))
    unfolding testing run
    spans_one_test fault refusal placed c σ = spans_as
        (spans_tested _ (λ e. elim [ inl (_, q) ↦ rw q placed | inr w ↦ absurd w ])
        (λ l. gives_test (fault x) c (λ f w. absurd w) (reads l (λ e w. w))) σ)
        (λ e. (λ (l, w). elim w [ inl (t, q) ↦ (l, t, q) | inr w ↦ absurd w ], λ (l, t, q). (l, inl (t, q))))

    -- two tests, both at the value's place, the first one's number before the second's
    pub spans_two_tests : (fault₁ fault₂ : A → Bool) (refusal₁ refusal₂ : ℕ → Refusal) {C D : Type 0} → (stop ≤ length s → Inside at stop (refusal₁ at))
        → (stop ≤ length s → Inside at stop (refusal₂ at)) → Before (refusal₁ at) (refusal₂ at) → ((fault₁ x ≡ true) ↔ C) → ((fault₂ x ≡ true) ↔ D)
        → Spans f.reading at x stop (λ e. ⊥)
        → Spans (tested f (λ y. record { fault = fault₁ y; refusal = refusal₁ } ∷ record { fault = fault₂ y; refusal = refusal₂ } ∷ [])).reading at x stop
        (λ e. (stop ≤ length s) × ((C × (e ≡ refusal₁ at)) ⊎ (D × (e ≡ refusal₂ at))))
    unfolding testing run
    spans_two_tests fault₁ fault₂ refusal₁ refusal₂ placed₁ placed₂ before c d σ = spans_as
        (spans_tested _ (λ e. elim [ inl (_, q) ↦ rw q placed₁ | inr (inl (_, q)) ↦ rw q placed₂ | inr (inr w) ↦ absurd w ])
        (λ l. gives_test (fault₁ x) c (λ g. elim [ inl (_, q) ↦ rw q before | inr w ↦ absurd w ])
        (gives_test (fault₂ x) d (λ g w. absurd w) (reads l (λ e w. w)))) σ)
        (λ e. (
          λ (l, w). (l, elim w [ inl a ↦ inl a | inr (inl b) ↦ inr b | inr (inr w) ↦ absurd w ]),
          λ (l, w). (l, elim w [ inl a ↦ inl a | inr b ↦ inr (inl b) ]),
        ))

    pub spans_untested : {W : Refusal → Type 0} → Spans f.reading at x stop W → Spans (tested f (λ _. [])).reading at x stop W
    spans_untested σ = record { onward = σ.onward; within = σ.within; gives = λ l. rw untested (σ.gives l) }

  -- 2 at a map byte of n bits
  abbrev pub Unknown : ℕ → ℕ → Refusal → Type 0
  Unknown n at e = (at + 1 ≤ length s) × (maps n ≤ get_or s at 0) × (e ≡ UnknownBit at)

  pub spans_map : (n at : ℕ) → Spans (map_byte n).reading at (get_or s at 0) (at + 1) (Unknown n at)
  unfolding map_byte
  spans_map n at = spans_one_test byte (λ map. leb (maps n) map) UnknownBit (first-inside refl (omega arith)) (leb-true _ _, le-leb _ _) (spans_byte at)

  -- 4 at a count
  abbrev pub Miscounted : ℕ → ℕ → Refusal → Type 0
  Miscounted limit at e = (at + 1 ≤ length s) × ((get_or s at 0 ≡ 0) ⊎ (limit < get_or s at 0)) × (e ≡ BadCount at)

  pub spans_count : (limit at : ℕ) → Spans (count limit).reading at (get_or s at 0) (at + 1) (Miscounted limit at)
  unfolding count
  spans_count limit at =
      let n = get_or s at 0 in
      spans_one_test byte (λ n. eqb n 0 || ltb limit n) BadCount (first-inside refl (omega arith))
      (or_exactly (eqb n 0) (ltb limit n) (eqb-true n 0, eq-eqb n 0) (ltb-true limit n, lt-ltb limit n)) (spans_byte at)

  -- the parts of a row: part k is at its place, after a state that is known
  pub record Parts {P A : Type 0} (part : Format A) (tests : P → A → List Test) (next : P → A → P)
      (state : ℕ → P) (place : ℕ → ℕ) (x : ℕ → A) (W : ℕ → Refusal → Type 0) : Type 0 where
    pub known : (k : ℕ) → next (state k) (x k) ≡ state (suc k)
    pub each : (k : ℕ) → Spans (tested part (tests (state k))).reading (place k) (x k) (place (suc k)) (W k)

  module _ {P A : Type 0} {part : Format A} {tests : P → A → List Test} {next : P → A → P} where
    pub spans_row : {state : ℕ → P} {place : ℕ → ℕ} {x : ℕ → A} {W : ℕ → Refusal → Type 0} (n : ℕ) → Parts part tests next state place x W
        → Spans (row_reading part tests next (state 0) n) (place 0) (up_to n x) (place n) (λ e. (k : ℕ) × (k < n) × W k e)
    unfolding row_reading
    spans_row {place = place} zero π = spans_as (spans_done [] (place 0)) (λ e. (λ w. absurd w, λ (k, l, w). omega arith))
    spans_row {state = state} {place = place} {x = x} {W = W} (suc n) π =
        let τ = spans_row {state = λ k. state (suc k)} n (record { known = λ k. π.known (suc k); each = λ k. π.each (suc k) }) in
        spans_as (spans_then _ _ (π.each 0) (spans_then _ _ (rw (← (π.known 0)) at τ) (spans_done (up_to (suc n) x) (place (suc n))))) (λ e. (
          elim [ inl w ↦ (0, omega arith, w) | inr (inl (k, l, w)) ↦ (suc k, omega arith, w) | inr (inr w) ↦ absurd w ],
          λ (k, l, w). (elim k as (λ k. k < suc n → W k e → W 0 e ⊎ (((i : ℕ) × (i < n) × W (suc i) e) ⊎ ⊥)) [ zero ↦ λ l w. inl w | suc k ↦ λ l w. inr (inl (k, omega arith, w)) ]) l w,
        ))

  -- the whole input: 7 where bytes are left
  module _ {A : Type 0} (f : Format A) {x : A} {stop : ℕ} {W : Refusal → Type 0} (σ : Spans f.reading 0 x stop W) where
    abbrev Trailing : Refusal → Type 0
    Trailing e = (stop < length s) × (e ≡ TrailingBytes stop)

    abbrev pub OrTrailing : Refusal → Type 0
    OrTrailing e = OrEarly W stop e ⊎ Trailing e

    pub gives_whole : Gives x stop OrTrailing (run (whole f) 0 s)
    unfolding whole run
    gives_whole = rw run-then (gives_then _ (σ.gives (omega arith)) (λ l. elim (eq-or-lt_of_le l) [ inl q ↦ over q | inr h ↦ left h ]) (λ e f. elim [
      | inl w ↦ λ (l, q). inside-first stop (σ.within e w) f (rw q (omega arith))
      | inr (m, _) ↦ λ (l, q). absurd (omega arith)
    ]))
      where
        over : stop ≡ length s → Gives x stop Trailing (run (end (done x)) stop (drop stop s))
        over q =
            let none = drop_of_length-le s {i = stop} (omega arith) in
            let g : Gives x stop Trailing (got x stop (drop stop s)) = reads (omega arith) (λ e (h, _). omega arith) in
            rw none (rw none at g)

        left : stop < length s → Gives x stop Trailing (run (end (done x)) stop (drop stop s))
        left h = rw (drop-cons s stop 0) (refuses (TrailingBytes stop) (h, refl) (λ f (_, q). inl q))
