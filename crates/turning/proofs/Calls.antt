-- What closures answer that are called at each of some numbers or items.
use Rattle.std.specs.Prelude.{◌≡◌, ◌+◌, ◌≤◌, ◌<◌, Option}
use Rattle.prelude.specs.Names.{Bool, true, false, List, ap, sym, ◌∙◌, zero-add, ℕ, zero, suc, arith, length, get_or, ext_get_or, ℕ_discrete}
use Rattle.std.specs.Array.{IsFromFnResultFrom, IsFromFnResult}
use Rattle.std.specs.Bool.{MatchBool}
use Rattle.std.specs.Iterator.{YieldsThen}
use Rattle.std.specs.List.{AllWithin, HoldsAt, FoldsTo, range_with_len}
use Rattle.std.specs.Option.{MatchOption}
use Rattle.std.proofs.iter.Yields.{nat_range_steps}
use Rattle.std.proofs.lemmas.Iterator.{YieldsList-from_range, cases_from_all}
use Rattle.std.proofs.lemmas.List.FromFn.{length-range_with_len, get_or-range_with_len}
use Rattle.std.specs.declared.ops.Range.{Range}
use denote.Param.Members.{Mut, Called}
use Rattle.model.specs.Below.{all_below, some_below}
use Rattle.model.proofs.Below.{all-at, all_of, fails, some_of, none_of}
use Rattle.turning.specs.Turned.{each_of_ten}
use Rattle.turning.proofs.Ten.{each_at, each-length}

-- what `all` answers of the first n items, by a test of each
pub all_answer : {X : Type 0} (test : X → Bool) (f : ℕ → Bool) (n : ℕ) (xs : List X) (d : X) (r : Bool)
    → MatchBool r (AllWithin (λ x. test x ≡ true) xs 0 (length xs)) ((k : ℕ) × (k < length xs) × HoldsAt (λ x. test x ≡ false) xs k)
    → length xs ≡ n → ((k : ℕ) → k < n → test (get_or xs k d) ≡ f k) → r ≡ all_below n f
all_answer test f n xs d true h l e = sym (all_of n f (λ k m. sym (e k m) ∙ h k d (omega arith) (omega arith)))
all_answer test f n xs d false (k, m, h) l e = sym (fails (λ g. all-at n f g k (omega arith)) (sym (e k (omega arith)) ∙ h d))

-- what `any` answers of them
pub any_answer : {X : Type 0} (test : X → Bool) (f : ℕ → Bool) (n : ℕ) (xs : List X) (d : X) (r : Bool)
    → MatchBool r ((k : ℕ) × (k < length xs) × HoldsAt (λ x. test x ≡ true) xs k) (AllWithin (λ x. test x ≡ false) xs 0 (length xs))
    → length xs ≡ n → ((k : ℕ) → k < n → test (get_or xs k d) ≡ f k) → r ≡ some_below n f
any_answer test f n xs d true (k, m, h) l e = sym (some_of n f k (omega arith) (sym (e k (omega arith)) ∙ h d))
any_answer test f n xs d false h l e = sym (none_of n f (λ k m. sym (e k m) ∙ h k d (omega arith) (omega arith)))

-- what `all` answers of the numbers below n, where the closure answers f and stays as it was
pub all_range : {F : Type 0} (g : Mut F (ℕ × Unit {0}) Bool) (f : ℕ → Bool) (n : ℕ) (s u : Range ℕ) (c : F) (r : Bool)
    → s ≡ record { start = 0; end = n }
    → ((x : ℕ) (b : Bool) (q : F) → Called g c (x, tt) b q → (q ≡ c) × (b ≡ f x))
    → (xs : List ℕ) × (o : Option ℕ) × (j : F) × YieldsThen nat_range_steps s xs o u × FoldsTo (λ p x q. Called g p (x, tt) true q) c xs j
    × MatchOption o (r ≡ true) (λ x. (r ≡ false) × ((h : F) × Called g j (x, tt) false h))
    → r ≡ all_below n f
all_range g f n s u c r e calls ran =
    all_answer f f n (range_with_len 0 n) 0 r
    (cases_from_all {g = g} u c r (λ x. f x ≡ true) (λ x. f x ≡ false) ran (YieldsList-from_range 0 n n e (omega arith))
    (λ x q k. let (stays, b) = calls x true q k in (stays, sym b)) (λ x q k. sym (calls x false q k).1)) (length-range_with_len 0 n) (λ k l.
    ap f (get_or-range_with_len 0 n k 0 l ∙ zero-add k))

-- what `from_fn` makes, where the closure gives f at each number and stays as it was
module _ {F X : Type 0} (g : Mut F (ℕ × Unit {0}) X) (c : F) (f : ℕ → X) (ys : List X) (d : X) where
  made-at : (i n : ℕ) → ((k : ℕ) (y : X) (q : F) → k < i + n → Called g c (k, tt) y q → (y ≡ f k) × (q ≡ c))
      → IsFromFnResultFrom g c ys i n → (k : ℕ) → i ≤ k → k < i + n → get_or ys k d ≡ f k
  made-at i zero calls r k l m = absurd (omega arith)
  made-at i (suc n) calls (q, y, e, h, r) k l m =
      let (here, stays) = calls i y q (omega arith) h in
      elim (ℕ_discrete k i) [
        | yes s ↦ rw s (e.1 d ∙ here)
        | no z ↦ made-at (i + 1) n (λ k y q l. calls k y q (omega arith)) (rw stays at r) k (omega arith) (omega arith)
      ]

  pub made_ten : ((k : ℕ) (y : X) (q : F) → k < 10 → Called g c (k, tt) y q → (y ≡ f k) × (q ≡ c)) → IsFromFnResult g c ys 10 → ys ≡ each_of_ten f
  made_ten calls r = ext_get_or d ys (each_of_ten f) (r.long ∙ sym (each-length f)) (λ k l.
      let m : k < 10 = omega (arith, r.long) in made-at 0 10 calls r.each k (omega arith) m ∙ sym (each_at f k d m))
