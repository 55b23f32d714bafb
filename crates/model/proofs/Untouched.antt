-- Items past those of the problem: propagation removes nothing of them, so that a goal obeys rules 1 to 4 for ten items as well as for its own.
use Rattle.std.specs.Prelude.{◌&&◌, ◌≡◌, ◌≤◌, ◌<◌}
use Rattle.prelude.specs.Names.{true, false, List, refl, sym, ◌∙◌, ℕ, max, dec_lt, arith, not-true}
use Rattle.model.specs.Problem.{Problem}
use Rattle.model.specs.Domains.{Domains, fixed_before}
use Rattle.model.specs.Propagate.{pass, propagate}
use Rattle.model.specs.Branching.{empty, inconsistent}
use Rattle.model.specs.Order.{Proper, WellFormed}
use Rattle.model.specs.Relations.{gone, Filled, Untouched}
use Rattle.model.specs.Facts.{overlaps, removed, forced, Fact, says, Holds}
use Rattle.model.specs.Clauses.{of, Three, Order, c3, d2, d1_far, d1_near, g1, Rule, AllHold, Obeyed, Lawful}
use Rattle.model.specs.Toward.{Goal, Linked}
use Rattle.model.proofs.Below.{and_both, fails}
use Rattle.model.proofs.Facts.{forced_before-is}
use Rattle.model.proofs.Domains.{gone-distinct}
use Rattle.model.proofs.Without.{gone_same}
use Rattle.model.proofs.Clauses.{rest-obeyed}
use Rattle.model.proofs.Consistent.{relation_left, consistent-of}
use Rattle.model.proofs.Pass.{pass-past, pass-well_formed}
use Rattle.model.proofs.Propagate.{propagate-keeps}

-- Of a pair past the problem's a pass leaves all
pub propagate-untouched : (p : Problem) (k : Domains) → WellFormed k → Untouched p.items k → Untouched p.items (propagate p k)
propagate-untouched p k w h =
    (propagate-keeps p (λ j. WellFormed j × Untouched p.items j) (λ j (w, h). (
      pass-well_formed p j w,
      (λ x a u v hx s e.
          elim (dec_lt (max u v) p.items) [
            | yes l ↦ (omega arith, omega arith)
            | no l ↦ h x a u v hx s (sym (gone_same j (pass p j) x a u v (pass-past p j w.long s l)) ∙ e)
          ]),
    )) k (w, h)).1

-- a link is of two items
pub linked_proper : (n x : ℕ) (k : Domains) (a v z : ℕ) → a < 3 → v < n → z < n → Linked x k a v z → Proper n a v z
unfolding says
linked_proper n x k a v z ha hv hz l = omega (arith, gone-distinct k 0 a v z (and_both (gone k 0 a v z) (gone k x a v z) l).0)

-- Of n items, only those below m have lost a relation: rules for n items are rules for m, as every item of a clause is in one of its premises
module _ (n m : ℕ) (k : Domains) (lost : (x a u v : ℕ) → x < 3 → Proper n a u v → gone k x a u v ≡ true → (u < m) × (v < m)) where
  into : (x : ℕ) → x < 3 → {a u v : ℕ} → Proper n a u v → gone k x a u v ≡ true → Proper m a u v
  into x hx {a} {u} {v} s e = let (f, g) = lost x a u v hx s e in omega arith

  overlaps_into : {a u v : ℕ} → Proper n a u v → Holds k (of overlaps a u v) → Proper m a u v
  unfolding says
  overlaps_into {a} {u} {v} s e = into 1 (omega arith) s (and_both (gone k 1 a u v) (gone k 2 a u v) e).0

  forced_into : (x : ℕ) {a u v : ℕ} → Proper n a u v → Holds k (of (forced x) a u v) → Proper m a u v
  unfolding says
  forced_into x {a} {u} {v} s e = into 0 (omega arith) s (and_both (gone k 0 a u v) (gone k x a u v) e).0

  removed_into : (x : ℕ) → Order x → {a u v : ℕ} → Proper n a u v → Holds k (of (removed x) a u v) → Proper m a u v
  unfolding says
  removed_into x o s e = into x (omega (arith, o.most)) s e

  three : {a u v w : ℕ} → Three n a u v w → Proper m a u v → Proper m a v w → Three m a u v w
  three t f g = omega arith

  rule_into : {ps : List Fact} {c : Fact} → Rule n ps c → AllHold k ps → Rule m ps c
  rule_into (c3 a b c u v x s) (f, _) = c3 a b c u v x (overlaps_into s f)
  rule_into (d2 x a u v w o t) (f, (g, _)) = d2 x a u v w o (three t (forced_into x t.uv f) (forced_into x t.vw g))
  rule_into (d1_far x a u v w o t) (f, (g, _)) = d1_far x a u v w o (three t (forced_into x t.uv f) (removed_into x o t.vw g))
  rule_into (d1_near x a u v w o t) (f, (g, _)) = d1_near x a u v w o (three t (removed_into x o t.uv f) (forced_into x t.vw g))
  rule_into (g1 a q r s t x y z) (qr, (rs, (st, (tq, _)))) =
      let (f, g) : Proper m a q r × Proper m a r s = (overlaps_into x.uv qr, overlaps_into x.vw rs) in
      let (h, i) : Proper m a s t × Proper m a t q = (overlaps_into y.uv st, overlaps_into y.vw tq) in
      g1 a q r s t (three x f g) (three y h i) (omega (arith, z.distinct))

  obeyed_into : Obeyed m k → Obeyed n k
  obeyed_into o ps c r hs = o ps c (rule_into r hs) hs

-- what holds for ten items holds for fewer
pub obeyed_fewer : (n : ℕ) → n ≤ 10 → (k : Domains) → Obeyed 10 k → Obeyed n k
obeyed_fewer n h k = obeyed_into n 10 k (λ x a u v hx s e. (omega arith, omega arith))

-- where nothing is removed past n, what is fixed is of items below n
pub fixed_untouched : (n : ℕ) (k : Domains) → Untouched n k → (a u v : ℕ) → a < 3 → u < 10 → v < 10 → fixed_before k a u v ≡ true → Proper n a u v
fixed_untouched n k h a u v ha hu hv e =
    let l = forced_before-is k a u v ∙ e in
    forced_into 10 n k h 2 (linked_proper 10 2 k a u v ha hu hv l) l

-- so a goal is lawful for ten items
pub goal_lawful : (p : Problem) (f : Domains) → Goal p f → Lawful f
goal_lawful p f g = record {
  obeyed = obeyed_into 10 p.items f g.untouched (rest-obeyed p f g.rest);
  filled = λ a u v s. fails {c = false} (none_left a u v s) refl;
}
  where
    none_left : (a u v : ℕ) → Proper 10 a u v → (gone f 0 a u v && (gone f 1 a u v && gone f 2 a u v)) ≡ true → false ≡ true
    none_left a u v s e =
        let (o, r) = and_both (gone f 0 a u v) (gone f 1 a u v && gone f 2 a u v) e in
        let (b, c) = and_both (gone f 1 a u v) (gone f 2 a u v) r in
        let own = into 10 p.items f g.untouched 0 (omega arith) s o in
        unfold gone in absurd (relation_left p f g.consistent a u v own (not-true _ o) (not-true _ b) (not-true _ c))

-- where every pair has something left and every item fits, the domains are consistent
pub filled-consistent : (p : Problem) → p.items ≤ 10 → (k : Domains) → Filled k → ((a u : ℕ) → a < 3 → u < p.items → p.size a u ≤ p.capacity a)
    → inconsistent p k ≡ false
unfolding gone empty
filled-consistent p limited k filled fits = consistent-of p k fits (λ a u v r. filled a u v (omega arith))
