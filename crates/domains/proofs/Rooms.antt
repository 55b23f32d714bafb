-- Room on the queue: the numbers of 135 domains add up to 945 at most, so there is room for all of them where the queue is empty. So a store can be begun
-- with all domains full, and its queue can be emptied at any time.
use Rattle.std.specs.Prelude.{◌∷◌, ◌≡◌, ◌+◌, ◌*◌, ◌≤◌, ◌<◌}
use Rattle.prelude.specs.Names.{List, [], ℕ, zero, suc, refl, sym, ◌∙◌, ℕ_discrete, arith, get_or, length, length-set, get_or-set_same, replicate}
use Rattle.model.specs.Domains.{Domains, full_domains}
use Rattle.model.specs.Propagate.{sum}
use Rattle.model.proofs.Domains.{gone-self}
use Rattle.model.proofs.Admits.{full_left, full_well_formed}
use Rattle.domains.specs.Rows.{Laid}
use Rattle.domains.specs.Queue.{max_queue, queue_end, no_changes, Good}
use Rattle.domains.proofs.BitLaws.{bit-zero}

sum_le : (k : Domains) → ((i : ℕ) → get_or k i 0 < 8) → sum k ≤ 7 * length k
sum_le [] h = omega arith
sum_le (m ∷ k) h = omega (arith, h zero, sum_le k (λ i. h (suc i)))

-- the queue is empty
pub good_start : {k : Domains} {rows q : List ℕ} → Laid k rows → length q ≡ max_queue → queue_end q ≡ 1 → Good k rows q
good_start {k} l h e = record {
  laid = l;
  long = h;
  least = omega arith;
  room = omega (arith, l.well_formed.long, sum_le k l.well_formed.small);
  coded = λ j low high. absurd (omega arith);
}

pub good_emptied : {k : Domains} {rows : List ℕ} (q : List ℕ) → Laid k rows → length q ≡ max_queue → Good k rows (no_changes q)
good_emptied q l h = good_start l (length-set q 0 1 ∙ h) (get_or-set_same q 0 1 0 (omega (arith, h)))

-- A list of one value
pub blank_at : {A : Type 0} (x : A) (n i : ℕ) → get_or (replicate n x) i x ≡ x
blank_at x zero i = refl
blank_at x (suc n) zero = refl
blank_at x (suc n) (suc i) = blank_at x n i

full_laid : Laid full_domains (replicate 30 0)
full_laid = record {
  well_formed = full_well_formed;
  filled = λ a u v s. rw (full_left 0 s);
  mirror = record {
    long = refl;
    small = λ i. rw (blank_at {A = ℕ} 0 30 i) (omega arith);
    is = λ x a u v hx ha hu hv. rw (blank_at {A = ℕ} 0 30 (a * 10 + u), bit-zero (x * 10 + v))
        (sym (elim (ℕ_discrete u v) [
          | yes e ↦ rw (← e) (gone-self full_domains x a u)
          | no d ↦ full_left x (record { axis = ha; item_u = hu; item_v = hv; distinct = d })
        ]));
  };
}

pub full_good : Good full_domains (replicate 30 0) (no_changes (replicate 946 0))
full_good = good_emptied (replicate 946 0) full_laid refl
