-- One relation is removed, of a pair that has another left; the rows say so too, and the pair goes on the queue.
use Rattle.std.specs.Prelude.{◌&&◌, ◌⊎◌, ◌≢◌, ◌≡◌, ◌+◌, ◌/◌, ◌%◌, ◌≤◌, ◌<◌}
use Rattle.prelude.specs.Names.{false, and-false, List, inl, inr, ⊎_map, sym, ◌∙◌, ℕ, ℕ_discrete}
use Rattle.prelude.specs.Names.{le_refl, arith, get_or, length, set, length-set, get_or-set_same, get_or-set_other}
use Rattle.model.proofs.Below.{below_three}
use Rattle.model.specs.Domains.{Domains}
use Rattle.model.specs.Propagate.{sum}
use Rattle.model.specs.Order.{Proper, WellFormed}
use Rattle.model.specs.Relations.{gone, without, converse, Filled}
use Rattle.model.specs.Facts.{Saying, nothing, says}
use Rattle.model.proofs.Facts.{converse-small, gone-converse}
use Rattle.model.proofs.Without.{without-less, without-above, without-well_formed, without_gone, without_other, says_elsewhere, sum_falls}
use Rattle.domains.specs.Queue.{max_queue, pair_code, SamePair, Coded, queue_end, pushed, Good}
use Rattle.domains.specs.Narrowed.{RemovedOnly, One, Spare}
use Rattle.domains.proofs.Mirror.{marked, mirror_one, same_relation}

coded : {a u v : ℕ} → Proper 10 a u v → Coded (pair_code a u v)
coded {a} {u} {v} w =
    let e : pair_code a u v / 16 % 16 ≡ u = omega arith in
    let f : pair_code a u v % 16 ≡ v = omega arith in
    omega arith

-- what stands on the queue with one more
module _ (q : List ℕ) (x : ℕ) (h : queue_end q < length q) where
  push_end : queue_end (pushed q x) ≡ queue_end q + 1
  push_end = get_or-set_same (set q (queue_end q) x) 0 (queue_end q + 1) 0 (rw length-set (omega arith))

  push_old : (i : ℕ) → 1 ≤ i → i ≢ queue_end q → get_or (pushed q x) i 0 ≡ get_or q i 0
  push_old i l d = get_or-set_other (set q (queue_end q) x) 0 i (queue_end q + 1) 0 (omega arith) ∙ get_or-set_other q (queue_end q) i x 0 d

  push_new : 1 ≤ queue_end q → get_or (pushed q x) (queue_end q) 0 ≡ x
  push_new l = get_or-set_other (set q (queue_end q) x) 0 (queue_end q) (queue_end q + 1) 0 (omega arith) ∙ get_or-set_same q (queue_end q) x 0 h

-- a pair of which one relation is left has not lost all three
one_left : (k : Domains) (a u v y : ℕ) → y < 3 → gone k y a u v ≡ false → (gone k 0 a u v && (gone k 1 a u v && gone k 2 a u v)) ≡ false
one_left k a u v = below_three _ (λ e. cc) (λ e. cc (and-false (gone k 0 a u v))) (λ e. simp (e, and-false))

-- a relation is removed: what is said of other pairs stays, and of this pair the other relations
module _ {k : Domains} (f : WellFormed k) (x a u v : ℕ) (hx : x < 3) (w : Proper 10 a u v) where
  abbrev after : Domains
  after = without k x a u v

  -- a pair is this one, or what is said of it stays
  elsewhere : {b c d : ℕ} → Proper 10 b c d → SamePair a u v b c d ⊎ ((t : Saying) → says t after b c d ≡ says t k b c d)
  elsewhere {b} {c} {d} z = elim (same_relation 0 b c d 0 a u v) [
    | yes (_, (e, p)) ↦ inl (e, inl p)
    | no n ↦ elim (same_relation 0 b c d 0 a v u) [
      | yes (_, (e, p)) ↦ inl (e, inr p)
      | no m ↦ inr (says_elsewhere k x w z (λ e p q. elim (ℕ_discrete c u) [ yes i ↦ n (omega arith) | no i ↦ m (omega arith) ]))
    ]
  ]

  pub still_gone : (y : ℕ) → y < 3 → y ≢ x → gone after y a u v ≡ gone k y a u v
  still_gone y hy ne = without_other k x y hx hy f w w (record { near = λ p _ _ _. ne p; far = λ _ _ p _. w.distinct p })

  pub filled-without : Filled k → (y : ℕ) → y < 3 → y ≢ x → gone k y a u v ≡ false → Filled after
  unfolding says
  filled-without filled y hy ne e b c d z =
      let spared : gone after y a u v ≡ false = still_gone y hy ne ∙ e in
      elim (elsewhere z) [
        | inl (i, inl p) ↦ rw (i, p.0, p.1) (one_left after a u v y hy spared)
        | inl (i, inr p) ↦ rw (i, p.0, p.1) (one_left after a v u (converse y) (converse-small y) (gone-converse after y a u v hy ∙ spared))
        | inr t ↦ t nothing ∙ filled b c d z
      ]

module _ {k : Domains} {rows q : List ℕ} (g : Good k rows q) {x a u v : ℕ} (hx : x < 3) (w : Proper 10 a u v) (s : Spare k x a u v) where
  sum_less : sum (without k x a u v) < sum k
  sum_less =
      sum_falls (without k x a u v) k (without-well_formed k x a u v g.laid.well_formed) g.laid.well_formed (without-less k x a u v) x a u v
      (without_gone k x g.laid.well_formed w) s.left

  -- there is room for one pair more
  pub room_left : (1 ≤ queue_end q) × (queue_end q < max_queue)
  room_left = (g.least, omega (arith, g.room, sum_less))

  push_fits : queue_end q < length q
  push_fits = rw g.long room_left.1

  end_is : queue_end (pushed q (pair_code a u v)) ≡ queue_end q + 1
  end_is = push_end q (pair_code a u v) push_fits

  pub removed_one : RemovedOnly (One x a u v) k q (without k x a u v) (marked rows x a u v) (pushed q (pair_code a u v))
  removed_one = record {
    grown = record {
      good = record {
        laid = record {
          well_formed = without-well_formed k x a u v g.laid.well_formed;
          filled =
              let (y, hy, ne, e) = s.other in filled-without g.laid.well_formed x a u v hx w g.laid.filled y hy ne e;
          mirror = mirror_one g.laid.well_formed g.laid.mirror x a u v hx w;
        };
        long = simp length-set g.long;
        least = omega (arith, end_is);
        room = omega (arith, g.room, sum_less, end_is);
        coded = λ j l h. elim (ℕ_discrete j (queue_end q)) [
          | yes e ↦ rw (e, push_new q (pair_code a u v) push_fits g.least) (coded w)
          | no d ↦ rw (push_old q (pair_code a u v) push_fits j l d) (g.coded j l (omega (arith, end_is)))
        ];
      };
      less = without-less k x a u v;
      up = omega (arith, end_is);
      old = λ i l h. push_old q (pair_code a u v) push_fits i l (omega arith);
      new = λ c z h. elim (elsewhere g.laid.well_formed x a u v hx w z) [
        | inl (e, o) ↦ let last = push_new q (pair_code a u v) push_fits g.least in
            inr (queue_end q, le_refl (queue_end q), omega (arith, end_is), ⊎_map (λ p. cc) (λ p. cc) o)
        | inr t ↦ inl (sym (t c.saying) ∙ h)
      ];
    };
    low = λ f e b. without-above k x a u v f b e;
    done = without_gone k x g.laid.well_formed w;
  }
