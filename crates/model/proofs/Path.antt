-- The domains of a path: all that the search uses of them.
use Rattle.std.specs.Prelude.{◌∷◌, ◌⊎◌, ◌≡◌, ◌<◌}
use Rattle.prelude.specs.Names.{true, false, List, [], Mem, mem-head, mem-tail, mem-not_nil, mem-cases_cons}
use Rattle.prelude.specs.Names.{inl, inr, ⊎_map, refl, ℕ, arith}
use Rattle.model.specs.Problem.{Problem, Precedence, Positions, Feasible, time}
use Rattle.model.specs.Domains.{Domains, gone, without, fixed_before, remove_before, fix_before, full_domains}
use Rattle.model.specs.Propagate.{propagate}
use Rattle.model.specs.Branching.{fix_precedences, opening_domains, inconsistent, packed, choice, Branch, first, second, branched, path_domains}
use Rattle.model.specs.Branching.{plan}
use Rattle.model.specs.Order.{Proper, WellFormed, ◌⊑◌, AtRest, Fork}
use Rattle.model.specs.Admits.{Sound, Admits}
use Rattle.model.specs.Weight.{weight}
use Rattle.model.proofs.Below.{and_intro}
use Rattle.model.proofs.Slots.{proper-sym, proper-wide}
use Rattle.model.proofs.Order.{below_refl, below_trans}
use Rattle.model.proofs.Monotone.{gone_mono, fixed_before_mono}
use Rattle.model.proofs.Without.{without-less, without-well_formed, without_gone, fix_before-less, fix_before-well_formed}
use Rattle.model.proofs.Propagate.{propagate-less, propagate-well_formed, propagate-at-rest}
use Rattle.model.proofs.Sound.{propagate_admits}
use Rattle.model.proofs.Admits.{full_well_formed, opening-well_formed, opening_admits}
use Rattle.model.proofs.Fork.{choice_fork, branched-less, branched-well_formed, fork_split}
use Rattle.model.proofs.Packed.{packed-feasible}
use Rattle.model.proofs.Weight.{weight_mono, weight_branch}

-- Precedences are fixed in the opening domains
fix_before_fixed : (k : Domains) (u v : ℕ) → WellFormed k → Proper 10 time u v → fixed_before (fix_before k time u v) time u v ≡ true
unfolding fix_before fixed_before gone without
fix_before_fixed k u v w s =
    let j = remove_before k time v u in
    and_intro (without_gone j 0 (without-well_formed k 1 time v u w) s)
    (gone_mono (without j 0 time u v) j (without-less j 0 time u v) 2 time u v (without_gone k 1 w (proper-sym s)))

precedences-less : (l : List Precedence) (k : Domains) → fix_precedences l k ⊑ k
precedences-less [] k = below_refl k
precedences-less (o ∷ l) k =
    let j = fix_before k time o.predecessor o.successor in
    below_trans (fix_precedences l j) j k (precedences-less l j) (fix_before-less k time o.predecessor o.successor)

precedences_fixed : (l : List Precedence) (k : Domains) → WellFormed k → ((o : Precedence) → Mem o l → Proper 10 time o.predecessor o.successor)
    → (o : Precedence) → Mem o l → fixed_before (fix_precedences l k) time o.predecessor o.successor ≡ true
precedences_fixed [] k w h o m = absurd (mem-not_nil m)
precedences_fixed (x ∷ l) k w h o m =
    let j = fix_before k time x.predecessor x.successor in
    elim (mem-cases_cons m) [
      | inl e ↦ rw e (fixed_before_mono (fix_precedences l j) j (precedences-less l j) time x.predecessor x.successor
          (fix_before_fixed k x.predecessor x.successor w (h x (mem-head refl))))
      | inr d ↦ precedences_fixed l j (fix_before-well_formed k time x.predecessor x.successor w) (λ y q. h y (mem-tail q)) o d
    ]

module _ (p : Problem) where
  pub path_root : path_domains p [] ≡ propagate p (opening_domains p)
  unfolding path_domains
  path_root = refl

  pub path_branch : (b : Branch) (path : List Branch) → path_domains p (b ∷ path) ≡ propagate p (branched (path_domains p path) b)
  unfolding path_domains
  path_branch b path = refl

  -- they are a propagation
  propagated : (path : List Branch) → (k : Domains) × WellFormed k × (path_domains p path ≡ propagate p k)
  propagated [] = (opening_domains p, opening-well_formed p, path_root)
  propagated (b ∷ path) =
      let (k, w, e) = propagated path in
      let j = path_domains p path in
      (branched j b, branched-well_formed j b (rw e (propagate-well_formed p k w)), path_branch b path)

  pub path_well_formed : (path : List Branch) → WellFormed (path_domains p path)
  path_well_formed path = let (k, w, e) = propagated path in rw e (propagate-well_formed p k w)

  -- a branch more is a relation less
  pub path_less : (b : Branch) (path : List Branch) → path_domains p (b ∷ path) ⊑ path_domains p path
  path_less b path =
      let k = path_domains p path in
      rw path_branch (below_trans (propagate p (branched k b)) (branched k b) k (propagate-less p (branched k b)) (branched-less k b))

  pub path_opening : (path : List Branch) → path_domains p path ⊑ opening_domains p
  path_opening [] = rw path_root (propagate-less p (opening_domains p))
  path_opening (b ∷ path) = below_trans (path_domains p (b ∷ path)) (path_domains p path) (opening_domains p) (path_less b path) (path_opening path)

module _ (p : Problem) (sound : Sound p) (path : List Branch) where
  abbrev k : Domains
  k = path_domains p path

  pub path_at-rest : AtRest p k
  path_at-rest = let (k, w, e) = propagated p path in rw e (propagate-at-rest p sound.limited k w)

  -- each precedence is fixed
  path_fixed : (o : Precedence) → Mem o p.precedences → fixed_before k time o.predecessor o.successor ≡ true
  unfolding opening_domains
  path_fixed o m =
      fixed_before_mono k (opening_domains p) (path_opening p path) time o.predecessor o.successor
      (precedences_fixed p.precedences full_domains full_well_formed (λ x n. proper-wide (omega (arith, sound.limited)) (sound.named x n)) o m)

  -- a packed path's plan is feasible
  pub plan-feasible : inconsistent p k ≡ false → packed p k ≡ true → Feasible p (plan p path)
  unfolding plan
  plan-feasible consistent done = packed-feasible p k path_at-rest consistent sound done path_fixed

  -- a path neither inconsistent nor packed has a place to branch; each branch lowers the weight
  pub path_fork : inconsistent p k ≡ false → packed p k ≡ false → Fork p k (choice k)
  path_fork consistent unpacked = choice_fork p k path_at-rest consistent sound.limited unpacked

  pub path_weight : Fork p k (choice k) → (b : Branch) → weight p (path_domains p (b ∷ path)) < weight p k
  path_weight f b =
      rw path_branch (omega (
        arith,
        weight_mono p (propagate p (branched k b)) (branched k b) (propagate-less p (branched k b)),
        weight_branch p sound.limited k (path_well_formed p path) f b,
      ))

  -- what a path admits one of its branches admits
  module _ (q : Positions) (feasible : Feasible p q) where
    pub path_split : Fork p k (choice k) → Admits p k q
        → Admits p (path_domains p (first ∷ path)) q ⊎ Admits p (path_domains p (second ∷ path)) q
    path_split f α = ⊎_map (on first) (on second) (fork_split p sound q k (path_well_formed p path) α f)
      where
        on : (b : Branch) → Admits p (branched k b) q → Admits p (path_domains p (b ∷ path)) q
        on b β = rw path_branch (propagate_admits p sound q feasible (branched k b) (branched-well_formed k b (path_well_formed p path)) β)

-- the empty path admits every feasible packing
pub root_admits : (p : Problem) → Sound p → (q : Positions) → Feasible p q → Admits p (path_domains p []) q
root_admits p sound q feasible =
    rw path_root (propagate_admits p sound q feasible (opening_domains p) (opening-well_formed p) (opening_admits p sound q feasible))
