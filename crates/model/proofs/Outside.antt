-- Items past those of the problem, along a path: precedences and branches remove nothing of them either.
use Rattle.std.specs.Prelude.{◌∷◌, ◌≡◌, ◌≤◌}
use Rattle.prelude.specs.Names.{List, [], sym, ◌∙◌, ℕ, max, dec_lt, arith}
use Rattle.model.specs.Problem.{Problem, time}
use Rattle.model.specs.Domains.{Domains, fix_before, full_domains}
use Rattle.model.specs.Branching.{opening_domains, Branch, branched, path_domains}
use Rattle.model.specs.Order.{Proper}
use Rattle.model.specs.Relations.{gone, without, Untouched}
use Rattle.model.specs.Facts.{removed, says}
use Rattle.model.specs.Admits.{Sound}
use Rattle.model.specs.Search.{fork, Forking}
use Rattle.model.specs.Run.{look}
use Rattle.model.proofs.Below.{clash}
use Rattle.model.proofs.Slots.{proper-up, proper-wide}
use Rattle.model.proofs.Without.{says_elsewhere}
use Rattle.model.proofs.Admits.{full_left, precedences_keep, opening-well_formed}
use Rattle.model.proofs.Fork.{branched-keeps, branched-well_formed}
use Rattle.model.proofs.Path.{path_root, path_branch, path_well_formed, path_fork}
use Rattle.model.proofs.Search.{look_fork}
use Rattle.model.proofs.Untouched.{propagate-untouched}

pub full_untouched : (n : ℕ) → Untouched n full_domains
unfolding gone
full_untouched n x a u v h s e = absurd (clash e (full_left x s))

module _ (n : ℕ) (limited : n ≤ 10) where
  -- a relation of two items of the problem is removed
  pub without-untouched : (k : Domains) (x a u v : ℕ) → Proper n a u v → Untouched n k → Untouched n (without k x a u v)
  unfolding says
  without-untouched k x a u v s h y b i j hy t e = elim (dec_lt (max i j) n) [
    | yes l ↦ (omega arith, omega arith)
    | no l ↦ h y b i j hy t (sym (says_elsewhere k x (proper-wide (omega arith) s) t (λ p q r. omega arith) (removed y)) ∙ e)
  ]

module _ (p : Problem) (sound : Sound p) where
  pub opening-untouched : Untouched p.items (opening_domains p)
  unfolding opening_domains fix_before without
  opening-untouched =
      precedences_keep (Untouched p.items) p.precedences full_domains (full_untouched p.items)
      (λ o m j h. without-untouched p.items sound.limited _ 0 time _ _ (sound.named o m)
      (without-untouched p.items sound.limited j 2 time _ _ (sound.named o m) h))

  fork_untouched : (path : List Branch) → look p path ≡ fork → Untouched p.items (path_domains p path) → (b : Branch)
      → Untouched p.items (branched (path_domains p path) b)
  fork_untouched path e h b =
      let (consistent, unpacked) = look_fork p path e in
      branched-keeps (Untouched p.items) (path_domains p path)
      (λ x j. without-untouched p.items sound.limited j x _ _ _ (proper-up (path_fork p sound path consistent unpacked).place)) b h

  pub path_untouched : (path : List Branch) → Forking (look p) path → Untouched p.items (path_domains p path)
  path_untouched [] f = rw path_root (propagate-untouched p (opening_domains p) (opening-well_formed p) opening-untouched)
  path_untouched (b ∷ path) f =
      let k = path_domains p path in
      let plain = fork_untouched path f.0 (path_untouched path f.1) b in
      rw path_branch (propagate-untouched p (branched k b) (branched-well_formed k b (path_well_formed p path)) plain)

  pub branched-untouched : (path : List Branch) → Forking (look p) path → look p path ≡ fork → (b : Branch)
      → Untouched p.items (branched (path_domains p path) b)
  branched-untouched path f e b = fork_untouched path e (path_untouched path f) b
