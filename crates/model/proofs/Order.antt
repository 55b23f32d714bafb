-- `k ⊑ j`, k has at most the relations of j: the order's own laws, and those of domains as numbers.
use Rattle.std.specs.Prelude.{◌≢◌, ◌≡◌, ◌*◌, ◌%◌, ◌/◌, ◌≤◌, ◌<◌}
use Rattle.prelude.specs.Names.{Bool, true, false, cond, refl, sym, ◌∙◌, ℕ, zero-le, arith, eqb, get_or, ext_get_or}
use Rattle.prelude.specs.Names.{eqb-true}
use Rattle.model.specs.Domains.{Domains, domain, overlap_bit, before_bit, after_bit, bit, clear}
use Rattle.model.specs.Order.{WellFormed, Subdomain, ◌⊑◌}
use Rattle.model.proofs.Below.{Implies, implies_refl, implies_false, past_three, below_three, all-at, clash}

-- The three bits of a domain made of three tests, and that it is a small number
bits_of : (o f b : Bool) → let m = domain o f b in (overlap_bit m ≡ o) × (before_bit m ≡ f) × (after_bit m ≡ b) × (m < 8)
unfolding domain overlap_bit before_bit after_bit
bits_of true true true = (refl, refl, refl, omega arith)
bits_of true true false = (refl, refl, refl, omega arith)
bits_of true false true = (refl, refl, refl, omega arith)
bits_of true false false = (refl, refl, refl, omega arith)
bits_of false true true = (refl, refl, refl, omega arith)
bits_of false true false = (refl, refl, refl, omega arith)
bits_of false false true = (refl, refl, refl, omega arith)
bits_of false false false = (refl, refl, refl, omega arith)

pub overlap_bit-of : (o f b : Bool) → overlap_bit (domain o f b) ≡ o
overlap_bit-of o f b = (bits_of o f b).0

pub before_bit-of : (o f b : Bool) → before_bit (domain o f b) ≡ f
before_bit-of o f b = (bits_of o f b).1

pub after_bit-of : (o f b : Bool) → after_bit (domain o f b) ≡ b
after_bit-of o f b = (bits_of o f b).2

-- and a domain is made of its three bits
pub domain-bits : (m : ℕ) → m < 8 → domain (overlap_bit m) (before_bit m) (after_bit m) ≡ m
unfolding domain overlap_bit before_bit after_bit
domain-bits m h = eqb-true _ _ (all-at 8 (λ m. eqb (domain (overlap_bit m) (before_bit m) (after_bit m)) m) refl m h)

pub domain-small : (o f b : Bool) → domain o f b < 8
domain-small o f b = (bits_of o f b).3

-- a domain with fewer relations is no greater a number
bit_le : (c r : ℕ) (x : Bool) → Implies x (eqb r 1) → cond x c 0 ≤ c * r
bit_le c r true f = rw (eqb-true r 1 (f refl)) (omega arith)
bit_le c r false f = zero-le

pub domain_le : (m : ℕ) (x y z : Bool) → Implies x (overlap_bit m) → Implies y (before_bit m) → Implies z (after_bit m) → domain x y z ≤ m
unfolding domain overlap_bit before_bit after_bit
domain_le m x y z f g h = omega (arith, bit_le 1 (m % 2) x f, bit_le 2 (m / 2 % 2) y g, bit_le 4 (m / 4 % 2) z h)

-- A domain without one of its bits
pub clear-same : (y m : ℕ) → y < 3 → bit y (clear y m) ≡ false
clear-same y m = below_three (λ y. bit y (clear y m) ≡ false) (overlap_bit-of _ _ _) (before_bit-of _ _ _) (after_bit-of _ _ _) y

pub clear-other : (z y m : ℕ) → z ≢ y → bit z (clear y m) ≡ bit z m
clear-other z y m =
    past_three (λ z. z ≢ y → bit z (clear y m) ≡ bit z m)
    (past_three (λ y. 0 ≢ y → bit 0 (clear y m) ≡ bit 0 m)
    (λ h. absurd (h refl)) (λ h. overlap_bit-of _ _ _) (λ h. overlap_bit-of _ _ _) (λ y h. refl) y)
    (past_three (λ y. 1 ≢ y → bit 1 (clear y m) ≡ bit 1 m)
    (λ h. before_bit-of _ _ _) (λ h. absurd (h refl)) (λ h. before_bit-of _ _ _) (λ y h. refl) y)
    (past_three (λ y. 2 ≢ y → bit 2 (clear y m) ≡ bit 2 m) (λ h. after_bit-of _ _ _) (λ h. after_bit-of _ _ _) (λ h. absurd (h refl)) (λ y h. refl) y)
    (λ z h. refl) z

pub clear-small : (y m : ℕ) → m < 8 → clear y m < 8
clear-small y m h = past_three (λ y. clear y m < 8) (domain-small _ _ _) (domain-small _ _ _) (domain-small _ _ _) (λ y. h) y

pub clear_none : (y m : ℕ) → (y < 3 → ⊥) → clear y m ≡ m
clear_none y m =
    past_three (λ y. (y < 3 → ⊥) → clear y m ≡ m)
    (λ h. absurd (h (omega arith))) (λ h. absurd (h (omega arith))) (λ h. absurd (h (omega arith))) (λ y h. refl) y

-- Subdomains
pub sub_refl : (m : ℕ) → Subdomain m m
sub_refl m = record { bits = λ y e. e }

pub sub_trans : {m j l : ℕ} → Subdomain m j → Subdomain j l → Subdomain m l
sub_trans f g = record { bits = λ y e. g.bits y (f.bits y e) }

sub_by : {m j : ℕ} → Implies (overlap_bit m) (overlap_bit j) → Implies (before_bit m) (before_bit j) → Implies (after_bit m) (after_bit j) → Subdomain m j
sub_by {m} {j} ho hf hb = record { bits = past_three (λ y. Implies (bit y m) (bit y j)) ho hf hb (λ y e. e) }

pub sub-zero : (m : ℕ) → Subdomain 0 m
unfolding overlap_bit before_bit after_bit
sub-zero m = sub_by implies_false implies_false implies_false

pub sub_of : (m : ℕ) {o f b : Bool} → Implies o (overlap_bit m) → Implies f (before_bit m) → Implies b (after_bit m) → Subdomain (domain o f b) m
sub_of m ho hf hb = sub_by (simp overlap_bit-of ho) (simp before_bit-of hf) (simp after_bit-of hb)

pub sub_mono : {o f b o' f' b' : Bool} → Implies o o' → Implies f f' → Implies b b' → Subdomain (domain o f b) (domain o' f' b')
sub_mono ho hf hb = sub_by (simp overlap_bit-of ho) (simp before_bit-of hf) (simp after_bit-of hb)

pub implies_eq : {a b : Bool} → Implies a b → Implies b a → a ≡ b
implies_eq {a = true} {b = b} f g = sym (f refl)
implies_eq {a = false} {b = true} f g = g refl
implies_eq {a = false} {b = false} f g = refl

-- Clearing a bit takes away no other
pub clear-less : (y m : ℕ) → Subdomain (clear y m) m
clear-less y m =
    past_three (λ y. Subdomain (clear y m) m) (sub_of m implies_false implies_refl implies_refl)
    (sub_of m implies_refl implies_false implies_refl) (sub_of m implies_refl implies_refl implies_false) (λ y. sub_refl m) y

pub clear_above : (y : ℕ) {m j : ℕ} → Subdomain j m → bit y j ≡ false → Subdomain j (clear y m)
clear_above y {m} {j} r e = record { bits = λ z d. clear-other z y m (λ q. clash d (rw q e)) ∙ r.bits z d }

-- fewer relations are a smaller number
pub sub_le : {m j : ℕ} → m < 8 → Subdomain m j → m ≤ j
sub_le {m} {j} h r =
    omega (arith, domain-bits m h, domain_le j (overlap_bit m) (before_bit m) (after_bit m) (r.bits 0) (r.bits 1) (r.bits 2))

-- Domains
pub below_refl : (k : Domains) → k ⊑ k
below_refl k i = sub_refl (get_or k i 0)

pub below_trans : (k j l : Domains) → k ⊑ j → j ⊑ l → k ⊑ l
below_trans k j l f g i = sub_trans (f i) (g i)

-- two that lie below each other are equal
pub below_eq : (k j : Domains) → WellFormed k → WellFormed j → k ⊑ j → j ⊑ k → k ≡ j
below_eq k j wk wj f g = ext_get_or 0 k j (wk.long ∙ sym wj.long) (λ i h. omega (arith, sub_le (wk.small i) (f i), sub_le (wj.small i) (g i)))
