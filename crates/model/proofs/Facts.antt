-- Claims about domains: seen from either item, and kept as relations are removed.
use Rattle.std.specs.Prelude.{◌&&◌, ◌≢◌, ◌≡◌, ◌-◌, ◌<◌}
use Rattle.prelude.specs.Names.{true, not, and_comm, refl, sym, ◌∙◌, ap, ap₂, ℕ, arith}
use Rattle.model.specs.Domains.{Domains, may_before, fixed_before}
use Rattle.model.specs.Order.{◌⊑◌}
use Rattle.model.proofs.Below.{and_mono, below_three}
use Rattle.model.proofs.Domains.{left-converse, gone-is}
use Rattle.model.specs.Relations.{gone, converse}
use Rattle.model.specs.Facts.{Saying, overlaps, nothing, removed, forced, Fact, says, Holds}
pub use Rattle.model.proofs.Domains.{converse-small, gone-self}
pub use Rattle.model.proofs.Monotone.{gone_mono}

pub says_mono : (f k : Domains) → f ⊑ k → (s : Saying) (a u v : ℕ) → says s k a u v ≡ true → says s f a u v ≡ true
unfolding says
says_mono f k h overlaps a u v = and_mono (gone_mono f k h 1 a u v) (gone_mono f k h 2 a u v)
says_mono f k h nothing a u v =
    and_mono (gone_mono f k h 0 a u v) (and_mono (gone_mono f k h 1 a u v) (gone_mono f k h 2 a u v))
says_mono f k h (removed x) a u v = gone_mono f k h x a u v
says_mono f k h (forced x) a u v = and_mono (gone_mono f k h 0 a u v) (gone_mono f k h x a u v)

pub holds_mono : (f k : Domains) → f ⊑ k → (c : Fact) → Holds k c → Holds f c
holds_mono f k h c = says_mono f k h c.saying c.axis c.u c.v

-- The same relation seen from the other item
pub converse-is : (x : ℕ) → x < 3 → x ≢ 0 → 3 - x ≡ converse x
converse-is x h = below_three (λ x. x ≢ 0 → 3 - x ≡ converse x) (λ ne. absurd (ne refl)) (λ ne. refl) (λ ne. refl) x h

pub gone-converse : (k : Domains) (x a u v : ℕ) → x < 3 → gone k (converse x) a v u ≡ gone k x a u v
gone-converse k x a u v h = gone-is k (converse x) a v u ∙ (ap not (left-converse k x a u v) ∙ sym (gone-is k x a u v))

pub overlaps_sym : (k : Domains) (a u v : ℕ) → says overlaps k a v u ≡ says overlaps k a u v
unfolding says gone
overlaps_sym k a u v = and_comm (not (may_before k a v u)) (not (may_before k a u v))

pub forced_converse : (k : Domains) (x a u v : ℕ) → x < 3 → says (forced (converse x)) k a v u ≡ says (forced x) k a u v
unfolding says
forced_converse k x a u v h = ap₂ ◌&&◌ (gone-converse k 0 a u v (omega arith)) (gone-converse k x a u v h)

-- Claims by the accessors
pub forced_before-is : (k : Domains) (a u v : ℕ) → says (forced 2) k a u v ≡ fixed_before k a u v
unfolding says gone fixed_before
forced_before-is k a u v = refl

pub forced_after_is : (k : Domains) (a u v : ℕ) → says (forced 1) k a u v ≡ fixed_before k a v u
forced_after_is k a u v = sym (forced_converse k 1 a u v (omega arith)) ∙ forced_before-is k a v u
