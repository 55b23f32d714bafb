-- A signed number of 32 bits, and its negation, in 64 bits.
use Rattle.std.specs.Prelude.{◌≡◌, ◌-ℤ◌}
use Rattle.prelude.specs.Names.{true, false, true≢false, arith, ltb-true, ℤ, pos, negsuc, nat_abs, lt_z}
use lib.Dec.{T}
use lib.Signed.{non_neg}
use mir.Syntax.{w32, w64}
use mir.Val.{Fits, SFits}

pub fits_wider : (z : ℤ) → SFits w32 z → SFits w64 z
fits_wider (pos n) f = record { sfits = omega (arith, f.sfits) }
fits_wider (negsuc n) f = record { sfits = omega (arith, f.sfits) }

-- what is below 0 is above 0 when negated
pub negation_fits : (z : ℤ) → SFits w32 z → lt_z z (pos 0) ≡ true → SFits w64 (pos 0 -ℤ z)
negation_fits (pos n) f t = let l = ltb-true n 0 t in absurd (omega arith)
negation_fits (negsuc n) f t = record { sfits = omega (arith, f.sfits) }

pub negation_natural : (z : ℤ) → SFits w32 z → lt_z z (pos 0) ≡ true → T (non_neg (pos 0 -ℤ z)) × Fits w64 (nat_abs (pos 0 -ℤ z))
negation_natural (pos n) f t = let l = ltb-true n 0 t in absurd (omega arith)
negation_natural (negsuc n) f t = (tt, record { fits = omega (arith, f.sfits) })

pub natural : (z : ℤ) → SFits w32 z → lt_z z (pos 0) ≡ false → T (non_neg z) × Fits w64 (nat_abs z)
natural (pos n) f t = (tt, record { fits = omega (arith, f.sfits) })
natural (negsuc n) f t = absurd (true≢false t)
