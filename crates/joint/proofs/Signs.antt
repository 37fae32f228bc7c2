-- Signed indices, which the code has by their bits. Assumes nothing.
use mathlib.Core.Path.{◌≡◌, ap, ◌∙◌}
use mathlib.Core.Bool.{false, true≢false}
use native.Mathlib.Omega.{arith}
use lib.Dec.{T}
use lib.IntN.{ℤ, pos, negsuc, nat_abs}
use lib.Signed.{non_neg, lt_z}
use mir.Syntax.{w32, w64}
use mir.Val.{Fits, SFits, to_z, of_z}
use mir.ValLaws.{to_z-of_z}

-- a number as the code has it
abbrev pub bits : ℤ → ℤ
bits z = to_z w32 (of_z w32 z)

-- what is said of a number by its bits is said of the number
pub at_bits : {A : Type 0} {z y : ℤ} {r : A} (f : ℤ → A) → SFits w32 z → z ≡ y → r ≡ f (bits z) → r ≡ f y
at_bits {z} f fits e g = g ∙ ap f (to_z-of_z w32 z fits ∙ e)

not_negative : (z : ℤ) → SFits w32 z → lt_z z (pos 0) ≡ false → T (non_neg z) × Fits w64 (nat_abs z)
not_negative (pos i) f h = (tt, record { fits = omega (arith, f.sfits) })
not_negative (negsuc i) f h = absurd (true≢false h)

-- a number that is not negative can be cast to an unsigned one
pub cast_fits : {z : ℤ} → SFits w32 z → lt_z (bits z) (pos 0) ≡ false → T (non_neg (bits z)) × Fits w64 (nat_abs (bits z))
cast_fits {z} f h = let same = to_z-of_z w32 z f in rw same (not_negative z f (rw same at h))
