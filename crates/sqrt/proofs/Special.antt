-- The roots that are not rounded: those of the zeros, the infinities, the NaN and the negative numbers. Assumes nothing.
use Rattle.std.proofs.Common.{◌≡◌, ℕ, zero, suc, ◌+◌, ◌*◌, true, false, T, ltb, refl, arith, ltb→lt}
use lib.Ieee.{nan, inf, fin, up, down, lt}
use Rattle.sqrt.specs.Sqrt.{sqrt}
use Rattle.sqrt.specs.Claims.{SqrtMinusZero, SqrtPlusZero, SqrtNegative, SqrtInfinity, SqrtNan}

pub sqrt_minus_zero : SqrtMinusZero
unfolding sqrt
sqrt_minus_zero = refl

pub sqrt_plus_zero : SqrtPlusZero
unfolding sqrt
sqrt_plus_zero = refl

none_below_zero : (a b : ℕ) → b ≡ 0 → T (ltb a b) → ⊥
none_below_zero a b z h = omega (arith, ltb→lt a b h)

pub sqrt_negative : SqrtNegative
unfolding sqrt lt
sqrt_negative nan h = refl
sqrt_negative (inf true) h = refl
sqrt_negative (inf false) h = absurd h
sqrt_negative (fin true zero e) h = absurd (none_below_zero 0 (0 * up e * 1 + 0 * down e) (omega arith) h)
sqrt_negative (fin true (suc m) e) h = refl
sqrt_negative (fin false m e) h = absurd (none_below_zero (m * up e * 1) (0 * down e) (omega arith) h)

pub sqrt_infinity : SqrtInfinity
unfolding sqrt
sqrt_infinity = refl

pub sqrt_nan : SqrtNan
unfolding sqrt
sqrt_nan = refl
