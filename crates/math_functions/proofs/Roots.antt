-- No square root is below zero: it is a NaN, -0, or a number or an infinity with the sign clear. Assumes nothing.
use Rattle.std.specs.Prelude.{◌≡◌, ℕ, zero, suc, ◌+◌, ◌*◌, ◌^◌, Bool, true, false, cond, ltb, ℤ, pos}
use mathlib.Core.Path.{refl, ap, ◌∙◌}
use native.Mathlib.Nat.{zero-mul}
use native.Mathlib.Omega.{arith}
use lib.Dec.{leb-suc-zero}
use lib.Ieee as Ieee
use lib.Ieee.{Float, nan, inf, fin, binary32, up, down}
use Rattle.sqrt.specs.Sqrt.{sqrt, root_of}
use Rattle.sqrt.specs.Nearest.{in_units}
use Rattle.sqrt.proofs.Rounding.{dropped_of, rounded_of, root_of_is}
use Rattle.math_functions.specs.Float.{lt}
use Rattle.math_functions.specs.Float as Float

none_below_zero : (a b : ℕ) → b ≡ 0 → ltb a b ≡ false
none_below_zero a b h = ap (ltb a) h ∙ leb-suc-zero a

minus_zero : (e : ℤ) → lt (fin true 0 e) Float.zero ≡ false
unfolding Ieee.lt Ieee.of_bits
minus_zero e = none_below_zero 0 (0 * up e * 1 + 0 * down e) (omega arith)

-- ---- a value with the sign clear
finite : (m : ℕ) (e : ℤ) → lt (fin false m e) Float.zero ≡ false
unfolding Ieee.lt Ieee.of_bits
finite m e = none_below_zero (m * up e * 1) (0 * down e) (zero-mul (down e))

odd : (d q k l : ℕ) → lt (Ieee.odd d false q k l) Float.zero ≡ false
unfolding Ieee.odd
odd d zero k l = finite 0 (pos 0)
odd d (suc q) k l = finite _ _

units : (q k : ℕ) → lt (Ieee.units binary32 false q k) Float.zero ≡ false
unfolding Ieee.units Ieee.lt Ieee.of_bits
units q k = go (ltb (q * 2 ^ k) (2 ^ 277))
  where
    go : (b : Bool) → lt (cond b (Ieee.odd 25 false q k 149) (inf false)) Float.zero ≡ false
    go true = odd 25 q k 149
    go false = refl

root : (n : ℕ) → lt (root_of binary32 n) Float.zero ≡ false
root n = rw (root_of_is n) (units (rounded_of n) (dropped_of n))

pub root_not_below_zero : (z : Float) → lt (sqrt z) Float.zero ≡ false
unfolding sqrt Ieee.lt Ieee.of_bits
root_not_below_zero nan = refl
root_not_below_zero (inf true) = refl
root_not_below_zero (inf false) = refl
root_not_below_zero (fin true zero e) = minus_zero e
root_not_below_zero (fin false zero e) = finite 0 e
root_not_below_zero (fin true (suc m) e) = refl
root_not_below_zero (fin false (suc m) e) = root (in_units (fin false (suc m) e))
