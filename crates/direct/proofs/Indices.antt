-- The position of a negative index, which is that of none. Assumes nothing.
use mathlib.Core.Path.{◌≡◌, refl}
use mathlib.Core.Bool.{true}
use Prim.Native.Nat.{ℕ}
use native.Mathlib.Omega.{arith}
use lib.IntN.{ℤ, pos, negsuc}
use lib.Signed.{lt_z}
use borrow.Author.Tests.{ltb-true}
use Rattle.direct.specs.Steps.{position_of}

pub none : (n : ℕ) (z : ℤ) → lt_z z (pos 0) ≡ true → n ≡ position_of n z
none n (pos k) h = absurd (omega (arith, ltb-true k 0 h))
none n (negsuc k) h = refl
