-- What is a NaN, and what is none: a float that equals itself. Assumes nothing.
use Rattle.std.proofs.Common.{◌≡◌, true, refl}
use mathlib.Core.Bool.{false≢true}
use lib.Ieee.{Float, nan, inf, fin, is_nan}

pub a_nan : (x : Float) → is_nan x ≡ true → x ≡ nan
unfolding is_nan
a_nan nan h = refl
a_nan (inf s) h = absurd (false≢true h)
a_nan (fin s m e) h = absurd (false≢true h)
