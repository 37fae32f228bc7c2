-- The roots of the least and the largest positive number, by computation. Assumes nothing.
use Rattle.std.proofs.Common.{◌≡◌, refl}
use lib.Ieee.{binary32, of_bits}
use Rattle.sqrt.specs.Sqrt.{sqrt}

-- the least subnormal number, 2 ^ -149
pub sqrt_least : sqrt (of_bits binary32 1) ≡ of_bits binary32 0x1a35_04f3
unfolding sqrt of_bits
sqrt_least = refl

-- the largest finite number
pub sqrt_largest : sqrt (of_bits binary32 0x7f7f_ffff) ≡ of_bits binary32 0x5f7f_ffff
unfolding sqrt of_bits
sqrt_largest = refl
