-- Which numbers the source's constants are. A literal is the binary32 float nearest to its decimal (`..-decimal`), and that float is the number
-- m * 2 ^ e (`..-is`, where `fin false m (negsuc k)` is m * 2 ^ -(k + 1)). Assumes nothing.
use Rattle.std.specs.Prelude.{◌≡◌, false, pos, negsuc}
use mathlib.Core.Path.{refl}
use lib.Ieee as Ieee
use lib.Ieee.{fin}
use Rattle.math_functions.specs.Float.{lit, zero, one, two, min_positive, threshold, pi}
use Rattle.math_functions.specs.Scalar.{atan3, atan5, atan7, atan9, half_pi, atan_pi}
use Rattle.math_functions.specs.Constants.{decimal}

pub zero_is : zero ≡ fin false 0 (pos 0)
unfolding Ieee.of_bits
zero_is = refl

pub one_is : one ≡ fin false 1 (pos 0)
unfolding Ieee.of_bits
one_is = refl

pub two_is : two ≡ fin false 1 (pos 1)
unfolding Ieee.of_bits
two_is = refl

-- 2 ^ -126
pub min_positive_is : min_positive ≡ fin false 1 (negsuc 125)
unfolding Ieee.of_bits
min_positive_is = refl

pub min_positive_decimal : min_positive ≡ decimal 117549435 46
unfolding Ieee.of_bits Ieee.round
min_positive_decimal = refl

-- 1000 × 2 ^ -126 is 125 × 2 ^ -123: the product is exact
pub threshold_is : threshold ≡ fin false 125 (negsuc 122)
unfolding Ieee.of_bits Ieee.mul
threshold_is = refl

pub threshold_bits : threshold ≡ lit 0x057a_0000
unfolding Ieee.of_bits Ieee.mul
threshold_bits = refl

pub pi_is : pi ≡ fin false 13176795 (negsuc 21)
unfolding Ieee.of_bits
pi_is = refl

pub pi_decimal : pi ≡ decimal 314159265358979323846264338327950288 35
unfolding Ieee.of_bits Ieee.round
pi_decimal = refl

pub atan3_decimal : atan3 ≡ decimal 33213072 8
unfolding Ieee.of_bits Ieee.round
atan3_decimal = refl

pub atan5_decimal : atan5 ≡ decimal 18681418 8
unfolding Ieee.of_bits Ieee.round
atan5_decimal = refl

pub atan7_decimal : atan7 ≡ decimal 94097948 9
unfolding Ieee.of_bits Ieee.round
atan7_decimal = refl

pub atan9_decimal : atan9 ≡ decimal 24840285 9
unfolding Ieee.of_bits Ieee.round
atan9_decimal = refl

pub half_pi_decimal : half_pi ≡ decimal 157079637 8
unfolding Ieee.of_bits Ieee.round
half_pi_decimal = refl

pub atan_pi_decimal : atan_pi ≡ decimal 314159274 8
unfolding Ieee.of_bits Ieee.round
atan_pi_decimal = refl

-- atan2's own literal for a half turn is the same float as PI
pub atan_pi_is_pi : atan_pi ≡ pi
atan_pi_is_pi = refl
