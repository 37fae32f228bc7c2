-- Rust's operators on `f32`, by the logic's IEEE 754 at binary32: each operation is rounded once, to the nearest, ties to even, and none is fused with another.
-- Every NaN is one value, `nan`. Definitions only. Assumes nothing.
use Rattle.std.specs.Prelude.{ℕ, Bool}
use Rattle.std.specs.Float.Ieee as Ieee
use Rattle.std.specs.Prelude.{Float}
use Rattle.std.specs.Float.{binary32}

infixl 6 ◌⊕◌ ◌⊖◌
infixl 7 ◌⊗◌ ◌⊘◌
-- a + b
abbrev pub ◌⊕◌ : Float → Float → Float
a ⊕ b = Ieee.add binary32 a b

-- a - b
abbrev pub ◌⊖◌ : Float → Float → Float
a ⊖ b = Ieee.sub binary32 a b

-- a * b
abbrev pub ◌⊗◌ : Float → Float → Float
a ⊗ b = Ieee.mul binary32 a b

-- a / b
abbrev pub ◌⊘◌ : Float → Float → Float
a ⊘ b = Ieee.div binary32 a b

-- -a: the sign turned over, of a zero and of an infinity too
abbrev pub neg : Float → Float
neg a = Ieee.neg a

-- a < b, a > b and a == b: no for a NaN on either side, and -0 equals +0
abbrev pub lt : Float → Float → Bool
lt a b = Ieee.lt a b

abbrev pub gt : Float → Float → Bool
gt a b = Ieee.lt b a

abbrev pub eq : Float → Float → Bool
eq a b = Ieee.eq a b

-- a <= b and a >= b: likewise
abbrev pub le : Float → Float → Bool
le a b = Ieee.le a b

abbrev pub ge : Float → Float → Bool
ge a b = Ieee.le b a

-- The float of a bit pattern: how the source's literals stand in the logic.
abbrev pub lit : ℕ → Float
lit n = Ieee.of_bits binary32 n

-- 0.0
abbrev pub zero : Float
zero = lit 0x0000_0000

-- 1.0
abbrev pub one : Float
one = lit 0x3f80_0000

-- 2.0
abbrev pub two : Float
two = lit 0x4000_0000

-- f32::MIN_POSITIVE, 2 ^ -126
abbrev pub min_positive : Float
min_positive = lit 0x0080_0000

-- 1000.0 * f32::MIN_POSITIVE, 1000 × 2 ^ -126 (`threshold_is`): only above it is a determinant or a squared length divided by, and below it rotation is fixed
abbrev pub threshold : Float
threshold = lit 0x447a_0000 ⊗ min_positive

-- core::f32::consts::PI, 3.14159265358979323846264338327950288
abbrev pub pi : Float
pi = lit 0x4049_0fdb
