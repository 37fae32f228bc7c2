-- What holds of the square root, in the words of IEEE 754 and of document 01. Statements only: each is proved in `proofs/Nearest.antt`,
-- `proofs/Special.antt` or `proofs/Isqrt.antt`, under the same name in small letters. They are about the definition `sqrt`, which the
-- function equals for every `f32`. Assumes nothing.
use Rattle.std.specs.Prelude.{◌≡◌, ℕ, suc, ◌*◌, ◌<◌, ◌≤◌, true, false, T, pos, Float}
use Rattle.std.specs.Float.{nan, inf, fin, binary32}
use Rattle.std.specs.Float.Ieee.{fits, lt}
use Rattle.std.specs.Float.Ieee.Positive.{positive}
use Rattle.sqrt.specs.Sqrt.{isqrt, sqrt}
use Rattle.sqrt.specs.Nearest.{unsigned, Nearest}

-- ==== Finite numbers above zero

-- for a finite x above zero, `sqrt x` is the float nearest to the root of x
abbrev pub SqrtNearest : Type 0
SqrtNearest = (x : Float) → T (fits binary32 x) → T (positive x) → Nearest x (sqrt x)

-- No other float is: whatever is nearest to the root of x is `sqrt x`. So the definition is the only one that rounds to the nearest, and a rule
-- for ties would never be used.
abbrev pub SqrtOnly : Type 0
SqrtOnly = (x r : Float) → T (fits binary32 x) → T (positive x) → Nearest x r → r ≡ sqrt x

-- the result is finite and not below zero
abbrev pub SqrtFinite : Type 0
SqrtFinite = (x : Float) → T (fits binary32 x) → T (positive x) → T (unsigned (sqrt x))

-- ==== Every float

-- the result is in binary32
abbrev pub SqrtFits : Type 0
SqrtFits = (x : Float) → T (fits binary32 x) → T (fits binary32 (sqrt x))

-- ==== Zeros, numbers below zero, infinity and NaN

abbrev pub plus_zero : Float
plus_zero = fin false 0 (pos 0)

abbrev pub minus_zero : Float
minus_zero = fin true 0 (pos 0)

abbrev pub SqrtMinusZero : Type 0
SqrtMinusZero = sqrt minus_zero ≡ minus_zero

abbrev pub SqrtPlusZero : Type 0
SqrtPlusZero = sqrt plus_zero ≡ plus_zero

-- every number below zero, also -infinity
abbrev pub SqrtNegative : Type 0
SqrtNegative = (x : Float) → T (lt x plus_zero) → sqrt x ≡ nan

abbrev pub SqrtInfinity : Type 0
SqrtInfinity = sqrt (inf false) ≡ inf false

abbrev pub SqrtNan : Type 0
SqrtNan = sqrt nan ≡ nan

-- ==== Roots of whole numbers

-- r is the root of n, rounded down
abbrev pub Root : ℕ → ℕ → Type 0
Root n r = (r * r ≤ n) × (n < suc r * suc r)

abbrev pub IsqrtRoot : Type 0
IsqrtRoot = (n : ℕ) → Root n (isqrt n)

-- there is no other
abbrev pub RootUnique : Type 0
RootUnique = (n r s : ℕ) → Root n r → Root n s → r ≡ s
