-- IEEE 754's squareRoot on binary32, rounded to the nearest, over whole numbers: where a root lies is told by squares. Definitions only. Assumes nothing.
-- `Claims.antt` says that the result is the nearest float, and the only nearest, and has the zeros, the infinities, the NaN and the numbers below zero.
use Rattle.std.specs.Prelude.{ℕ, zero, suc, ◌+◌, ◌-◌, ◌*◌, ◌/◌, ◌^◌, true, false, cond, nat_le, nat_lt, Float}
use Rattle.std.specs.Float.{nan, inf, fin, Format, binary32}
use Rattle.std.specs.Float.Ieee.{prec, low, up, down, size, units}

-- r, or r + 1 if its square is still at most n
abbrev pub one_more : ℕ → ℕ → ℕ
one_more n r = cond (nat_le (suc r * suc r) n) (suc r) r

-- The largest number whose square is at most n, for an n below 4 ^ d: twice the one for n / 4, or one more.
unfoldable pub root_below : ℕ → ℕ → ℕ
root_below zero n = zero
root_below (suc d) n = one_more n (2 * root_below d (n / 4))

-- The largest number whose square is at most n (`IsqrtRoot` in `Claims.antt`). An n of d binary digits is below 2 ^ d.
unfoldable pub isqrt : ℕ → ℕ
unfolding root_below size
isqrt n = root_below (size n) n

-- Of q and q + 1, the one that times 2 ^ k is nearer to √a: q + 1 where √a is above the middle of the two, which is half of `middle`. For
-- the roots here, √a is never at the middle.
abbrev pub nearer_of : ℕ → ℕ → ℕ → ℕ
nearer_of a k q = let middle = (2 * q + 1) * 2 ^ k in cond (nat_lt (middle * middle) (4 * a)) (suc q) q

-- The value nearest to the root of n of the format's smallest values, 2 ^ -low each. In the same units that root is √a, since √a * 2 ^ -low
-- squared is n * 2 ^ -low. Of √a's whole part the format keeps the `prec` leading digits and drops k. They are the quotient by 2 ^ k, and the
-- result is that many times 2 ^ k units or one more.
unfoldable pub root_of : Format → ℕ → Float
unfolding isqrt size units
root_of f n =
    let a = n * 2 ^ low f in
    let k = size (isqrt a) - prec f in
    units f false (nearer_of a k (isqrt a / 2 ^ k)) k

-- IEEE 754's squareRoot on binary32. The root of -0 is -0, and of any other negative number there is none.
unfoldable pub sqrt : Float → Float
unfolding root_of
sqrt nan = nan
sqrt (inf s) = cond s nan (inf s)
sqrt (fin s zero e) = fin s zero e
sqrt (fin true (suc m) e) = nan
sqrt (fin false (suc m) e) = root_of binary32 (suc m * up e * 2 ^ low binary32 / down e)
