-- Which float is the nearest to a root, over whole numbers: each finite value of binary32 is so many times the smallest one, 2 ^ -149.
-- Definitions only. Assumes nothing.
use Rattle.std.specs.Prelude.{ℕ, ◌+◌, ◌*◌, ◌/◌, ◌^◌, ◌<◌, Bool, true, false, T, Float}
use Rattle.std.specs.Float.{nan, inf, fin, binary32}
use Rattle.std.specs.Float.Ieee.{up, down, fits}

-- how many of binary32's smallest values a finite value is, its sign left out
abbrev pub in_units : Float → ℕ
in_units nan = 0
in_units (inf s) = 0
in_units (fin s m e) = m * up e * 2 ^ 149 / down e

-- a finite value with the sign clear
abbrev pub unsigned : Float → Bool
unsigned nan = false
unsigned (inf s) = false
unsigned (fin true m e) = false
unsigned (fin false m e) = true

-- y is a finite float of binary32 and not below zero
abbrev pub Candidate : Float → Type 0
Candidate y = T (fits binary32 y) × T (unsigned y)

-- R is nearer to √a than Y is, unless they are equal: √a lies on R's side of their middle, (R + Y) / 2.
-- There are no real numbers here, so both sides are doubled and squared.
pub record Nearer (a R Y : ℕ) : Type 0 where
  pub above : R < Y → 4 * a < (R + Y) * (R + Y)
  pub below : Y < R → (R + Y) * (R + Y) < 4 * a

-- r is the candidate nearest to the root of x. In units of 2 ^ -149 the root of x is that of `in_units x * 2 ^ 149`, and each other candidate y
-- is further from it: the root lies on r's side of the middle of the two (`Nearer`). A float below zero is further than +0, so it needs no
-- comparison.
pub record Nearest (x r : Float) : Type 0 where
  pub candidate : Candidate r
  pub nearest : (y : Float) → Candidate y → Nearer (in_units x * 2 ^ 149) (in_units r) (in_units y)
