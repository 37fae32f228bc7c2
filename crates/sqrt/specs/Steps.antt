-- The words of the contracts of the functions that `sqrt` is made of. Definitions only. Assumes nothing.
use Rattle.std.specs.Prelude.{◌≡◌, ℕ, ◌+◌, ◌*◌, ◌^◌, ◌<◌, ◌≤◌, from_bits}
use Rattle.std.specs.Float.{binary32}
use Rattle.sqrt.specs.Nearest.{in_units}

-- m has 24 binary digits, and m * 2 ^ e is 2 ^ 24 times the value of the pattern b, in units of 2 ^ -149
pub record Unpacks (b m e : ℕ) : Type 0 where
  pub least : 2 ^ 23 ≤ m
  pub most : m < 2 ^ 24
  pub exponent : e ≤ 277
  pub value : m * 2 ^ e ≡ in_units (from_bits binary32 b) * 2 ^ 24

-- The whole number nearest to the root of n is r: the root lies between r - 1/2 and r + 1/2. In squares, and without the quarter, since n is a whole number.
pub record NearestRoot (n r : ℕ) : Type 0 where
  pub below : r * r < n + r
  pub above : n ≤ r * r + r
