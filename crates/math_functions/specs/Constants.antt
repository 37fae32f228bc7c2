-- Decimals as floats of binary32: by these a literal, or a figure of a model, is given. Definitions only. Assumes nothing.
use Rattle.std.specs.Prelude.{ℕ, ◌^◌, false}
use Rattle.std.specs.Float.Ieee as Ieee
use Rattle.std.specs.Prelude.{Float}
use Rattle.std.specs.Float.{binary32}

-- the float nearest to digits / 10 ^ places
abbrev pub decimal : ℕ → ℕ → Float
decimal digits places = Ieee.round binary32 false digits (10 ^ places)
