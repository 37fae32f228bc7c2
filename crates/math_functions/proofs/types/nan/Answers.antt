-- `types::nan` is the NaN: the checker computes it. Assumes nothing.
use Rattle.std.proofs.Common.{refl}
use Rattle.std.specs.Float.Ieee as Ieee
use Rattle.math_functions.proofs.types.nan.Goals as goal

pub returns : goal.returns
unfolding Ieee.div Ieee.of_bits
returns c = refl
