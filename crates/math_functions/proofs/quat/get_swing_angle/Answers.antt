-- What `atan2_non_negative` requires is that no square root is below zero. Assumes nothing.
use Rattle.math_functions.proofs.Roots.{root_not_below_zero}
use Rattle.math_functions.proofs.quat.get_swing_angle.Goals as goal

pub atan2_non_negative-requires : goal.atan2_non_negative-requires
atan2_non_negative-requires c = (rw c.sqrt-y.ensures (root_not_below_zero _), rw c.sqrt-x.ensures (root_not_below_zero _))
