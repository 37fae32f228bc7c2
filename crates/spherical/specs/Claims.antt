-- What is said of a spherical joint's limits. Definitions only. Assumes nothing.
use Rattle.std.specs.Prelude.{◌≡◌, true}
use Rattle.records.specs.declared.joint.SphericalJoint.{SphericalJoint}
use Rattle.constraint.specs.Claims.{NonNegative}

-- the impulse of each limit that is on is zero or positive, and no NaN: `next` is the joint `j` after a solve, where its rotation is not fixed
pub record LimitImpulsesNonNegative (j next : SphericalJoint) : Type 0 where
  pub lower_twist : j.enable_twist_limit ≡ true → NonNegative next.lower_twist_impulse
  pub upper_twist : j.enable_twist_limit ≡ true → NonNegative next.upper_twist_impulse
  pub swing : j.enable_cone_limit ≡ true → NonNegative next.swing_impulse
