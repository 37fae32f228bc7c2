-- What is said of a revolute joint's limits, and the matrix of its perpendicular row. Definitions only. Assumes nothing.
use Rattle.std.specs.Prelude.{◌≡◌, true}
use Rattle.math_functions.specs.declared.matrix.Mat2.{Mat2}
use Rattle.math_functions.specs.Types.{vec3_axis_x, vec3_axis_y}
use Rattle.math_functions.specs.Matrix.{add_mm}
use Rattle.records.specs.declared.body.BodyState.{BodyState}
use Rattle.records.specs.declared.joint.JointBase.{JointBase}
use Rattle.records.specs.declared.joint.RevoluteJoint.{RevoluteJoint}
use Rattle.constraint.specs.Claims.{NonNegative}
use Rattle.revolute.specs.Revolute.{perp_axis, perp_mass, joint_rotation}

-- the impulses of a limit that is on are zero or positive, and no NaN: `next` is the joint `j` after a solve, where its rotation is not fixed
pub record LimitImpulsesNonNegative (j next : RevoluteJoint) : Type 0 where
  pub lower : j.enable_limit ≡ true → NonNegative next.lower_impulse
  pub upper : j.enable_limit ≡ true → NonNegative next.upper_impulse

-- the 2-by-2 matrix that a solve forms for its perpendicular row, about the two axes that it finds
abbrev pub perp_matrix : JointBase → RevoluteJoint → BodyState → BodyState → Mat2
perp_matrix base j state_a state_b =
    let rotation = joint_rotation j state_a state_b in
    let axis_x = perp_axis rotation.quat_a rotation.rel_q vec3_axis_x in
    let axis_y = perp_axis rotation.quat_a rotation.rel_q vec3_axis_y in
    perp_mass (add_mm base.inv_i_a base.inv_i_b) axis_x axis_y
