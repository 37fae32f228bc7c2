-- The rotation of frame B relative to frame A. Definitions only. Assumes nothing.
use Rattle.std.specs.Prelude.{cond}
use Rattle.math_functions.specs.declared.types.Vec3.{Vec3}
use Rattle.math_functions.specs.declared.types.Quat.{Quat}
use Rattle.math_functions.specs.Float.{lt, zero}
use Rattle.math_functions.specs.Quat.{dot_quat, mul_quat, inv_mul_quat, negate_quat, rotate_vector, delta_quat_to_rotation}
use Rattle.math_functions.specs.Vector.{neg}
use Rattle.constraint.specs.declared.rotation.RelativeRotation.{RelativeRotation}

abbrev pub relative : Quat → Quat → RelativeRotation
relative quat_a rel_q = record { quat_a = quat_a; rel_q = rel_q }

unfoldable pub same_polarity : Quat → Quat → Quat
same_polarity p q = cond (lt (dot_quat p q) zero) (negate_quat q) q

-- spherical: the second quaternion is not flipped
unfoldable pub relative_rotation : Quat → Quat → Quat → Quat → RelativeRotation
relative_rotation delta_a frame_a delta_b frame_b =
    let quat_a = mul_quat delta_a frame_a in
    let quat_b = mul_quat delta_b frame_b in
    relative quat_a (inv_mul_quat quat_a quat_b)

-- revolute and weld, in a solve: the second quaternion is flipped where it lies on the other side from the first
unfoldable pub flipped_relative_rotation : Quat → Quat → Quat → Quat → RelativeRotation
flipped_relative_rotation delta_a frame_a delta_b frame_b =
    let quat_a = mul_quat delta_a frame_a in
    let quat_b = same_polarity quat_a (mul_quat delta_b frame_b) in
    relative quat_a (inv_mul_quat quat_a quat_b)

-- weld's angular row, spherical's spring: the error is minus the rotation that takes rel_q to the target, turned into the world by quat_a
abbrev pub rotation_error : RelativeRotation → Quat → Vec3
rotation_error rotation target = neg (rotate_vector rotation.quat_a (delta_quat_to_rotation rotation.rel_q target))
