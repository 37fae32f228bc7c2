-- What prepare does alike for the three kinds. Definitions only. Assumes nothing.
use Rattle.std.specs.Prelude.{Bool, false, cond, Float, eqb, ℤ, pos, negsuc}
use Rattle.math_functions.specs.declared.types.Vec3.{Vec3}
use Rattle.math_functions.specs.declared.types.Matrix3.{Matrix3}
use Rattle.math_functions.specs.declared.types.Transform.{Transform}
use Rattle.math_functions.specs.Float.{◌⊘◌, lt, gt, zero, one, threshold}
use Rattle.math_functions.specs.Types.{transform}
use Rattle.math_functions.specs.Vector.{sub, dot}
use Rattle.math_functions.specs.Quat.{rotate_vector, mul_quat}
use Rattle.math_functions.specs.Matrix.{det, add_mm, mul_mv}
use Rattle.records.specs.declared.body.BodyRecord.{BodyRecord}
use Rattle.records.specs.declared.joint.JointBase.{JointBase}
use Rattle.records.specs.Body.{null_index}
use Rattle.records.specs.Base.{with_made}

-- the determinant of the sum of the two inverse inertias
abbrev pub inertia_det : BodyRecord → BodyRecord → Float
inertia_det body_a body_b = det (add_mm body_a.inv_inertia_world body_b.inv_inertia_world)

-- document 01's `fixed_rotation` is det(sum of inertias) < 1000 × 2 ^ -126
unfoldable pub prepare_base : JointBase → BodyRecord → BodyRecord → JointBase
prepare_base base body_a body_b =
    with_made base
    (record {
      inv_mass_a = body_a.inv_mass;
      inv_mass_b = body_b.inv_mass;
      inv_i_a = body_a.inv_inertia_world;
      inv_i_b = body_b.inv_inertia_world;
      fixed_rotation = lt (inertia_det body_a body_b) threshold;
    })

-- set == AWAKE_SET, which is 2
abbrev pub is_awake : ℤ → Bool
is_awake (pos set) = eqb set 2
is_awake (negsuc set) = false

-- document 01's index: the local index if the set is 2 (AWAKE_SET), else -1
unfoldable pub awake_index : BodyRecord → ℤ
awake_index body = cond (is_awake body.set_index) body.local_index null_index

unfoldable pub prepare_frame : BodyRecord → Transform → Transform
prepare_frame body local_frame =
    transform
    (rotate_vector body.rotation (sub local_frame.p body.local_center))
    (mul_quat body.rotation local_frame.q)

unfoldable pub axial_mass : Matrix3 → Vec3 → Float
axial_mass inv_inertia_sum axis =
    let k = dot axis (mul_mv inv_inertia_sum axis) in
    cond (gt k zero) (one ⊘ k) zero
