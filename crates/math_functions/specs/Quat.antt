-- math_functions/quat.rs: quaternions, and the twist and swing angles. Definitions only. Assumes nothing.
use Rattle.std.specs.Prelude.{cond}
use Rattle.std.specs.Prelude.{Float}
use Rattle.sqrt.specs.Sqrt.{sqrt}
use Rattle.math_functions.specs.declared.types.Vec3.{Vec3}
use Rattle.math_functions.specs.declared.types.Quat.{Quat}
use Rattle.math_functions.specs.Float.{◌⊕◌, ◌⊖◌, ◌⊗◌, neg, lt, zero, two}
use Rattle.math_functions.specs.Types.{vec3, quat}
use Rattle.math_functions.specs.Scalar.{atan2}
use Rattle.math_functions.specs.Vector.{sub, dot, mul_add, mul_sub, mul_sv, cross}

unfoldable pub rotate_vector : Quat → Vec3 → Vec3
rotate_vector q v =
    let t1 = cross q.v v in
    let t2 = mul_add t1 q.s v in
    let t3 = cross q.v t2 in
    mul_add v two t3

unfoldable pub dot_quat : Quat → Quat → Float
dot_quat a b = a.v.x ⊗ b.v.x ⊕ a.v.y ⊗ b.v.y ⊕ a.v.z ⊗ b.v.z ⊕ a.s ⊗ b.s

unfoldable pub mul_quat : Quat → Quat → Quat
mul_quat q1 q2 =
    let t1 = cross q1.v q2.v in
    let t2 = mul_add t1 q1.s q2.v in
    let t3 = mul_add t2 q2.s q1.v in
    quat t3 (q1.s ⊗ q2.s ⊖ dot q1.v q2.v)

-- the relative quaternion inv(q1) * q2
unfoldable pub inv_mul_quat : Quat → Quat → Quat
inv_mul_quat q1 q2 =
    let t1 = cross q2.v q1.v in
    let t2 = mul_add t1 q1.s q2.v in
    let t3 = mul_sub t2 q2.s q1.v in
    quat t3 (q1.s ⊗ q2.s ⊕ dot q1.v q2.v)

unfoldable pub conjugate : Quat → Quat
conjugate q = quat (vec3 (neg q.v.x) (neg q.v.y) (neg q.v.z)) q.s

unfoldable pub negate_quat : Quat → Quat
negate_quat q = quat (vec3 (neg q.v.x) (neg q.v.y) (neg q.v.z)) (neg q.s)

unfoldable pub get_twist_angle : Quat → Float
get_twist_angle q =
    let twist = cond (lt q.s zero) (atan2 (neg q.v.z) (neg q.s)) (atan2 q.v.z q.s) in
    twist ⊗ two

unfoldable pub delta_quat_to_rotation : Quat → Quat → Vec3
delta_quat_to_rotation q target =
    let s = cond (lt (dot_quat q target) zero) (negate_quat q) q in
    let diff = quat (sub target.v s.v) (target.s ⊖ s.s) in
    let product = mul_quat diff (conjugate s) in
    mul_sv two product.v

unfoldable pub get_swing_angle : Quat → Float
get_swing_angle q =
    let x = sqrt (q.v.z ⊗ q.v.z ⊕ q.s ⊗ q.s) in
    let y = sqrt (q.v.x ⊗ q.v.x ⊕ q.v.y ⊗ q.v.y) in
    two ⊗ atan2 y x
