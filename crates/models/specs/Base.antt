-- The part of a joint that all kinds share, and the impulses that the models begin with. Definitions only. Assumes nothing.
use Rattle.std.specs.Prelude.{ℕ, pos}
use Rattle.math_functions.specs.declared.types.Transform.{Transform}
use Rattle.math_functions.specs.declared.types.Vec3.{Vec3}
use Rattle.math_functions.specs.Float.{neg, two}
use Rattle.math_functions.specs.Constants.{decimal}
use Rattle.math_functions.specs.Types.{vec3, quat, transform, quat_identity}
use Rattle.solver.specs.Solver.{make_soft}
use Rattle.records.specs.declared.joint.JointBase.{JointBase}
use Rattle.records.specs.declared.joint.JointType.{JointType}
use Rattle.records.specs.Base.{built, nothing_made}
use Rattle.models.specs.Model.{step}

-- a joint's frame on its first body, half way to the second, and on the second, a little turned and tilted
abbrev pub frame_a : Transform
frame_a = transform (vec3 (decimal 5 1) (decimal 625 4) (neg (decimal 125 3))) quat_identity

abbrev pub frame_b : Transform
frame_b =
    transform
    (vec3 (neg (decimal 5 1)) (decimal 625 4) (neg (decimal 125 3)))
    (quat (vec3 (decimal 3125 5) (decimal 625 4) (decimal 46875 6)) (decimal 996454 6))

-- LINEAR_IMPULSE and ANGULAR_IMPULSE: what a step before has left
abbrev pub linear_impulse : Vec3
linear_impulse = vec3 (decimal 1 2) (neg (decimal 2 2)) (decimal 3 2)

abbrev pub angular_impulse : Vec3
angular_impulse = vec3 (decimal 2 2) (decimal 1 2) (neg (decimal 1 2))

-- POST: the number of what stands fast
abbrev pub post : ℕ
post = 32

-- a stiff joint's part by its type, its number and those of its two bodies
unfoldable pub joint_base : JointType → ℕ → ℕ → ℕ → JointBase
joint_base type joint body_a body_b =
    built
    (record {
      joint_id = pos joint;
      body_id_a = pos body_a;
      body_id_b = pos body_b;
      type_ = type;
      local_frame_a = frame_a;
      local_frame_b = frame_b;
      constraint_hertz = decimal 60 0;
      constraint_damping_ratio = two;
      constraint_softness = make_soft (decimal 60 0) two step.h;
      force_threshold = decimal 1000 0;
      torque_threshold = decimal 1000 0;
    })
    nothing_made
