-- A hip in its socket: a spherical joint with a spring, a motor, limits of its twist and a cone. Definitions only. Assumes nothing.
use Rattle.std.specs.Prelude.{true, ℕ}
use Rattle.math_functions.specs.Float.{neg, two}
use Rattle.math_functions.specs.Constants.{decimal}
use Rattle.math_functions.specs.Types.{vec3, quat}
use Rattle.records.specs.declared.joint.JointType.TheVariants as JointType
use Rattle.records.specs.declared.joint.JointUnion.TheVariants.{Spherical}
use Rattle.records.specs.declared.joint.JointSim.{JointSim}
use Rattle.records.specs.declared.joint.SphericalJoint.{SphericalJoint}
use Rattle.records.specs.Spherical.{Written, Settings, default_spherical, with_written, with_settings}
use Rattle.records.specs.Joint.{no_angles, joint_sim}
use Rattle.models.specs.declared.Model.{Model}
use Rattle.models.specs.Base.{linear_impulse, angular_impulse, joint_base}
use Rattle.models.specs.Body.{slab}

abbrev pub impulses : Written
impulses =
    record {
      linear_impulse = linear_impulse;
      spring_impulse = angular_impulse;
      motor_impulse = vec3 (decimal 1 2) (decimal 3 2) (neg (decimal 2 2));
      lower_twist_impulse = decimal 1 2;
      upper_twist_impulse = decimal 2 2;
      swing_impulse = decimal 3 2;
    }

abbrev pub settings : Settings
settings =
    record {
      hertz = decimal 4 0;
      damping_ratio = decimal 7 1;
      max_motor_torque = decimal 20 0;
      motor_velocity = vec3 (decimal 125 3) (neg (decimal 25 2)) (decimal 375 3);
      lower_twist_angle = neg (decimal 125 3);
      upper_twist_angle = decimal 9375 5;
      cone_angle = decimal 125 3;
      target_rotation = quat (vec3 (decimal 2 2) (neg (decimal 1 2)) (decimal 3 2)) (decimal 9993 4);
      enable_spring = true;
      enable_motor = true;
      enable_cone_limit = true;
      enable_twist_limit = true;
    }

-- the socket, with impulses that a step before has left
unfoldable pub socket : SphericalJoint
socket = with_settings (with_written default_spherical impulses) settings

unfoldable pub socket_joint : ℕ → ℕ → JointSim
socket_joint pelvis thigh = joint_sim (joint_base JointType.Spherical 1 pelvis thigh) (Spherical socket) no_angles

-- the pelvis and the thigh are at indices of the awake set
unfoldable pub hip : ℕ → ℕ → Model
hip pelvis thigh = record { joint = socket_joint pelvis thigh; body_a = slab pelvis two; body_b = slab thigh (decimal 3 0) }
