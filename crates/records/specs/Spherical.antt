-- The record of a spherical joint in four parts: what a solve writes, the settings, the two indices, and what prepare makes. Other
-- definitions give its parts, and `built` the whole. Definitions only. Assumes nothing.
use Rattle.std.specs.Prelude.{Bool, false, Float, ℤ}
use Rattle.math_functions.specs.declared.types.Vec3.{Vec3}
use Rattle.math_functions.specs.declared.types.Quat.{Quat}
use Rattle.math_functions.specs.declared.types.Matrix3.{Matrix3}
use Rattle.math_functions.specs.declared.types.Transform.{Transform}
use Rattle.math_functions.specs.Float.{zero}
use Rattle.math_functions.specs.Types.{vec3_zero, quat_identity, mat3_zero, transform_identity}
use Rattle.solver.specs.declared.Softness.{Softness}
use Rattle.solver.specs.Solver.{no_softness}
use Rattle.records.specs.declared.joint.SphericalJoint.{SphericalJoint}
use Rattle.records.specs.Body.{null_index}

-- what a solve writes: the impulses
pub record Written : Type 0 where
  pub linear_impulse : Vec3
  pub spring_impulse : Vec3
  pub motor_impulse : Vec3
  pub lower_twist_impulse : Float
  pub upper_twist_impulse : Float
  pub swing_impulse : Float

-- what no stage writes
pub record Settings : Type 0 where
  pub hertz : Float
  pub damping_ratio : Float
  pub max_motor_torque : Float
  pub motor_velocity : Vec3
  pub lower_twist_angle : Float
  pub upper_twist_angle : Float
  pub cone_angle : Float
  pub target_rotation : Quat
  pub enable_spring : Bool
  pub enable_motor : Bool
  pub enable_cone_limit : Bool
  pub enable_twist_limit : Bool

-- what prepare makes, but for the indices
pub record Made : Type 0 where
  pub frame_a : Transform
  pub frame_b : Transform
  pub delta_center : Vec3
  pub swing_axis : Vec3
  pub twist_jacobian : Vec3
  pub rotation_mass : Matrix3
  pub swing_mass : Float
  pub twist_mass : Float
  pub spring_softness : Softness

-- the record of the four parts
abbrev pub built : Written → Settings → ℤ → ℤ → Made → SphericalJoint
built written settings index_a index_b made =
    record {
      linear_impulse = written.linear_impulse;
      spring_impulse = written.spring_impulse;
      motor_impulse = written.motor_impulse;
      lower_twist_impulse = written.lower_twist_impulse;
      upper_twist_impulse = written.upper_twist_impulse;
      swing_impulse = written.swing_impulse;
      hertz = settings.hertz;
      damping_ratio = settings.damping_ratio;
      max_motor_torque = settings.max_motor_torque;
      motor_velocity = settings.motor_velocity;
      lower_twist_angle = settings.lower_twist_angle;
      upper_twist_angle = settings.upper_twist_angle;
      cone_angle = settings.cone_angle;
      target_rotation = settings.target_rotation;
      index_a = index_a;
      index_b = index_b;
      frame_a = made.frame_a;
      frame_b = made.frame_b;
      delta_center = made.delta_center;
      swing_axis = made.swing_axis;
      twist_jacobian = made.twist_jacobian;
      rotation_mass = made.rotation_mass;
      swing_mass = made.swing_mass;
      twist_mass = made.twist_mass;
      spring_softness = made.spring_softness;
      enable_spring = settings.enable_spring;
      enable_motor = settings.enable_motor;
      enable_cone_limit = settings.enable_cone_limit;
      enable_twist_limit = settings.enable_twist_limit;
    }

abbrev pub written_of : SphericalJoint → Written
written_of j =
    record {
      linear_impulse = j.linear_impulse;
      spring_impulse = j.spring_impulse;
      motor_impulse = j.motor_impulse;
      lower_twist_impulse = j.lower_twist_impulse;
      upper_twist_impulse = j.upper_twist_impulse;
      swing_impulse = j.swing_impulse;
    }

abbrev pub settings_of : SphericalJoint → Settings
settings_of j =
    record {
      hertz = j.hertz;
      damping_ratio = j.damping_ratio;
      max_motor_torque = j.max_motor_torque;
      motor_velocity = j.motor_velocity;
      lower_twist_angle = j.lower_twist_angle;
      upper_twist_angle = j.upper_twist_angle;
      cone_angle = j.cone_angle;
      target_rotation = j.target_rotation;
      enable_spring = j.enable_spring;
      enable_motor = j.enable_motor;
      enable_cone_limit = j.enable_cone_limit;
      enable_twist_limit = j.enable_twist_limit;
    }

abbrev pub made_of : SphericalJoint → Made
made_of j =
    record {
      frame_a = j.frame_a;
      frame_b = j.frame_b;
      delta_center = j.delta_center;
      swing_axis = j.swing_axis;
      twist_jacobian = j.twist_jacobian;
      rotation_mass = j.rotation_mass;
      swing_mass = j.swing_mass;
      twist_mass = j.twist_mass;
      spring_softness = j.spring_softness;
    }

-- ---- one part other, and all else as it was

abbrev pub with_written : SphericalJoint → Written → SphericalJoint
with_written j written = built written (settings_of j) j.index_a j.index_b (made_of j)

abbrev pub with_settings : SphericalJoint → Settings → SphericalJoint
with_settings j settings = built (written_of j) settings j.index_a j.index_b (made_of j)

abbrev pub with_indices : SphericalJoint → ℤ → ℤ → SphericalJoint
with_indices j index_a index_b = built (written_of j) (settings_of j) index_a index_b (made_of j)

-- ---- the Rust's default

abbrev pub nothing_written : Written
nothing_written =
    record {
      linear_impulse = vec3_zero;
      spring_impulse = vec3_zero;
      motor_impulse = vec3_zero;
      lower_twist_impulse = zero;
      upper_twist_impulse = zero;
      swing_impulse = zero;
    }

abbrev pub default_settings : Settings
default_settings =
    record {
      hertz = zero;
      damping_ratio = zero;
      max_motor_torque = zero;
      motor_velocity = vec3_zero;
      lower_twist_angle = zero;
      upper_twist_angle = zero;
      cone_angle = zero;
      target_rotation = quat_identity;
      enable_spring = false;
      enable_motor = false;
      enable_cone_limit = false;
      enable_twist_limit = false;
    }

abbrev pub nothing_made : Made
nothing_made =
    record {
      frame_a = transform_identity;
      frame_b = transform_identity;
      delta_center = vec3_zero;
      swing_axis = vec3_zero;
      twist_jacobian = vec3_zero;
      rotation_mass = mat3_zero;
      swing_mass = zero;
      twist_mass = zero;
      spring_softness = no_softness;
    }

abbrev pub default_spherical : SphericalJoint
default_spherical = built nothing_written default_settings null_index null_index nothing_made
