-- The record of a revolute joint in four parts: what a solve writes, the settings, the two indices, and what prepare makes. Other
-- definitions give its parts, and `built` the whole. Definitions only. Assumes nothing.
use Rattle.std.specs.Prelude.{Bool, false, Float, ℤ}
use Rattle.math_functions.specs.declared.types.Vec2.{Vec2}
use Rattle.math_functions.specs.declared.types.Vec3.{Vec3}
use Rattle.math_functions.specs.declared.types.Transform.{Transform}
use Rattle.math_functions.specs.Float.{zero}
use Rattle.math_functions.specs.Types.{vec2_zero, vec3_zero, transform_identity}
use Rattle.solver.specs.declared.Softness.{Softness}
use Rattle.solver.specs.Solver.{no_softness}
use Rattle.records.specs.declared.joint.RevoluteJoint.{RevoluteJoint}
use Rattle.records.specs.Body.{null_index}

-- what a solve writes: the impulses and the two perpendicular axes
pub record Written : Type 0 where
  pub linear_impulse : Vec3
  pub perp_impulse : Vec2
  pub spring_impulse : Float
  pub motor_impulse : Float
  pub lower_impulse : Float
  pub upper_impulse : Float
  pub perp_axis_x : Vec3
  pub perp_axis_y : Vec3

-- what no stage writes
pub record Settings : Type 0 where
  pub hertz : Float
  pub damping_ratio : Float
  pub max_motor_torque : Float
  pub motor_speed : Float
  pub target_angle : Float
  pub lower_angle : Float
  pub upper_angle : Float
  pub enable_spring : Bool
  pub enable_motor : Bool
  pub enable_limit : Bool

-- what prepare makes, but for the indices and the two perpendicular axes, which a solve writes too; and `delta_angle`, which no stage writes
pub record Made : Type 0 where
  pub frame_a : Transform
  pub frame_b : Transform
  pub rotation_axis_z : Vec3
  pub delta_center : Vec3
  pub delta_angle : Float
  pub axial_mass : Float
  pub spring_softness : Softness

-- the record of the four parts
abbrev pub built : Written → Settings → ℤ → ℤ → Made → RevoluteJoint
built written settings index_a index_b made =
    record {
      linear_impulse = written.linear_impulse;
      perp_impulse = written.perp_impulse;
      spring_impulse = written.spring_impulse;
      motor_impulse = written.motor_impulse;
      lower_impulse = written.lower_impulse;
      upper_impulse = written.upper_impulse;
      hertz = settings.hertz;
      damping_ratio = settings.damping_ratio;
      max_motor_torque = settings.max_motor_torque;
      motor_speed = settings.motor_speed;
      target_angle = settings.target_angle;
      lower_angle = settings.lower_angle;
      upper_angle = settings.upper_angle;
      index_a = index_a;
      index_b = index_b;
      frame_a = made.frame_a;
      frame_b = made.frame_b;
      rotation_axis_z = made.rotation_axis_z;
      perp_axis_x = written.perp_axis_x;
      perp_axis_y = written.perp_axis_y;
      delta_center = made.delta_center;
      delta_angle = made.delta_angle;
      axial_mass = made.axial_mass;
      spring_softness = made.spring_softness;
      enable_spring = settings.enable_spring;
      enable_motor = settings.enable_motor;
      enable_limit = settings.enable_limit;
    }

abbrev pub written_of : RevoluteJoint → Written
written_of j =
    record {
      linear_impulse = j.linear_impulse;
      perp_impulse = j.perp_impulse;
      spring_impulse = j.spring_impulse;
      motor_impulse = j.motor_impulse;
      lower_impulse = j.lower_impulse;
      upper_impulse = j.upper_impulse;
      perp_axis_x = j.perp_axis_x;
      perp_axis_y = j.perp_axis_y;
    }

abbrev pub settings_of : RevoluteJoint → Settings
settings_of j =
    record {
      hertz = j.hertz;
      damping_ratio = j.damping_ratio;
      max_motor_torque = j.max_motor_torque;
      motor_speed = j.motor_speed;
      target_angle = j.target_angle;
      lower_angle = j.lower_angle;
      upper_angle = j.upper_angle;
      enable_spring = j.enable_spring;
      enable_motor = j.enable_motor;
      enable_limit = j.enable_limit;
    }

abbrev pub made_of : RevoluteJoint → Made
made_of j =
    record {
      frame_a = j.frame_a;
      frame_b = j.frame_b;
      rotation_axis_z = j.rotation_axis_z;
      delta_center = j.delta_center;
      delta_angle = j.delta_angle;
      axial_mass = j.axial_mass;
      spring_softness = j.spring_softness;
    }

-- ---- one part other, and all else as it was

abbrev pub with_written : RevoluteJoint → Written → RevoluteJoint
with_written j written = built written (settings_of j) j.index_a j.index_b (made_of j)

abbrev pub with_settings : RevoluteJoint → Settings → RevoluteJoint
with_settings j settings = built (written_of j) settings j.index_a j.index_b (made_of j)

abbrev pub with_indices : RevoluteJoint → ℤ → ℤ → RevoluteJoint
with_indices j index_a index_b = built (written_of j) (settings_of j) index_a index_b (made_of j)

-- ---- the Rust's default

abbrev pub nothing_written : Written
nothing_written =
    record {
      linear_impulse = vec3_zero;
      perp_impulse = vec2_zero;
      spring_impulse = zero;
      motor_impulse = zero;
      lower_impulse = zero;
      upper_impulse = zero;
      perp_axis_x = vec3_zero;
      perp_axis_y = vec3_zero;
    }

abbrev pub default_settings : Settings
default_settings =
    record {
      hertz = zero;
      damping_ratio = zero;
      max_motor_torque = zero;
      motor_speed = zero;
      target_angle = zero;
      lower_angle = zero;
      upper_angle = zero;
      enable_spring = false;
      enable_motor = false;
      enable_limit = false;
    }

abbrev pub nothing_made : Made
nothing_made =
    record {
      frame_a = transform_identity;
      frame_b = transform_identity;
      rotation_axis_z = vec3_zero;
      delta_center = vec3_zero;
      delta_angle = zero;
      axial_mass = zero;
      spring_softness = no_softness;
    }

abbrev pub default_revolute : RevoluteJoint
default_revolute = built nothing_written default_settings null_index null_index nothing_made
