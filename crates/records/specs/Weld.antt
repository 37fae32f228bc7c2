-- The record of a weld joint in four parts: what a solve writes, the settings, the two indices, and what prepare makes. Other
-- definitions give its parts, and `built` the whole. Definitions only. Assumes nothing.
use Rattle.std.specs.Prelude.{Float, ℤ}
use Rattle.math_functions.specs.declared.types.Vec3.{Vec3}
use Rattle.math_functions.specs.declared.types.Matrix3.{Matrix3}
use Rattle.math_functions.specs.declared.types.Transform.{Transform}
use Rattle.math_functions.specs.Float.{zero}
use Rattle.math_functions.specs.Types.{vec3_zero, mat3_zero, transform_identity}
use Rattle.solver.specs.declared.Softness.{Softness}
use Rattle.solver.specs.Solver.{no_softness}
use Rattle.records.specs.declared.joint.WeldJoint.{WeldJoint}
use Rattle.records.specs.Body.{null_index}

-- what a solve writes: the impulses
pub record Written : Type 0 where
  pub linear_impulse : Vec3
  pub angular_impulse : Vec3

-- what no stage writes
pub record Settings : Type 0 where
  pub linear_hertz : Float
  pub linear_damping_ratio : Float
  pub angular_hertz : Float
  pub angular_damping_ratio : Float

-- what prepare makes, but for the indices
pub record Made : Type 0 where
  pub linear_spring : Softness
  pub angular_spring : Softness
  pub frame_a : Transform
  pub frame_b : Transform
  pub delta_center : Vec3
  pub angular_mass : Matrix3

-- the record of the four parts
abbrev pub built : Written → Settings → ℤ → ℤ → Made → WeldJoint
built written settings index_a index_b made =
    record {
      linear_hertz = settings.linear_hertz;
      linear_damping_ratio = settings.linear_damping_ratio;
      angular_hertz = settings.angular_hertz;
      angular_damping_ratio = settings.angular_damping_ratio;
      linear_spring = made.linear_spring;
      angular_spring = made.angular_spring;
      linear_impulse = written.linear_impulse;
      angular_impulse = written.angular_impulse;
      index_a = index_a;
      index_b = index_b;
      frame_a = made.frame_a;
      frame_b = made.frame_b;
      delta_center = made.delta_center;
      angular_mass = made.angular_mass;
    }

abbrev pub written_of : WeldJoint → Written
written_of j =
    record { linear_impulse = j.linear_impulse; angular_impulse = j.angular_impulse }

abbrev pub settings_of : WeldJoint → Settings
settings_of j =
    record {
      linear_hertz = j.linear_hertz;
      linear_damping_ratio = j.linear_damping_ratio;
      angular_hertz = j.angular_hertz;
      angular_damping_ratio = j.angular_damping_ratio;
    }

abbrev pub made_of : WeldJoint → Made
made_of j =
    record {
      linear_spring = j.linear_spring;
      angular_spring = j.angular_spring;
      frame_a = j.frame_a;
      frame_b = j.frame_b;
      delta_center = j.delta_center;
      angular_mass = j.angular_mass;
    }

-- ---- one part other, and all else as it was

abbrev pub with_written : WeldJoint → Written → WeldJoint
with_written j written = built written (settings_of j) j.index_a j.index_b (made_of j)

abbrev pub with_settings : WeldJoint → Settings → WeldJoint
with_settings j settings = built (written_of j) settings j.index_a j.index_b (made_of j)

abbrev pub with_indices : WeldJoint → ℤ → ℤ → WeldJoint
with_indices j index_a index_b = built (written_of j) (settings_of j) index_a index_b (made_of j)

-- ---- the Rust's default

abbrev pub nothing_written : Written
nothing_written =
    record { linear_impulse = vec3_zero; angular_impulse = vec3_zero }

abbrev pub default_settings : Settings
default_settings =
    record { linear_hertz = zero; linear_damping_ratio = zero; angular_hertz = zero; angular_damping_ratio = zero }

abbrev pub nothing_made : Made
nothing_made =
    record {
      linear_spring = no_softness;
      angular_spring = no_softness;
      frame_a = transform_identity;
      frame_b = transform_identity;
      delta_center = vec3_zero;
      angular_mass = mat3_zero;
    }

abbrev pub default_weld : WeldJoint
default_weld = built nothing_written default_settings null_index null_index nothing_made
