-- The part of a joint that all kinds share, in two parts: the settings, and what prepare makes. Other definitions give its parts, and `built` the whole.
-- Definitions only. Assumes nothing.
use Rattle.std.specs.Prelude.{Bool, false, Float, ℤ}
use Rattle.math_functions.specs.declared.types.Matrix3.{Matrix3}
use Rattle.math_functions.specs.declared.types.Transform.{Transform}
use Rattle.math_functions.specs.Float.{zero}
use Rattle.math_functions.specs.Types.{mat3_zero, transform_identity}
use Rattle.solver.specs.declared.Softness.{Softness}
use Rattle.solver.specs.Solver.{no_softness}
use Rattle.records.specs.declared.joint.JointBase.{JointBase}
use Rattle.records.specs.declared.joint.JointType.{JointType}
use Rattle.records.specs.Body.{null_index}

-- what no stage writes
pub record Settings : Type 0 where
  pub joint_id : ℤ
  pub body_id_a : ℤ
  pub body_id_b : ℤ
  pub type_ : JointType
  pub local_frame_a : Transform
  pub local_frame_b : Transform
  pub constraint_hertz : Float
  pub constraint_damping_ratio : Float
  pub constraint_softness : Softness
  pub force_threshold : Float
  pub torque_threshold : Float

-- what prepare makes
pub record Made : Type 0 where
  pub inv_mass_a : Float
  pub inv_mass_b : Float
  pub inv_i_a : Matrix3
  pub inv_i_b : Matrix3
  pub fixed_rotation : Bool

-- the record of the two parts
abbrev pub built : Settings → Made → JointBase
built settings made =
    record {
      joint_id = settings.joint_id;
      body_id_a = settings.body_id_a;
      body_id_b = settings.body_id_b;
      type_ = settings.type_;
      local_frame_a = settings.local_frame_a;
      local_frame_b = settings.local_frame_b;
      inv_mass_a = made.inv_mass_a;
      inv_mass_b = made.inv_mass_b;
      inv_i_a = made.inv_i_a;
      inv_i_b = made.inv_i_b;
      constraint_hertz = settings.constraint_hertz;
      constraint_damping_ratio = settings.constraint_damping_ratio;
      constraint_softness = settings.constraint_softness;
      force_threshold = settings.force_threshold;
      torque_threshold = settings.torque_threshold;
      fixed_rotation = made.fixed_rotation;
    }

abbrev pub settings_of : JointBase → Settings
settings_of base =
    record {
      joint_id = base.joint_id;
      body_id_a = base.body_id_a;
      body_id_b = base.body_id_b;
      type_ = base.type_;
      local_frame_a = base.local_frame_a;
      local_frame_b = base.local_frame_b;
      constraint_hertz = base.constraint_hertz;
      constraint_damping_ratio = base.constraint_damping_ratio;
      constraint_softness = base.constraint_softness;
      force_threshold = base.force_threshold;
      torque_threshold = base.torque_threshold;
    }

abbrev pub with_made : JointBase → Made → JointBase
with_made base made = built (settings_of base) made

-- ---- the Rust's default of JointSim, all but the union

-- the settings of a joint of a type, with these ids, frames and constraint softness, and all else as the default has it
abbrev pub settings_with : ℤ → ℤ → ℤ → JointType → Transform → Transform → Softness → Settings
settings_with joint_id body_id_a body_id_b type frame_a frame_b softness =
    record {
      joint_id = joint_id;
      body_id_a = body_id_a;
      body_id_b = body_id_b;
      type_ = type;
      local_frame_a = frame_a;
      local_frame_b = frame_b;
      constraint_hertz = zero;
      constraint_damping_ratio = zero;
      constraint_softness = softness;
      force_threshold = zero;
      torque_threshold = zero;
    }

abbrev pub default_settings : Settings
default_settings = settings_with null_index null_index null_index JointType.Distance transform_identity transform_identity no_softness

abbrev pub nothing_made : Made
nothing_made = record { inv_mass_a = zero; inv_mass_b = zero; inv_i_a = mat3_zero; inv_i_b = mat3_zero; fixed_rotation = false }

abbrev pub default_base : JointBase
default_base = built default_settings nothing_made
