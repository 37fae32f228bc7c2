-- The joints, bodies and states of examples 13 to 16 and of the captions: rotations, frames and deltas identity, all that is not named zero, and switches off.
-- Definitions only. Assumes nothing.
use Rattle.std.specs.Prelude.{Bool, true, false, ℤ, pos, Float}
use Rattle.std.specs.Float.{nan}
use Rattle.math_functions.specs.declared.types.Matrix3.{Matrix3}
use Rattle.math_functions.specs.declared.types.Transform.{Transform}
use Rattle.math_functions.specs.Float.{lit, zero, one}
use Rattle.math_functions.specs.Types.{matrix3, vec2_zero, vec3_zero, vec3_axis_x, vec3_axis_y, vec3_axis_z, quat_identity, mat3_zero, transform_identity}
use Rattle.solver.specs.declared.StepContext.{StepContext}
use Rattle.solver.specs.Solver.{no_softness, context_with}
use Rattle.records.specs.declared.body.BodyState.{BodyState}
use Rattle.records.specs.declared.body.BodyRecord.{BodyRecord}
use Rattle.records.specs.declared.joint.JointBase.{JointBase}
use Rattle.records.specs.declared.joint.JointType.{JointType}
use Rattle.records.specs.declared.joint.JointType.TheVariants as Kind
use Rattle.records.specs.declared.joint.JointSim.{JointSim}
use Rattle.records.specs.declared.joint.JointUnion.{JointUnion}
use Rattle.records.specs.declared.joint.JointUnion.TheVariants.{Revolute, Spherical, Weld, Other}
use Rattle.records.specs.declared.joint.RevoluteJoint.{RevoluteJoint}
use Rattle.records.specs.Base.{built, settings_with, nothing_made}
use Rattle.records.specs.Revolute.{default_revolute, with_settings}
use Rattle.records.specs.Weld.{default_weld}
use Rattle.records.specs.Joint.{no_angles, joint_sim}
use Rattle.revolute.specs.Revolute as R
use Rattle.weld.specs.Weld as W
use Rattle.scene.specs.Chain as Chain

-- 0.5
abbrev pub half : Float
half = lit 0x3f00_0000

abbrev pub mat3_identity : Matrix3
mat3_identity = matrix3 vec3_axis_x vec3_axis_y vec3_axis_z

-- a step by its length
abbrev pub step : Float → StepContext
step h = context_with h zero false

-- the common part of a joint, by its type and the frame on B
abbrev pub joint_base_on : JointType → Transform → JointBase
joint_base_on type frame_b = built (settings_with (pos 0) (pos 0) (pos 0) type transform_identity frame_b no_softness) nothing_made

abbrev pub joint_base : JointType → JointBase
joint_base type = joint_base_on type transform_identity

-- a hinge by its motor's switch, torque and speed, and its limit's switch, two angles and the impulse that is stored at the lower one
abbrev pub hinge : Bool → Float → Float → Bool → Float → Float → Float → RevoluteJoint
hinge enable_motor max_motor_torque motor_speed enable_limit lower_angle upper_angle lower_impulse =
    with_settings
    (R.with_impulses default_revolute vec3_zero vec2_zero zero zero lower_impulse zero vec3_zero vec3_zero)
    (record {
      hertz = zero;
      damping_ratio = zero;
      max_motor_torque = max_motor_torque;
      motor_speed = motor_speed;
      target_angle = zero;
      lower_angle = lower_angle;
      upper_angle = upper_angle;
      enable_spring = false;
      enable_motor = enable_motor;
      enable_limit = enable_limit;
    })

abbrev pub motor_joint : Float → Float → RevoluteJoint
motor_joint max_motor_torque motor_speed = hinge true max_motor_torque motor_speed false zero zero zero

-- a body of a set; the awake set is 2
abbrev pub body : ℤ → ℤ → Float → Matrix3 → BodyRecord
body set index inv_mass inv_inertia =
    record {
      set_index = set;
      local_index = index;
      inv_mass = inv_mass;
      inv_inertia_world = inv_inertia;
      rotation = quat_identity;
      center = vec3_zero;
      local_center = vec3_zero;
    }

abbrev pub free0 : BodyRecord
free0 = body (pos 2) (pos 0) one mat3_zero

abbrev pub free1 : BodyRecord
free1 = body (pos 2) (pos 1) one mat3_zero

-- one that can turn
abbrev pub turns0 : BodyRecord
turns0 = body (pos 2) (pos 0) one mat3_identity

-- a body at -1, with mass and inertia 0
abbrev pub fixed : BodyRecord
fixed = body (pos 0) (pos 0) zero mat3_zero

-- a weld joint, prepared
abbrev pub prepared_weld : BodyRecord → BodyRecord → JointSim
prepared_weld body_a body_b = (W.prepare_weld_joint (joint_sim (joint_base Kind.Weld) (Weld default_weld) no_angles) (step zero) body_a body_b).joint

-- a hinge of the world and body 0, prepared
abbrev pub prepared_hinge : RevoluteJoint → StepContext → JointSim
prepared_hinge j context = (R.prepare_revolute_joint (joint_sim (joint_base Kind.Revolute) (Revolute j) no_angles) context fixed turns0).joint

-- a dynamic body that moves along x
abbrev pub moving : Float → BodyState
moving x = Chain.moving x 0x1000

-- the linear impulse along x of a weld, and the motor impulse of a revolute joint; another case has none
abbrev pub linear_impulse_x : JointUnion → Float
linear_impulse_x (Revolute j) = nan
linear_impulse_x (Spherical j) = nan
linear_impulse_x (Weld j) = j.linear_impulse.x
linear_impulse_x Other = nan

abbrev pub motor_impulse : JointUnion → Float
motor_impulse (Revolute j) = j.motor_impulse
motor_impulse (Spherical j) = nan
motor_impulse (Weld j) = nan
motor_impulse Other = nan
