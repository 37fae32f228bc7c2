-- A door on its hinge: a revolute joint with a spring, a motor and limits. Definitions only. Assumes nothing.
use Rattle.std.specs.Prelude.{true, ℕ}
use Rattle.math_functions.specs.Float.{neg, one}
use Rattle.math_functions.specs.Constants.{decimal}
use Rattle.math_functions.specs.Types.{vec2, vec3_zero}
use Rattle.records.specs.declared.joint.JointType.TheVariants as JointType
use Rattle.records.specs.declared.joint.JointUnion.TheVariants.{Revolute}
use Rattle.records.specs.declared.joint.JointSim.{JointSim}
use Rattle.records.specs.declared.joint.RevoluteJoint.{RevoluteJoint}
use Rattle.records.specs.Revolute.{Written, Settings, default_revolute, with_written, with_settings}
use Rattle.records.specs.Joint.{no_angles, joint_sim}
use Rattle.models.specs.declared.Model.{Model}
use Rattle.models.specs.Base.{linear_impulse, post, joint_base}
use Rattle.models.specs.Body.{fixed_body, slab}

abbrev pub impulses : Written
impulses =
    record {
      linear_impulse = linear_impulse;
      perp_impulse = vec2 (decimal 1 2) (decimal 2 2);
      spring_impulse = decimal 1 2;
      motor_impulse = decimal 2 2;
      lower_impulse = decimal 3 2;
      upper_impulse = decimal 1 2;
      perp_axis_x = vec3_zero;
      perp_axis_y = vec3_zero;
    }

abbrev pub settings : Settings
settings =
    record {
      hertz = decimal 4 0;
      damping_ratio = decimal 7 1;
      max_motor_torque = decimal 20 0;
      motor_speed = decimal 5 1;
      target_angle = decimal 25 2;
      lower_angle = neg (decimal 125 3);
      upper_angle = decimal 9375 5;
      enable_spring = true;
      enable_motor = true;
      enable_limit = true;
    }

-- the hinge, with impulses that a step before has left
unfoldable pub hinge : RevoluteJoint
hinge = with_settings (with_written default_revolute impulses) settings

unfoldable pub hinge_joint : ℕ → JointSim
hinge_joint leaf = joint_sim (joint_base JointType.Revolute 0 post leaf) (Revolute hinge) no_angles

-- the post stands fast, and the leaf is at an index of the awake set
unfoldable pub door : ℕ → Model
door leaf = record { joint = hinge_joint leaf; body_a = fixed_body; body_b = slab leaf one }
