-- A strut welded to its pier: a weld joint that gives a little, in place and in angle. Definitions only. Assumes nothing.
use Rattle.std.specs.Prelude.{ℕ}
use Rattle.math_functions.specs.Float.{one, two}
use Rattle.math_functions.specs.Constants.{decimal}
use Rattle.records.specs.declared.joint.JointType.TheVariants as JointType
use Rattle.records.specs.declared.joint.JointUnion.TheVariants.{Weld}
use Rattle.records.specs.declared.joint.JointSim.{JointSim}
use Rattle.records.specs.declared.joint.WeldJoint.{WeldJoint}
use Rattle.records.specs.Weld.{Written, Settings, default_weld, with_written, with_settings}
use Rattle.records.specs.Joint.{no_angles, joint_sim}
use Rattle.models.specs.declared.Model.{Model}
use Rattle.models.specs.Base.{linear_impulse, angular_impulse, post, joint_base}
use Rattle.models.specs.Body.{fixed_body, slab}

abbrev pub impulses : Written
impulses = record { linear_impulse = linear_impulse; angular_impulse = angular_impulse }

abbrev pub settings : Settings
settings =
    record { linear_hertz = two; linear_damping_ratio = decimal 5 1; angular_hertz = two; angular_damping_ratio = decimal 7 1 }

-- the weld, with impulses that a step before has left
unfoldable pub weld_record : WeldJoint
weld_record = with_settings (with_written default_weld impulses) settings

unfoldable pub weld_joint : ℕ → JointSim
weld_joint strut = joint_sim (joint_base JointType.Weld 2 post strut) (Weld weld_record) no_angles

-- the pier stands fast, and the strut is at an index of the awake set
unfoldable pub strut : ℕ → Model
strut index = record { joint = weld_joint index; body_a = fixed_body; body_b = slab index one }
