-- The stop codes of a hinge and of a ball joint, stop by stop: each bit by itself, and what leaves it 0. Statements and the definitions that they cite.
-- Assumes nothing.
use Rattle.std.specs.Prelude.{◌≡◌, ℕ, Bool, true, false, Float}
use Rattle.std.specs.Float.{nan, inf}
use Rattle.math_functions.specs.Float.{neg, lit, zero, one}
use Rattle.math_functions.specs.Types.{vec2_zero, vec3_zero, quat_identity, mat3_zero}
use Rattle.records.specs.declared.joint.JointBase.{JointBase}
use Rattle.records.specs.declared.joint.JointUnion.TheVariants.{Revolute, Spherical, Weld, Other}
use Rattle.records.specs.declared.joint.SphericalJoint.{SphericalJoint}
use Rattle.records.specs.Base.{built, default_settings}
use Rattle.records.specs.Spherical.{default_spherical, with_settings}
use Rattle.records.specs.Weld.{default_weld}
use Rattle.records.specs.Joint.{limit_angles, joint_sim}
use Rattle.revolute.specs.Revolute as R
use Rattle.spherical.specs.Spherical as S
use Rattle.stop_code.specs.StopCode.{stop_code}
use Rattle.examples.specs.Joints.{hinge}

-- 0.25, the float below it and the float above it
abbrev pub quarter : Float
quarter = lit 0x3e80_0000

abbrev pub below_quarter : Float
below_quarter = lit 0x3e7f_ffff

abbrev pub above_quarter : Float
above_quarter = lit 0x3e80_0001

abbrev base_of : Bool → JointBase
base_of fixed_rotation =
    built default_settings
    (record { inv_mass_a = zero; inv_mass_b = zero; inv_i_a = mat3_zero; inv_i_b = mat3_zero; fixed_rotation = fixed_rotation })

-- the code of a hinge with stops at -0.25 and 0.25, by whether rotation is fixed, the limit's switch, its two impulses, and the two angles
abbrev pub hinge_code : Bool → Bool → Float → Float → Float → Float → ℕ
hinge_code fixed_rotation on lower upper twist swing =
    let j = R.with_impulses (hinge false zero zero on (neg quarter) quarter zero) vec3_zero vec2_zero zero zero lower upper vec3_zero vec3_zero in
    (stop_code (joint_sim (base_of fixed_rotation) (Revolute j) (limit_angles twist swing))).code

-- a ball joint with twist stops at -0.25 and 0.25 and a cone of 0.25, by the two switches and the three impulses
abbrev ball : Bool → Bool → Float → Float → Float → SphericalJoint
ball twist_on cone_on lower upper swing =
    S.with_impulses
    (with_settings default_spherical
    (record {
      hertz = zero;
      damping_ratio = zero;
      max_motor_torque = zero;
      motor_velocity = vec3_zero;
      lower_twist_angle = neg quarter;
      upper_twist_angle = quarter;
      cone_angle = quarter;
      target_rotation = quat_identity;
      enable_spring = false;
      enable_motor = false;
      enable_cone_limit = cone_on;
      enable_twist_limit = twist_on;
    }))
    vec3_zero vec3_zero vec3_zero lower upper swing

-- its code, by whether rotation is fixed, the twist limit's switch, the cone's, the three impulses, and the two angles
abbrev pub ball_code : Bool → Bool → Bool → Float → Float → Float → Float → Float → ℕ
ball_code fixed_rotation twist_on cone_on lower upper swing_impulse twist swing =
    (stop_code (joint_sim (base_of fixed_rotation) (Spherical (ball twist_on cone_on lower upper swing_impulse)) (limit_angles twist swing))).code

pub record HingeStops : Type 0 where
  -- each bit by itself, at the stop's own angle and beyond it
  pub lower : hinge_code false true one zero (neg quarter) nan ≡ 1
  pub lower_beyond : hinge_code false true one zero (inf true) nan ≡ 1
  pub upper : hinge_code false true zero one quarter nan ≡ 2
  pub upper_beyond : hinge_code false true zero one above_quarter nan ≡ 2
  -- both push, and the part is at one of them, or between them
  pub at_lower : hinge_code false true one one (neg quarter) nan ≡ 1
  pub at_upper : hinge_code false true one one quarter nan ≡ 2
  pub between : hinge_code false true one one zero nan ≡ 0
  -- one float before the stop
  pub before_lower : hinge_code false true one one (neg below_quarter) nan ≡ 0
  pub before_upper : hinge_code false true one one below_quarter nan ≡ 0
  -- at a stop that does not push, the other one's push counts nothing
  pub other_pushes : hinge_code false true zero one (neg quarter) nan ≡ 0
  -- the limit is off, though it is at the stop and a push is stored; rotation is fixed; the push, or the angle, is no number
  pub switched_off : hinge_code false false one one quarter nan ≡ 0
  pub fixed : hinge_code true true one one quarter nan ≡ 0
  pub nan_impulse : hinge_code false true nan nan quarter nan ≡ 0
  pub nan_twist : hinge_code false true one one nan quarter ≡ 0

pub record BallStops : Type 0 where
  pub lower : ball_code false true true one zero zero (neg quarter) zero ≡ 1
  pub upper : ball_code false true true zero one zero quarter zero ≡ 2
  pub cone : ball_code false true true zero zero one zero quarter ≡ 4
  pub upper_and_cone : ball_code false true true zero one one above_quarter above_quarter ≡ 6
  pub between : ball_code false true true one one one zero zero ≡ 0
  pub before_cone : ball_code false true true zero zero one zero below_quarter ≡ 0
  -- the cone goes by the swing, the twist stops by the twist
  pub twist_is_no_swing : ball_code false true true zero zero one quarter zero ≡ 0
  pub swing_is_no_twist : ball_code false true true zero one zero zero quarter ≡ 0
  -- each limit has its own switch
  pub cone_off : ball_code false true false zero one one quarter quarter ≡ 2
  pub twist_off : ball_code false false true zero one one quarter quarter ≡ 4
  pub both_off : ball_code false false false one one one quarter quarter ≡ 0
  pub fixed : ball_code true true true one one one quarter quarter ≡ 0
  pub nan_impulse : ball_code false true true nan nan nan quarter quarter ≡ 0
  pub nan_twist : ball_code false true true one one one nan quarter ≡ 4
  pub nan_swing : ball_code false true true one one one quarter nan ≡ 2

-- a weld and the empty case have code 0, whatever the angles
pub record OtherStops : Type 0 where
  pub weld : (stop_code (joint_sim (base_of false) (Weld default_weld) (limit_angles quarter quarter))).code ≡ 0
  pub other : (stop_code (joint_sim (base_of false) Other (limit_angles quarter quarter))).code ≡ 0
