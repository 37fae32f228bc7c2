-- The scenes that show the false sentences of docs/CAPTIONS.md, and for each the figures that the definitions give. Statements and the definitions that
-- they cite. Assumes nothing.
use Rattle.std.specs.Prelude.{◌≡◌, ℕ, true, false, List, [], ◌∷◌, replicate, Float}
use Rattle.std.specs.Float.{nan}
use Rattle.math_functions.specs.Float.{neg, zero, one, two, pi}
use Rattle.math_functions.specs.Types.{vec3, quat, vec3_zero, vec3_axis_x, vec3_axis_z, transform, quat_identity}
use Rattle.solver.specs.declared.StepContext.{StepContext}
use Rattle.solver.specs.Solver.{context_with}
use Rattle.records.specs.declared.joint.JointSim.{JointSim}
use Rattle.records.specs.declared.joint.JointType.TheVariants as Kind
use Rattle.records.specs.declared.joint.JointUnion.{JointUnion}
use Rattle.records.specs.declared.joint.JointUnion.TheVariants.{Revolute, Spherical, Weld, Other}
use Rattle.records.specs.declared.joint.SphericalJoint.{SphericalJoint}
use Rattle.records.specs.declared.body.BodyState.{BodyState}
use Rattle.records.specs.Body.{identity_body_state, with_velocities, with_flags}
use Rattle.records.specs.Spherical.{default_spherical, with_settings}
use Rattle.records.specs.Joint.{no_angles, unused_joint, joint_sim}
use Rattle.revolute.specs.Revolute.{prepare_revolute_joint}
use Rattle.spherical.specs.Spherical.{prepare_spherical_joint}
use Rattle.stop_code.specs.StopCode.{stop_code}
use Rattle.scene.specs.declared.Scene.{Scene}
use Rattle.scene.specs.Plain.{RunAnswer}
use Rattle.scene.specs.Scene.{joint_at, body_at}
use Rattle.scene.specs.Plain.{plain_run}
use Rattle.scene.specs.Chain as Chain
use Rattle.scene.specs.Chain.{four, eight, chain}
use Rattle.examples.specs.Stops.{quarter}
use Rattle.examples.specs.Joints.{half, joint_base_on, hinge, free0, free1, turns0, fixed, prepared_weld, prepared_hinge, moving, linear_impulse_x}

-- ---- the lists and the scenes

-- a warm start, and a solve without bias, of the joint in slot 0
abbrev warm : List ℕ
warm = 0 ∷ 0 ∷ []

abbrev solve : List ℕ
solve = 0 ∷ 2 ∷ []

abbrev warm_then_solve : List ℕ
warm_then_solve = 0 ∷ 0 ∷ 0 ∷ 2 ∷ []

abbrev solve_then_warm : List ℕ
solve_then_warm = 0 ∷ 2 ∷ 0 ∷ 0 ∷ []

abbrev half_second : StepContext
half_second = context_with half two true

-- a joint in slot 0, and two bodies, of which so many count
abbrev scene_of : JointSim → BodyState → BodyState → ℕ → StepContext → Scene
scene_of joint body0 body1 count context =
    record {
      joints = joint ∷ replicate 31 unused_joint;
      bodies = body0 ∷ body1 ∷ replicate 30 identity_body_state;
      joint_count = 1;
      body_count = count;
      context = context;
    }

-- a dynamic body that turns about z
abbrev turning : Float → BodyState
turning z = with_flags (with_velocities identity_body_state vec3_zero (vec3 zero zero z)) 0x1000

-- a door at angle 0 on its hinge, which turns at a speed: its two stops, and the push that is stored at the lower one
abbrev door : Float → Float → Float → Float → Scene
door lower_angle upper_angle lower_impulse speed =
    scene_of (prepared_hinge (hinge false zero zero true lower_angle upper_angle lower_impulse) half_second) (turning speed) identity_body_state 1 half_second

-- a door at angle 0, where its lower stop is, which swings against it; and what a solve leaves of it
abbrev arriving : Scene
arriving = door zero four zero (neg one)

abbrev arrived : Scene
arrived = (plain_run arriving solve).scene

-- the same once the guide has turned the door half round about z
abbrev half_round : BodyState → BodyState
half_round state =
    record {
      linear_velocity = state.linear_velocity;
      angular_velocity = state.angular_velocity;
      delta_position = state.delta_position;
      delta_rotation = quat vec3_axis_z zero;
      flags = state.flags;
    }

abbrev turned_away : Scene
turned_away = scene_of (joint_at arrived 0) (half_round (body_at arrived 0)) identity_body_state 1 half_second

-- and its joint prepared for the next step, warm starting on
abbrev prepared_again : JointSim
prepared_again = (prepare_revolute_joint (joint_at arrived 0) half_second fixed turns0).joint

-- a door at rest whose motor has torque 2 and speed 4
abbrev driven : StepContext → Scene
driven context = scene_of (prepared_hinge (hinge true two four false zero zero zero) context) (turning zero) identity_body_state 1 context

-- a ball joint at rest with its twist limit on, whose frame B is turned half round about x: the two z axes are opposite
abbrev ball : SphericalJoint
ball =
    with_settings default_spherical
    (record {
      hertz = zero;
      damping_ratio = zero;
      max_motor_torque = zero;
      motor_velocity = vec3_zero;
      lower_twist_angle = neg quarter;
      upper_twist_angle = quarter;
      cone_angle = zero;
      target_rotation = quat_identity;
      enable_spring = false;
      enable_motor = false;
      enable_cone_limit = false;
      enable_twist_limit = true;
    })

abbrev opposite : Scene
opposite =
    let base = joint_base_on Kind.Spherical (transform vec3_zero (quat vec3_axis_x zero)) in
    scene_of
    (prepare_spherical_joint (joint_sim base (Spherical ball) no_angles) half_second fixed turns0).joint
    (turning zero) identity_body_state 1 half_second

-- example 13's two welded blocks of inverse mass 1, with states of our own
abbrev blocks : BodyState → BodyState → Scene
blocks a b = scene_of (prepared_weld free0 free1) a b 2 half_second

-- the blocks once a solve has brought the speeds 0 and 2 to 1 and 1 and stored an impulse
abbrev solved : Scene
solved = (plain_run (blocks (moving zero) (moving two)) solve).scene

-- two blocks at +0 and -0, and two of which one's speed is no number; no impulse is stored
abbrev both_zero : Scene
both_zero = blocks (moving zero) (moving (neg zero))

abbrev no_number : Scene
no_number = blocks (moving nan) (moving two)

-- a scene that counts 33 bodies
abbrev overfull : Scene
overfull = scene_of (prepared_weld free0 free1) (moving two) (moving two) 33 half_second

-- a body that moves along x and is not dynamic
abbrev kept : Float → BodyState
kept x = Chain.moving x 0

-- ---- what is seen of a run

abbrev x_of : RunAnswer → ℕ → Float
x_of r n = (body_at r.scene n).linear_velocity.x

abbrev turn_of : RunAnswer → Float
turn_of r = (body_at r.scene 0).angular_velocity.z

abbrev stop_of : RunAnswer → ℕ
stop_of r = (stop_code (joint_at r.scene 0)).code

abbrev lower_of : JointUnion → Float
lower_of (Revolute j) = j.lower_impulse
lower_of (Spherical j) = j.lower_twist_impulse
lower_of (Weld j) = nan
lower_of Other = nan

abbrev upper_of : JointUnion → Float
upper_of (Revolute j) = j.upper_impulse
upper_of (Spherical j) = j.upper_twist_impulse
upper_of (Weld j) = nan
upper_of Other = nan

abbrev lower : RunAnswer → Float
lower r = lower_of (joint_at r.scene 0).union_

abbrev upper : RunAnswer → Float
upper r = upper_of (joint_at r.scene 0).union_

abbrev twist : RunAnswer → Float
twist r = (joint_at r.scene 0).angles.twist

abbrev impulse_x : RunAnswer → Float
impulse_x r = linear_impulse_x (joint_at r.scene 0).union_

-- ---- the figures, each below the sentence that it shows to be false

pub record Shown : Type 0 where
  -- 'the limit pushes only once the part has arrived at its stop', 'code 0 means that no stop pushes': a quarter of a radian away, and swinging towards it
  pub pushes_early : lower (plain_run (door (neg quarter) quarter zero (neg one)) solve) ≡ half
  pub code_early : stop_of (plain_run (door (neg quarter) quarter zero (neg one)) solve) ≡ 0
  -- 'code 0 means that no stop is reached': it is at angle 0, a quarter of a radian beyond its lower stop, and swings back
  pub beyond : (twist (plain_run (door quarter one zero one) solve) ≡ zero) × (lower (plain_run (door quarter one zero one) solve) ≡ zero)
  pub code_beyond : stop_of (plain_run (door quarter one zero one) solve) ≡ 0
  -- 'a part is at its stop only beyond it': at the stop's own angle, and pushed by 1
  pub at_stop : (twist (plain_run arriving solve) ≡ zero) × (lower (plain_run arriving solve) ≡ one)
  pub code_at_stop : stop_of (plain_run arriving solve) ≡ 1
  -- 'the code goes as soon as the part leaves its stop': turned half round, it has its code up to the next solve, which finds it there
  pub code_left : stop_of (plain_run turned_away warm) ≡ 1
  pub found_half_round : twist (plain_run turned_away warm_then_solve) ≡ pi
  pub code_found : stop_of (plain_run turned_away warm_then_solve) ≡ 0
  -- 'a part that stands at its stop and is pushed has its code': not between a prepare and the next solve
  pub push_kept : lower_of prepared_again.union_ ≡ one
  pub code_prepared : (stop_code prepared_again).code ≡ 0
  -- 'during the list the limit never pulled': a stored push of -1, and the door at rest. The warm start comes before the solve
  pub pulls_midway : turn_of (plain_run (door (neg quarter) quarter (neg one) zero) warm) ≡ neg one
  pub pushes_at_the_end : lower (plain_run (door (neg quarter) quarter (neg one) zero) warm_then_solve) ≡ zero
  -- 'where the push is zero, the part moves as it should'
  pub zero_push : (lower (plain_run opposite solve) ≡ zero) × (upper (plain_run opposite solve) ≡ zero)
  pub no_speed : turn_of (plain_run opposite solve) ≡ nan
  -- 'a joint's own calls may change places'
  pub one_order :
      (x_of (plain_run (blocks (moving zero) (moving two)) warm_then_solve) 0 ≡ one)
      × (x_of (plain_run (blocks (moving zero) (moving two)) warm_then_solve) 1 ≡ one)
  pub other_order :
      (x_of (plain_run (blocks (moving zero) (moving two)) solve_then_warm) 0 ≡ two)
      × (x_of (plain_run (blocks (moving zero) (moving two)) solve_then_warm) 1 ≡ zero)
  -- 'a list is worked up to its mistake': no joint stands in slot 5
  pub refused : ((plain_run (chain 0x1000) (0 ∷ 2 ∷ 5 ∷ 2 ∷ [])).number ≡ 4) × ((plain_run (chain 0x1000) (0 ∷ 2 ∷ 5 ∷ 2 ∷ [])).place ≡ 1)
  pub not_begun : x_of (plain_run (chain 0x1000) (0 ∷ 2 ∷ 5 ∷ 2 ∷ [])) 0 ≡ four
  -- 'where it answers 0, every speed is a number that can be shown': a block whose speed is no number hands that on to the block that it is welded to
  pub nan_accepted : (plain_run no_number solve).number ≡ 0
  pub nan_speeds : (x_of (plain_run no_number solve) 0 ≡ nan) × (x_of (plain_run no_number solve) 1 ≡ nan)
  -- 'every part that a listed joint holds changes its speed', 'still means that nothing happened': blocks that are not dynamic keep their speeds, and the
  -- impulse is stored
  pub still_pushed : (plain_run (blocks (kept zero) (kept two)) solve).still ≡ true
  pub kept_speeds : (x_of (plain_run (blocks (kept zero) (kept two)) solve) 0 ≡ zero) × (x_of (plain_run (blocks (kept zero) (kept two)) solve) 1 ≡ two)
  pub stored_impulse : impulse_x (plain_run (blocks (kept zero) (kept two)) solve) ≡ neg one
  -- 'a part that no listed joint holds stands still'
  pub flies_on : x_of (plain_run (chain 0x1000) solve) 2 ≡ eight
  -- 'still means that nothing moves', 'a list that changes nothing was refused'
  pub still_flying : ((plain_run (blocks (moving two) (moving two)) []).still ≡ true) × ((plain_run (blocks (moving two) (moving two)) []).number ≡ 0)
  -- 'still means that no speed changed on the way': the speeds go from 1 and 1 to 2 and 0, and come back
  pub gone : (x_of (plain_run solved warm) 0 ≡ two) × (x_of (plain_run solved warm) 1 ≡ zero)
  pub still_and_back : (plain_run solved warm_then_solve).still ≡ true
  pub come_back : (x_of (plain_run solved warm_then_solve) 0 ≡ one) × (x_of (plain_run solved warm_then_solve) 1 ≡ one)
  -- 'zero before and zero after counts as still': -0 has become +0
  pub minus_zero : (body_at both_zero 1).linear_velocity.x ≡ neg zero
  pub plus_zero : x_of (plain_run both_zero warm) 1 ≡ zero
  pub zero_not_still : ((plain_run both_zero warm).number ≡ 0) × ((plain_run both_zero warm).still ≡ false)
  -- 'still means that every speed is a number': it was no number, and is none
  pub still_nan : (x_of (plain_run no_number warm) 0 ≡ nan) × ((plain_run no_number warm).still ≡ true)
  -- 'the empty list is still in every scene': not where it is refused, here since 33 bodies are counted
  pub empty_refused : ((plain_run overfull []).number ≡ 6) × ((plain_run overfull []).still ≡ false)
  -- 'the same parts, joints and list give the same figures': half the step, half the turn
  pub long_step : turn_of (plain_run (driven half_second) solve) ≡ one
  pub short_step : turn_of (plain_run (driven (context_with quarter four true)) solve) ≡ half
  -- 'a joint that comes back unchanged was refused': blocks at rest
  pub rest_accepted : (plain_run (blocks (moving zero) (moving zero)) solve).number ≡ 0
  pub rest_unchanged : (plain_run (blocks (moving zero) (moving zero)) solve).scene ≡ blocks (moving zero) (moving zero)
