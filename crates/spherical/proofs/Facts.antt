-- What holds of the spherical stages for all inputs: which impulses are never negative, which fields a solve may change, what a stage reads, and what
-- a call on a joint leaves. Assumes nothing.
use mathlib.Core.Path.{◌≡◌, refl}
use mathlib.Core.Bool.{Bool, true, false, cond}
use Prim.Native.Nat.{ℕ}
use lib.Ieee.{Float}
use lib.IntN.{ℤ}
use Rattle.math_functions.specs.declared.types.Vec3.{Vec3}
use Rattle.math_functions.specs.declared.types.Quat.{Quat}
use Rattle.math_functions.specs.Quat.{get_twist_angle, get_swing_angle}
use Rattle.solver.specs.declared.Softness.{Softness}
use Rattle.solver.specs.declared.StepContext.{StepContext}
use Rattle.records.specs.declared.body.BodyRecord.{BodyRecord}
use Rattle.records.specs.declared.body.BodyState.{BodyState}
use Rattle.records.specs.Body.{with_flags, with_delta_position}
use Rattle.records.specs.declared.joint.JointBase.{JointBase}
use Rattle.records.specs.declared.joint.JointSim.{JointSim}
use Rattle.records.specs.Joint.{as_spherical, is_spherical, limit_angles, no_angles, after_solve}
use Rattle.records.specs.declared.joint.SphericalJoint.{SphericalJoint}
use Rattle.records.specs.Spherical.{with_indices}
use Rattle.constraint.specs.declared.velocity.Velocities.{Velocities}
use Rattle.constraint.specs.declared.velocity.InvMasses.{InvMasses}
use Rattle.constraint.specs.declared.angular.Row.{Row}
use Rattle.constraint.specs.Answer.{PreparedAnswer}
use Rattle.constraint.specs.Answer.{WarmStartedAnswer}
use Rattle.constraint.specs.Answer.{SolvedAnswer}
use Rattle.constraint.specs.Velocity.{velocities_of}
use Rattle.constraint.specs.Angular.{is_worked, twist_angle_if, swing_angle_if, twist_limit_rows}
use Rattle.constraint.specs.Prepare.{prepare_base}
use Rattle.constraint.specs.Answer.{not_prepared, not_warm_started, not_solved}
use Rattle.constraint.specs.Claims.{NonNegative, AtMostOne, BothOfKind}
use Rattle.constraint.proofs.Facts.{worked, upper_limit_row_non_negative, twist_lower_non_negative, twist_upper_non_negative}
use Rattle.constraint.proofs.Facts.{zero_at_most, one_at_most, always, kept, numbered, refused, case_kept, accepted, both_of_kind}
use Rattle.spherical.specs.Spherical.{twist_limit}
use Rattle.spherical.specs.Spherical.{with_impulses, cone_row, joint_rotation, solve_spring, solve_motor, solve_limits, solve_cone, solve_bias, solve_point}
use Rattle.spherical.specs.Spherical.{prepare_spherical, warm_start_spherical, spherical_solved, solve_spherical}
use Rattle.spherical.specs.Spherical.{prepare_spherical_joint, warm_start_spherical_joint, solve_spherical_joint}
use Rattle.spherical.specs.Claims.{LimitImpulsesNonNegative}

-- ---- limits

pub cone_row_non_negative : (swing_angle cone_angle : Float) (s : Softness) (inv_h : Float) (use_bias : Bool) (mass : Float) (axis : Vec3) (old : Float)
    (m : InvMasses) (v : Velocities) → NonNegative (cone_row true swing_angle cone_angle s inv_h use_bias mass axis old m v).impulse
unfolding cone_row
cone_row_non_negative swing_angle cone_angle s inv_h use_bias mass axis old m v = upper_limit_row_non_negative _ _ _ _ _ _

module _ (base : JointBase) (j : SphericalJoint) (h inv_h : Float) (state_a state_b : BodyState) (use_bias : Bool) where
  -- After a solve with rotation not fixed each limit that is on has impulses that are zero or positive, and no NaN.
  pub solve_lower_twist_non_negative : base.fixed_rotation ≡ false → j.enable_twist_limit ≡ true
      → NonNegative (solve_spherical base j h inv_h state_a state_b use_bias).joint.lower_twist_impulse
  unfolding solve_spherical solve_limits
  solve_lower_twist_non_negative free on = rw (worked on free) (twist_lower_non_negative _ _ _ _ _ _)

  pub solve_upper_twist_non_negative : base.fixed_rotation ≡ false → j.enable_twist_limit ≡ true
      → NonNegative (solve_spherical base j h inv_h state_a state_b use_bias).joint.upper_twist_impulse
  unfolding solve_spherical solve_limits
  solve_upper_twist_non_negative free on = rw (worked on free) (twist_upper_non_negative _ _ _ _ _ _)

  pub solve_swing_non_negative : base.fixed_rotation ≡ false → j.enable_cone_limit ≡ true
      → NonNegative (solve_spherical base j h inv_h state_a state_b use_bias).joint.swing_impulse
  unfolding solve_spherical solve_cone
  solve_swing_non_negative free on = rw (worked on free) (cone_row_non_negative _ _ _ _ _ _ _ _ _ _)

  pub solve_limits_lem : base.fixed_rotation ≡ false → LimitImpulsesNonNegative j (solve_spherical base j h inv_h state_a state_b use_bias).joint
  solve_limits_lem free =
      record {
        lower_twist = solve_lower_twist_non_negative free;
        upper_twist = solve_upper_twist_non_negative free;
        swing = solve_swing_non_negative free;
      }

  -- ---- kept

  -- Of the joint's record a solve changes at most the six impulses: linear_impulse, spring_impulse, motor_impulse, lower_twist_impulse, upper_twist_impulse and
  -- swing_impulse; beside the record the two angles (`solve_angles`).
  pub solve_keeps :
      let next = (solve_spherical base j h inv_h state_a state_b use_bias).joint in
      next
      ≡ with_impulses j next.linear_impulse next.spring_impulse next.motor_impulse next.lower_twist_impulse
      next.upper_twist_impulse next.swing_impulse
  unfolding solve_spherical
  solve_keeps = refl

  -- Beside the joint's record it stores the twist angle and the swing angle at which it worked the limits' rows, or NaN.
  pub solve_angles :
      let rel_q = (joint_rotation j state_a state_b).rel_q in
      (solve_spherical base j h inv_h state_a state_b use_bias).angles
      ≡ limit_angles (twist_angle_if (is_worked j.enable_twist_limit base.fixed_rotation) rel_q)
      (swing_angle_if (is_worked j.enable_cone_limit base.fixed_rotation) rel_q)
  unfolding solve_spherical
  solve_angles = refl

-- ---- angles

-- The rows of the two limits at the angles that are stored are those at the Rust's twist and swing angle: where they are not worked they read none.
module _ (fixed_rotation : Bool) (s : Softness) (j : SphericalJoint) (rel_q : Quat) (inv_h : Float) (use_bias : Bool) (m : InvMasses) (v : Velocities) where
  pub limits_at_twist :
      solve_limits fixed_rotation s j (twist_angle_if (is_worked j.enable_twist_limit fixed_rotation) rel_q) inv_h use_bias m v
      ≡ solve_limits fixed_rotation s j (get_twist_angle rel_q) inv_h use_bias m v
  unfolding solve_limits twist_limit_rows twist_angle_if
  limits_at_twist = go (is_worked j.enable_twist_limit fixed_rotation)
    where
      go : (worked : Bool)
          → twist_limit_rows worked (twist_limit j (twist_angle_if worked rel_q)) s inv_h use_bias m v
          ≡ twist_limit_rows worked (twist_limit j (get_twist_angle rel_q)) s inv_h use_bias m v
      go true = refl
      go false = refl

  pub cone_at_swing :
      solve_cone fixed_rotation s j (swing_angle_if (is_worked j.enable_cone_limit fixed_rotation) rel_q) inv_h use_bias m v
      ≡ solve_cone fixed_rotation s j (get_swing_angle rel_q) inv_h use_bias m v
  unfolding solve_cone cone_row swing_angle_if
  cone_at_swing = go (is_worked j.enable_cone_limit fixed_rotation)
    where
      row : Bool → Float → Row Float
      row worked angle = cone_row worked angle j.cone_angle s inv_h use_bias j.swing_mass j.swing_axis j.swing_impulse m v

      go : (worked : Bool) → row worked (swing_angle_if worked rel_q) ≡ row worked (get_swing_angle rel_q)
      go true = refl
      go false = refl

-- ---- indices

-- with other indices in the joint a solve leaves the same, with those indices in it
pub solve_indices : (base : JointBase) (j : SphericalJoint) (h inv_h : Float) (state_a state_b : BodyState) (use_bias : Bool) (index_a index_b : ℤ) →
    let next = solve_spherical base j h inv_h state_a state_b use_bias in
    solve_spherical base (with_indices j index_a index_b) h inv_h state_a state_b use_bias
    ≡ spherical_solved (with_indices next.joint index_a index_b) next.angles next.velocities next.report
unfolding solve_spherical joint_rotation solve_spring solve_motor solve_limits solve_cone solve_bias solve_point
solve_indices base j h inv_h state_a state_b use_bias index_a index_b = refl

pub warm_start_indices : (base : JointBase) (j : SphericalJoint) (state_a state_b : BodyState) (index_a index_b : ℤ) →
    warm_start_spherical base (with_indices j index_a index_b) state_a state_b ≡ warm_start_spherical base j state_a state_b
unfolding warm_start_spherical
warm_start_indices base j state_a state_b index_a index_b = refl

-- ---- what a stage reads of a state and of a context

-- a solve reads the velocities, the delta position and the delta rotation of a state, and not its flags
pub solve_flags : (base : JointBase) (j : SphericalJoint) (h inv_h : Float) (state_a state_b : BodyState) (use_bias : Bool) (flags_a flags_b : ℕ) →
    solve_spherical base j h inv_h (with_flags state_a flags_a) (with_flags state_b flags_b) use_bias ≡ solve_spherical base j h inv_h state_a state_b use_bias
unfolding solve_spherical velocities_of joint_rotation solve_bias solve_point
solve_flags base j h inv_h state_a state_b use_bias flags_a flags_b = refl

-- a warm start reads neither the flags nor the delta position
pub warm_start_flags : (base : JointBase) (j : SphericalJoint) (state_a state_b : BodyState) (flags_a flags_b : ℕ) →
    warm_start_spherical base j (with_flags state_a flags_a) (with_flags state_b flags_b) ≡ warm_start_spherical base j state_a state_b
unfolding warm_start_spherical velocities_of
warm_start_flags base j state_a state_b flags_a flags_b = refl

pub warm_start_delta_position : (base : JointBase) (j : SphericalJoint) (state_a state_b : BodyState) (p_a p_b : Vec3) →
    warm_start_spherical base j (with_delta_position state_a p_a) (with_delta_position state_b p_b) ≡ warm_start_spherical base j state_a state_b
unfolding warm_start_spherical velocities_of
warm_start_delta_position base j state_a state_b p_a p_b = refl

-- of a context prepare reads h and enable_warm_starting, a solve h and inv_h
pub prepare_context : (sim : JointSim) (context other : StepContext) (body_a body_b : BodyRecord) →
    context.h ≡ other.h →
    context.enable_warm_starting ≡ other.enable_warm_starting →
    prepare_spherical_joint sim context body_a body_b ≡ prepare_spherical_joint sim other body_a body_b
unfolding prepare_spherical_joint
prepare_context sim context other body_a body_b same-h same_switch = rw (same-h, same_switch)

pub solve_context : (sim : JointSim) (context other : StepContext) (state_a state_b : BodyState) (use_bias : Bool) →
    context.h ≡ other.h →
    context.inv_h ≡ other.inv_h →
    solve_spherical_joint sim context state_a state_b use_bias ≡ solve_spherical_joint sim other state_a state_b use_bias
unfolding solve_spherical_joint
solve_context sim context other state_a state_b use_bias same-h same-inv-h = rw (same-h, same-inv-h)

-- ---- a call on a joint

module _ (sim : JointSim) (context : StepContext) (body_a body_b : BodyRecord) where
  -- the number is 1 exactly where the case is another
  pub prepare_number : (prepare_spherical_joint sim context body_a body_b).number ≡ cond (is_spherical sim.union_) 0 1
  unfolding prepare_spherical_joint
  prepare_number = numbered (λ (r : PreparedAnswer). r.number) (as_spherical sim.union_) _ _ refl (λ k. refl)

  -- and then the joint is as it was
  pub prepare_refused : is_spherical sim.union_ ≡ false → prepare_spherical_joint sim context body_a body_b ≡ not_prepared sim
  unfolding prepare_spherical_joint
  prepare_refused = refused (as_spherical sim.union_) _ _

  -- a spherical joint stays one, and no other becomes one
  pub prepare_case : is_spherical (prepare_spherical_joint sim context body_a body_b).joint.union_ ≡ is_spherical sim.union_
  unfolding prepare_spherical_joint
  prepare_case = case_kept (λ (r : PreparedAnswer). r.joint.union_) as_spherical sim.union_ _ _ refl (λ k. refl)

  -- the number is at most 1, and the place 0
  pub prepare_range : AtMostOne (prepare_spherical_joint sim context body_a body_b).number (prepare_spherical_joint sim context body_a body_b).place
  unfolding prepare_spherical_joint
  prepare_range = always (λ (r : PreparedAnswer). AtMostOne r.number r.place) (as_spherical sim.union_) _ _ one_at_most (λ k. zero_at_most)

  -- where the number is 0 the base is what `prepare_base` makes of it
  pub prepare_base_lem : (prepare_spherical_joint sim context body_a body_b).number ≡ 0
      → (prepare_spherical_joint sim context body_a body_b).joint.base ≡ prepare_base sim.base body_a body_b
  unfolding prepare_spherical_joint prepare_spherical
  prepare_base_lem =
      accepted (λ (r : PreparedAnswer). r.number) (λ (r : PreparedAnswer). r.joint.base ≡ prepare_base sim.base body_a body_b) (as_spherical sim.union_) _ _
      refl (λ k. refl)

  -- where the number is 0 both angles are NaN
  pub prepare_angles : (prepare_spherical_joint sim context body_a body_b).number ≡ 0
      → (prepare_spherical_joint sim context body_a body_b).joint.angles ≡ no_angles
  unfolding prepare_spherical_joint
  prepare_angles = accepted (λ (r : PreparedAnswer). r.number) (λ (r : PreparedAnswer). r.joint.angles ≡ no_angles) (as_spherical sim.union_) _ _ refl
      (λ k. refl)

module _ (sim : JointSim) (state_a state_b : BodyState) where
  -- a warm start changes no field of the joint
  pub warm_start_joint_lem : (warm_start_spherical_joint sim state_a state_b).joint ≡ sim
  unfolding warm_start_spherical_joint
  warm_start_joint_lem = kept (λ (r : WarmStartedAnswer). r.joint) sim (as_spherical sim.union_) _ _ refl (λ k. refl)

  -- the number is 1 exactly where the case is another
  pub warm_start_number : (warm_start_spherical_joint sim state_a state_b).number ≡ cond (is_spherical sim.union_) 0 1
  unfolding warm_start_spherical_joint
  warm_start_number = numbered (λ (r : WarmStartedAnswer). r.number) (as_spherical sim.union_) _ _ refl (λ k. refl)

  -- and then joint and velocities are as they were
  pub warm_start_refused : is_spherical sim.union_ ≡ false → warm_start_spherical_joint sim state_a state_b ≡ not_warm_started sim state_a state_b
  unfolding warm_start_spherical_joint
  warm_start_refused = refused (as_spherical sim.union_) _ _

  -- the number is at most 1, and the place 0
  pub warm_start_range : AtMostOne (warm_start_spherical_joint sim state_a state_b).number (warm_start_spherical_joint sim state_a state_b).place
  unfolding warm_start_spherical_joint
  warm_start_range = always (λ (r : WarmStartedAnswer). AtMostOne r.number r.place) (as_spherical sim.union_) _ _ one_at_most (λ k. zero_at_most)

module _ (sim : JointSim) (context : StepContext) (state_a state_b : BodyState) (use_bias : Bool) where
  -- a solve changes nothing of the joint but the spherical record and the two angles
  pub solve_base : (solve_spherical_joint sim context state_a state_b use_bias).joint.base ≡ sim.base
  unfolding solve_spherical_joint
  solve_base = kept (λ (r : SolvedAnswer). r.joint.base) sim.base (as_spherical sim.union_) _ _ refl (λ k. refl)

  -- and of the whole joint nothing changes but that record (`solve_keeps`) and the two angles (`solve_angles`)
  pub solve_joint_keeps : let next = (solve_spherical_joint sim context state_a state_b use_bias).joint in next ≡ after_solve sim next.union_ next.angles
  unfolding solve_spherical_joint
  solve_joint_keeps =
      always (λ (r : SolvedAnswer). r.joint ≡ after_solve sim r.joint.union_ r.joint.angles) (as_spherical sim.union_) _ _ refl (λ k. refl)

  -- a spherical joint stays one, and no other becomes one
  pub solve_case : is_spherical (solve_spherical_joint sim context state_a state_b use_bias).joint.union_ ≡ is_spherical sim.union_
  unfolding solve_spherical_joint
  solve_case = case_kept (λ (r : SolvedAnswer). r.joint.union_) as_spherical sim.union_ _ _ refl (λ k. refl)

  -- the number is 1 exactly where the case is another
  pub solve_number : (solve_spherical_joint sim context state_a state_b use_bias).number ≡ cond (is_spherical sim.union_) 0 1
  unfolding solve_spherical_joint
  solve_number = numbered (λ (r : SolvedAnswer). r.number) (as_spherical sim.union_) _ _ refl (λ k. refl)

  -- and then joint and velocities are as they were
  pub solve_refused : is_spherical sim.union_ ≡ false → solve_spherical_joint sim context state_a state_b use_bias ≡ not_solved sim state_a state_b
  unfolding solve_spherical_joint
  solve_refused = refused (as_spherical sim.union_) _ _

  -- the number is at most 1, and the place 0
  pub solve_range :
      AtMostOne (solve_spherical_joint sim context state_a state_b use_bias).number (solve_spherical_joint sim context state_a state_b use_bias).place
  unfolding solve_spherical_joint
  solve_range = always (λ (r : SolvedAnswer). AtMostOne r.number r.place) (as_spherical sim.union_) _ _ one_at_most (λ k. zero_at_most)

  -- where the number is 0 and rotation is not fixed, the enabled limits' impulses of the joint that is returned are zero or positive, never a NaN
  pub solve_joint_limits : (solve_spherical_joint sim context state_a state_b use_bias).number ≡ 0 → sim.base.fixed_rotation ≡ false
      → BothOfKind as_spherical LimitImpulsesNonNegative sim.union_ (solve_spherical_joint sim context state_a state_b use_bias).joint.union_
  unfolding solve_spherical_joint
  solve_joint_limits e free =
      both_of_kind (λ (r : SolvedAnswer). r.number) (λ (r : SolvedAnswer). r.joint.union_) as_spherical LimitImpulsesNonNegative sim.union_ _ _ refl
      (λ j. (_, refl, solve_limits_lem sim.base j context.h context.inv_h state_a state_b use_bias free)) e
