-- What holds of the revolute joint's stages, for all inputs: the limits' impulses, what a stage changes, what it reads, and when it refuses. Assumes nothing.
use Prim.Native.Nat.{ℕ}
use mathlib.Core.Path.{◌≡◌, refl}
use mathlib.Core.Bool.{Bool, true, false, cond}
use lib.Ieee as Ieee
use lib.Ieee.{Float, nan, fin}
use lib.IntN.{ℤ, negsuc}
use Rattle.math_functions.specs.declared.types.Vec3.{Vec3}
use Rattle.math_functions.specs.declared.types.Quat.{Quat}
use Rattle.math_functions.specs.Quat.{get_twist_angle}
use Rattle.solver.specs.declared.Softness.{Softness}
use Rattle.solver.specs.declared.StepContext.{StepContext}
use Rattle.records.specs.declared.body.BodyState.{BodyState}
use Rattle.records.specs.Body.{with_flags, with_delta_position}
use Rattle.records.specs.declared.body.BodyRecord.{BodyRecord}
use Rattle.records.specs.declared.joint.RevoluteJoint.{RevoluteJoint}
use Rattle.records.specs.declared.joint.JointBase.{JointBase}
use Rattle.records.specs.declared.joint.JointSim.{JointSim}
use Rattle.records.specs.declared.joint.JointUnion.{JointUnion}
use Rattle.records.specs.declared.joint.JointUnion.TheVariants.{Revolute, Spherical, Weld, Other}
use Rattle.records.specs.Joint.{as_revolute, is_revolute, limit_angles, no_angles, after_solve}
use Rattle.records.specs.Revolute.{with_indices}
use Rattle.constraint.specs.declared.velocity.Velocities.{Velocities}
use Rattle.constraint.specs.declared.velocity.InvMasses.{InvMasses}
use Rattle.constraint.specs.Answer.{PreparedAnswer}
use Rattle.constraint.specs.Answer.{WarmStartedAnswer}
use Rattle.constraint.specs.Answer.{SolvedAnswer}
use Rattle.constraint.specs.Velocity.{velocities_of}
use Rattle.constraint.specs.Angular.{is_worked, twist_angle_if, twist_limit_rows}
use Rattle.constraint.specs.Prepare.{prepare_base}
use Rattle.constraint.specs.Answer.{not_prepared, not_warm_started, not_solved}
use Rattle.constraint.specs.Claims.{NonNegative, AtMostOne, BothOfKind}
use Rattle.constraint.proofs.Facts.{worked, twist_lower_non_negative, twist_upper_non_negative, zero_at_most, one_at_most}
use Rattle.constraint.proofs.Facts.{always, kept, numbered, refused, case_kept, accepted, both_of_kind}
use Rattle.revolute.specs.Revolute.{half, with_impulses, twist_limit, joint_rotation, solve_spring, solve_motor, solve_limits, solve_perp, solve_point}
use Rattle.revolute.specs.Revolute.{revolute_solved}
use Rattle.revolute.specs.Revolute.{solve_revolute, warm_angular_impulse, warm_start_revolute}
use Rattle.revolute.specs.Revolute.{prepare_revolute, prepare_revolute_joint, warm_start_revolute_joint, solve_revolute_joint}
use Rattle.revolute.specs.Claims.{LimitImpulsesNonNegative}

-- 0.5 is 2 ^ -1
pub half_is : half ≡ fin false 1 (negsuc 0)
unfolding Ieee.of_bits
half_is = refl

-- ---- the stages by value

module _ (base : JointBase) (j : RevoluteJoint) (h inv_h : Float) (state_a state_b : BodyState) (use_bias : Bool) where
  -- while the rotation is not fixed an enabled limit's impulse ends zero or above, whatever it was before
  pub solve_lower_non_negative :
      base.fixed_rotation ≡ false →
      j.enable_limit ≡ true →
      NonNegative (solve_revolute base j h inv_h state_a state_b use_bias).joint.lower_impulse
  unfolding solve_revolute solve_limits
  solve_lower_non_negative free on = rw (worked on free) (twist_lower_non_negative _ _ _ _ _ _)

  pub solve_upper_non_negative :
      base.fixed_rotation ≡ false →
      j.enable_limit ≡ true →
      NonNegative (solve_revolute base j h inv_h state_a state_b use_bias).joint.upper_impulse
  unfolding solve_revolute solve_limits
  solve_upper_non_negative free on = rw (worked on free) (twist_upper_non_negative _ _ _ _ _ _)

  pub solve_limits_lem : base.fixed_rotation ≡ false → LimitImpulsesNonNegative j (solve_revolute base j h inv_h state_a state_b use_bias).joint
  solve_limits_lem free = record { lower = solve_lower_non_negative free; upper = solve_upper_non_negative free }

  -- no field of the joint's record changes but linear_impulse, perp_impulse, spring_impulse, motor_impulse, lower_impulse, upper_impulse, perp_axis_x and
  -- perp_axis_y; beside the record the two angles (`solve_angles`)
  pub solve_keeps :
      let s = (solve_revolute base j h inv_h state_a state_b use_bias).joint in
      s ≡ with_impulses j s.linear_impulse s.perp_impulse s.spring_impulse s.motor_impulse s.lower_impulse s.upper_impulse
      s.perp_axis_x s.perp_axis_y
  unfolding solve_revolute
  solve_keeps = refl

  -- beside the joint's record it stores the twist angle at which it worked the limit's rows, or NaN, and NaN for the swing
  pub solve_angles :
      (solve_revolute base j h inv_h state_a state_b use_bias).angles
      ≡ limit_angles (twist_angle_if (is_worked j.enable_limit base.fixed_rotation) (joint_rotation j state_a state_b).rel_q) nan
  unfolding solve_revolute
  solve_angles = refl

-- the limit's rows at the angle that is stored are those at the Rust's twist angle: where they are not worked they read none
pub limits_at_twist :
    (fixed_rotation : Bool) (s : Softness) (j : RevoluteJoint) (rel_q : Quat) (inv_h : Float) (use_bias : Bool) (m : InvMasses) (v : Velocities) →
    solve_limits fixed_rotation s j (twist_angle_if (is_worked j.enable_limit fixed_rotation) rel_q) inv_h use_bias m v
    ≡ solve_limits fixed_rotation s j (get_twist_angle rel_q) inv_h use_bias m v
unfolding solve_limits twist_limit_rows twist_angle_if
limits_at_twist fixed_rotation s j rel_q inv_h use_bias m v = go (is_worked j.enable_limit fixed_rotation)
  where
    go : (worked : Bool)
        → twist_limit_rows worked (twist_limit j (twist_angle_if worked rel_q)) s inv_h use_bias m v
        ≡ twist_limit_rows worked (twist_limit j (get_twist_angle rel_q)) s inv_h use_bias m v
    go true = refl
    go false = refl

module _ (base : JointBase) (j : RevoluteJoint) (state_a state_b : BodyState) where
  -- the indices are not read, and stay
  pub solve_indices : (h inv_h : Float) (use_bias : Bool) (x y : ℤ) →
      let r = solve_revolute base j h inv_h state_a state_b use_bias in
      solve_revolute base (with_indices j x y) h inv_h state_a state_b use_bias
      ≡ revolute_solved (with_indices r.joint x y) r.angles r.velocities r.report
  unfolding solve_revolute joint_rotation solve_spring solve_motor solve_limits solve_perp solve_point
  solve_indices h inv_h use_bias x y = refl

  pub warm_start_indices : (x y : ℤ) → warm_start_revolute base (with_indices j x y) state_a state_b ≡ warm_start_revolute base j state_a state_b
  unfolding warm_start_revolute warm_angular_impulse
  warm_start_indices x y = refl

  -- of a state nothing is read but the velocities, the delta position and the delta rotation
  pub solve_flags : (h inv_h : Float) (use_bias : Bool) (f g : ℕ) →
      solve_revolute base j h inv_h (with_flags state_a f) (with_flags state_b g) use_bias ≡ solve_revolute base j h inv_h state_a state_b use_bias
  unfolding solve_revolute joint_rotation solve_point velocities_of
  solve_flags h inv_h use_bias f g = refl

  pub warm_start_flags : (f g : ℕ) → warm_start_revolute base j (with_flags state_a f) (with_flags state_b g) ≡ warm_start_revolute base j state_a state_b
  unfolding warm_start_revolute velocities_of
  warm_start_flags f g = refl

  -- a warm start does not read the delta position either
  pub warm_start_delta_position : (p q : Vec3) →
      warm_start_revolute base j (with_delta_position state_a p) (with_delta_position state_b q) ≡ warm_start_revolute base j state_a state_b
  unfolding warm_start_revolute velocities_of
  warm_start_delta_position p q = refl

-- ---- the stages over a joint of any kind

-- a joint that is no revolute joint's record is of another case
pub other_case : (u : JointUnion) → ((k : RevoluteJoint) → u ≡ Revolute k → ⊥) → is_revolute u ≡ false
other_case (Revolute r) h = absurd (h r refl)
other_case (Spherical r) h = refl
other_case (Weld r) h = refl
other_case Other h = refl

-- of a context prepare reads h and enable_warm_starting, and a solve h and inv_h
pub prepare_context : (sim : JointSim) (c d : StepContext) (body_a body_b : BodyRecord) →
    c.h ≡ d.h →
    c.enable_warm_starting ≡ d.enable_warm_starting →
    prepare_revolute_joint sim c body_a body_b ≡ prepare_revolute_joint sim d body_a body_b
unfolding prepare_revolute_joint
prepare_context sim c d body_a body_b same-h same-warm = rw (same-h, same-warm)

pub solve_context : (sim : JointSim) (c d : StepContext) (state_a state_b : BodyState) (use_bias : Bool) →
    c.h ≡ d.h →
    c.inv_h ≡ d.inv_h →
    solve_revolute_joint sim c state_a state_b use_bias ≡ solve_revolute_joint sim d state_a state_b use_bias
unfolding solve_revolute_joint
solve_context sim c d state_a state_b use_bias same-h same-inv-h = rw (same-h, same-inv-h)

module _ (sim : JointSim) (context : StepContext) (body_a body_b : BodyRecord) where
  -- the number is 1 exactly where the case is another
  pub prepare_number : (prepare_revolute_joint sim context body_a body_b).number ≡ cond (is_revolute sim.union_) 0 1
  unfolding prepare_revolute_joint
  prepare_number = numbered (λ (r : PreparedAnswer). r.number) (as_revolute sim.union_) _ _ refl (λ k. refl)

  -- and then the joint is as it was
  pub prepare_refused : is_revolute sim.union_ ≡ false → prepare_revolute_joint sim context body_a body_b ≡ not_prepared sim
  unfolding prepare_revolute_joint
  prepare_refused = refused (as_revolute sim.union_) _ _

  -- a revolute joint stays one, and no other becomes one
  pub prepare_case : is_revolute (prepare_revolute_joint sim context body_a body_b).joint.union_ ≡ is_revolute sim.union_
  unfolding prepare_revolute_joint
  prepare_case = case_kept (λ (r : PreparedAnswer). r.joint.union_) as_revolute sim.union_ _ _ refl (λ k. refl)

  -- the number is at most 1, and the place 0
  pub prepare_range : AtMostOne (prepare_revolute_joint sim context body_a body_b).number (prepare_revolute_joint sim context body_a body_b).place
  unfolding prepare_revolute_joint
  prepare_range = always (λ (r : PreparedAnswer). AtMostOne r.number r.place) (as_revolute sim.union_) _ _ one_at_most (λ k. zero_at_most)

  -- where the number is 0 the base is what `prepare_base` makes of it
  pub prepare_base_lem : (prepare_revolute_joint sim context body_a body_b).number ≡ 0
      → (prepare_revolute_joint sim context body_a body_b).joint.base ≡ prepare_base sim.base body_a body_b
  unfolding prepare_revolute_joint prepare_revolute
  prepare_base_lem =
      accepted (λ (r : PreparedAnswer). r.number) (λ (r : PreparedAnswer). r.joint.base ≡ prepare_base sim.base body_a body_b) (as_revolute sim.union_) _ _
      refl (λ k. refl)

  -- where the number is 0 both angles are NaN
  pub prepare_angles : (prepare_revolute_joint sim context body_a body_b).number ≡ 0
      → (prepare_revolute_joint sim context body_a body_b).joint.angles ≡ no_angles
  unfolding prepare_revolute_joint
  prepare_angles = accepted (λ (r : PreparedAnswer). r.number) (λ (r : PreparedAnswer). r.joint.angles ≡ no_angles) (as_revolute sim.union_) _ _ refl
      (λ k. refl)

module _ (sim : JointSim) (state_a state_b : BodyState) where
  -- a warm start changes no field of the joint
  pub warm_start_joint_lem : (warm_start_revolute_joint sim state_a state_b).joint ≡ sim
  unfolding warm_start_revolute_joint
  warm_start_joint_lem = kept (λ (r : WarmStartedAnswer). r.joint) sim (as_revolute sim.union_) _ _ refl (λ k. refl)

  -- the number is 1 exactly where the case is another
  pub warm_start_number : (warm_start_revolute_joint sim state_a state_b).number ≡ cond (is_revolute sim.union_) 0 1
  unfolding warm_start_revolute_joint
  warm_start_number = numbered (λ (r : WarmStartedAnswer). r.number) (as_revolute sim.union_) _ _ refl (λ k. refl)

  -- and then joint and velocities are as they were
  pub warm_start_refused : is_revolute sim.union_ ≡ false → warm_start_revolute_joint sim state_a state_b ≡ not_warm_started sim state_a state_b
  unfolding warm_start_revolute_joint
  warm_start_refused = refused (as_revolute sim.union_) _ _

  -- the number is at most 1, and the place 0
  pub warm_start_range : AtMostOne (warm_start_revolute_joint sim state_a state_b).number (warm_start_revolute_joint sim state_a state_b).place
  unfolding warm_start_revolute_joint
  warm_start_range = always (λ (r : WarmStartedAnswer). AtMostOne r.number r.place) (as_revolute sim.union_) _ _ one_at_most (λ k. zero_at_most)

module _ (sim : JointSim) (context : StepContext) (state_a state_b : BodyState) (use_bias : Bool) where
  -- a solve changes nothing of the joint but the revolute record and the two angles
  pub solve_base : (solve_revolute_joint sim context state_a state_b use_bias).joint.base ≡ sim.base
  unfolding solve_revolute_joint
  solve_base = kept (λ (r : SolvedAnswer). r.joint.base) sim.base (as_revolute sim.union_) _ _ refl (λ k. refl)

  -- and of the whole joint nothing changes but that record (`solve_keeps`) and the two angles (`solve_angles`)
  pub solve_joint_keeps : let next = (solve_revolute_joint sim context state_a state_b use_bias).joint in next ≡ after_solve sim next.union_ next.angles
  unfolding solve_revolute_joint
  solve_joint_keeps =
      always (λ (r : SolvedAnswer). r.joint ≡ after_solve sim r.joint.union_ r.joint.angles) (as_revolute sim.union_) _ _ refl (λ k. refl)

  -- a revolute joint stays one, and no other becomes one
  pub solve_case : is_revolute (solve_revolute_joint sim context state_a state_b use_bias).joint.union_ ≡ is_revolute sim.union_
  unfolding solve_revolute_joint
  solve_case = case_kept (λ (r : SolvedAnswer). r.joint.union_) as_revolute sim.union_ _ _ refl (λ k. refl)

  -- the number is 1 exactly where the case is another
  pub solve_number : (solve_revolute_joint sim context state_a state_b use_bias).number ≡ cond (is_revolute sim.union_) 0 1
  unfolding solve_revolute_joint
  solve_number = numbered (λ (r : SolvedAnswer). r.number) (as_revolute sim.union_) _ _ refl (λ k. refl)

  -- and then joint and velocities are as they were
  pub solve_refused : is_revolute sim.union_ ≡ false → solve_revolute_joint sim context state_a state_b use_bias ≡ not_solved sim state_a state_b
  unfolding solve_revolute_joint
  solve_refused = refused (as_revolute sim.union_) _ _

  -- the number is at most 1, and the place 0
  pub solve_range :
      AtMostOne (solve_revolute_joint sim context state_a state_b use_bias).number (solve_revolute_joint sim context state_a state_b use_bias).place
  unfolding solve_revolute_joint
  solve_range = always (λ (r : SolvedAnswer). AtMostOne r.number r.place) (as_revolute sim.union_) _ _ one_at_most (λ k. zero_at_most)

  -- where the number is 0 and rotation is not fixed, the enabled limits' impulses of the joint that is returned are zero or positive, never a NaN
  pub solve_joint_limits : (solve_revolute_joint sim context state_a state_b use_bias).number ≡ 0 → sim.base.fixed_rotation ≡ false
      → BothOfKind as_revolute LimitImpulsesNonNegative sim.union_ (solve_revolute_joint sim context state_a state_b use_bias).joint.union_
  unfolding solve_revolute_joint
  solve_joint_limits e free =
      both_of_kind (λ (r : SolvedAnswer). r.number) (λ (r : SolvedAnswer). r.joint.union_) as_revolute LimitImpulsesNonNegative sim.union_ _ _ refl
      (λ j. (_, refl, solve_limits_lem sim.base j context.h context.inv_h state_a state_b use_bias free)) e
