-- What holds of the weld joint's stages, for all inputs. Assumes nothing.
use mathlib.Core.Path.{◌≡◌, refl}
use mathlib.Core.Bool.{Bool, false, cond}
use Prim.Native.Nat.{ℕ}
use lib.IntN.{ℤ}
use Rattle.math_functions.specs.declared.types.Vec3.{Vec3}
use Rattle.solver.specs.declared.StepContext.{StepContext}
use Rattle.records.specs.declared.body.BodyState.{BodyState}
use Rattle.records.specs.Body.{with_flags, with_delta_position}
use Rattle.records.specs.declared.body.BodyRecord.{BodyRecord}
use Rattle.records.specs.declared.joint.WeldJoint.{WeldJoint}
use Rattle.records.specs.declared.joint.JointBase.{JointBase}
use Rattle.records.specs.declared.joint.JointSim.{JointSim}
use Rattle.records.specs.declared.joint.JointUnion.{JointUnion}
use Rattle.records.specs.declared.joint.JointUnion.TheVariants.{Revolute, Spherical, Weld, Other}
use Rattle.records.specs.Weld.{with_indices}
use Rattle.records.specs.Joint.{as_weld, is_weld, no_angles, after_solve}
use Rattle.constraint.specs.Answer.{PreparedAnswer}
use Rattle.constraint.specs.Answer.{WarmStartedAnswer}
use Rattle.constraint.specs.Answer.{SolvedAnswer}
use Rattle.constraint.specs.Velocity.{velocities_of}
use Rattle.constraint.specs.Prepare.{prepare_base}
use Rattle.constraint.specs.Answer.{not_prepared, not_warm_started, not_solved}
use Rattle.constraint.specs.Claims.{AtMostOne}
use Rattle.constraint.proofs.Facts.{zero_at_most, one_at_most, always, kept, numbered, refused, case_kept, accepted}
use Rattle.weld.specs.Weld.{with_impulses, weld_solved, warm_start_weld, joint_rotation, solve_angular, solve_bias, solve_point, solve_weld}
use Rattle.weld.specs.Weld.{prepare_weld, prepare_weld_joint, warm_start_weld_joint, solve_weld_joint}

-- ---- the stages by value

-- of the joint's record a solve changes `linear_impulse` and `angular_impulse` and no other field; beside the record the two angles (`solve_angles`)
pub solve_keeps : (base : JointBase) (j : WeldJoint) (a b : BodyState) (use_bias : Bool)
    → let next = (solve_weld base j a b use_bias).joint in next ≡ with_impulses j next.linear_impulse next.angular_impulse
unfolding solve_weld
solve_keeps base j a b use_bias = refl

-- the indices are handed on unread
pub solve_indices : (base : JointBase) (j : WeldJoint) (a b : BodyState) (use_bias : Bool) (x y : ℤ)
    → let s = solve_weld base j a b use_bias in
    solve_weld base (with_indices j x y) a b use_bias ≡ weld_solved (with_indices s.joint x y) s.velocities s.report
unfolding solve_weld joint_rotation solve_angular solve_point solve_bias
solve_indices base j a b use_bias x y = refl

pub warm_start_indices : (base : JointBase) (j : WeldJoint) (a b : BodyState) (x y : ℤ)
    → warm_start_weld base (with_indices j x y) a b ≡ warm_start_weld base j a b
unfolding warm_start_weld
warm_start_indices base j a b x y = refl

-- of a state its velocities, delta position and delta rotation are read, and not its flags
pub solve_flags : (base : JointBase) (j : WeldJoint) (a b : BodyState) (use_bias : Bool) (x y : ℕ)
    → solve_weld base j (with_flags a x) (with_flags b y) use_bias ≡ solve_weld base j a b use_bias
unfolding solve_weld joint_rotation solve_angular solve_point solve_bias velocities_of
solve_flags base j a b use_bias x y = refl

pub warm_start_flags : (base : JointBase) (j : WeldJoint) (a b : BodyState) (x y : ℕ)
    → warm_start_weld base j (with_flags a x) (with_flags b y) ≡ warm_start_weld base j a b
unfolding warm_start_weld velocities_of
warm_start_flags base j a b x y = refl

-- a warm start does not read the delta position either
pub warm_start_delta_position : (base : JointBase) (j : WeldJoint) (a b : BodyState) (p q : Vec3)
    → warm_start_weld base j (with_delta_position a p) (with_delta_position b q) ≡ warm_start_weld base j a b
unfolding warm_start_weld velocities_of
warm_start_delta_position base j a b p q = refl

-- ---- the stages over a joint of any kind

-- a joint that is no weld joint's record is of another case
pub other_case : (u : JointUnion) → ((k : WeldJoint) → u ≡ Weld k → ⊥) → is_weld u ≡ false
other_case (Revolute r) h = refl
other_case (Spherical r) h = refl
other_case (Weld r) h = absurd (h r refl)
other_case Other h = refl

-- of a context prepare reads h and enable_warm_starting, and a solve nothing
pub prepare_context : (sim : JointSim) (c d : StepContext) (body_a body_b : BodyRecord)
    → c.h ≡ d.h → c.enable_warm_starting ≡ d.enable_warm_starting → prepare_weld_joint sim c body_a body_b ≡ prepare_weld_joint sim d body_a body_b
unfolding prepare_weld_joint
prepare_context sim c d body_a body_b same-h same-warm = rw (same-h, same-warm)

pub solve_context : (sim : JointSim) (c d : StepContext) (a b : BodyState) (use_bias : Bool)
    → solve_weld_joint sim c a b use_bias ≡ solve_weld_joint sim d a b use_bias
unfolding solve_weld_joint
solve_context sim c d a b use_bias = refl

module _ (sim : JointSim) (c : StepContext) (body_a body_b : BodyRecord) where
  -- the number is 1 exactly where the case is another
  pub prepare_number : (prepare_weld_joint sim c body_a body_b).number ≡ cond (is_weld sim.union_) 0 1
  unfolding prepare_weld_joint
  prepare_number = numbered (λ (r : PreparedAnswer). r.number) (as_weld sim.union_) _ _ refl (λ k. refl)

  -- and then the joint is as it was
  pub prepare_refused : is_weld sim.union_ ≡ false → prepare_weld_joint sim c body_a body_b ≡ not_prepared sim
  unfolding prepare_weld_joint
  prepare_refused = refused (as_weld sim.union_) _ _

  -- a weld joint stays one, and no other becomes one (another case stays itself, by `prepare_refused`)
  pub prepare_case : is_weld (prepare_weld_joint sim c body_a body_b).joint.union_ ≡ is_weld sim.union_
  unfolding prepare_weld_joint
  prepare_case = case_kept (λ (r : PreparedAnswer). r.joint.union_) as_weld sim.union_ _ _ refl (λ k. refl)

  -- the number is at most 1, and the place 0
  pub prepare_range : AtMostOne (prepare_weld_joint sim c body_a body_b).number (prepare_weld_joint sim c body_a body_b).place
  unfolding prepare_weld_joint
  prepare_range = always (λ (r : PreparedAnswer). AtMostOne r.number r.place) (as_weld sim.union_) _ _ one_at_most (λ k. zero_at_most)

  -- where the number is 0 the base is what `prepare_base` makes of it
  pub prepare_base_lem : (prepare_weld_joint sim c body_a body_b).number ≡ 0
      → (prepare_weld_joint sim c body_a body_b).joint.base ≡ prepare_base sim.base body_a body_b
  unfolding prepare_weld_joint prepare_weld
  prepare_base_lem =
      accepted (λ (r : PreparedAnswer). r.number) (λ (r : PreparedAnswer). r.joint.base ≡ prepare_base sim.base body_a body_b) (as_weld sim.union_) _ _
      refl (λ k. refl)

  -- where the number is 0 both angles are NaN
  pub prepare_angles : (prepare_weld_joint sim c body_a body_b).number ≡ 0 → (prepare_weld_joint sim c body_a body_b).joint.angles ≡ no_angles
  unfolding prepare_weld_joint
  prepare_angles = accepted (λ (r : PreparedAnswer). r.number) (λ (r : PreparedAnswer). r.joint.angles ≡ no_angles) (as_weld sim.union_) _ _ refl (λ k. refl)

module _ (sim : JointSim) (a b : BodyState) where
  -- a warm start changes no field of the joint, so base and case are as they were
  pub warm_start_joint_lem : (warm_start_weld_joint sim a b).joint ≡ sim
  unfolding warm_start_weld_joint
  warm_start_joint_lem = kept (λ (r : WarmStartedAnswer). r.joint) sim (as_weld sim.union_) _ _ refl (λ k. refl)

  -- the number is 1 exactly where the case is another
  pub warm_start_number : (warm_start_weld_joint sim a b).number ≡ cond (is_weld sim.union_) 0 1
  unfolding warm_start_weld_joint
  warm_start_number = numbered (λ (r : WarmStartedAnswer). r.number) (as_weld sim.union_) _ _ refl (λ k. refl)

  -- and then joint and velocities are as they were
  pub warm_start_refused : is_weld sim.union_ ≡ false → warm_start_weld_joint sim a b ≡ not_warm_started sim a b
  unfolding warm_start_weld_joint
  warm_start_refused = refused (as_weld sim.union_) _ _

  -- the number is at most 1, and the place 0
  pub warm_start_range : AtMostOne (warm_start_weld_joint sim a b).number (warm_start_weld_joint sim a b).place
  unfolding warm_start_weld_joint
  warm_start_range = always (λ (r : WarmStartedAnswer). AtMostOne r.number r.place) (as_weld sim.union_) _ _ one_at_most (λ k. zero_at_most)

module _ (sim : JointSim) (c : StepContext) (a b : BodyState) (use_bias : Bool) where
  -- a solve changes nothing of the joint but the weld record and the two angles
  pub solve_base : (solve_weld_joint sim c a b use_bias).joint.base ≡ sim.base
  unfolding solve_weld_joint
  solve_base = kept (λ (r : SolvedAnswer). r.joint.base) sim.base (as_weld sim.union_) _ _ refl (λ k. refl)

  -- and of the whole joint nothing changes but that record (`solve_keeps`) and the two angles (`solve_angles`)
  pub solve_joint_keeps : let next = (solve_weld_joint sim c a b use_bias).joint in next ≡ after_solve sim next.union_ next.angles
  unfolding solve_weld_joint
  solve_joint_keeps = always (λ (r : SolvedAnswer). r.joint ≡ after_solve sim r.joint.union_ r.joint.angles) (as_weld sim.union_) _ _ refl (λ k. refl)

  -- where its number is 0 it leaves NaN in both angles: a weld has no limit row
  pub solve_angles : (solve_weld_joint sim c a b use_bias).number ≡ 0 → (solve_weld_joint sim c a b use_bias).joint.angles ≡ no_angles
  unfolding solve_weld_joint
  solve_angles = accepted (λ (r : SolvedAnswer). r.number) (λ (r : SolvedAnswer). r.joint.angles ≡ no_angles) (as_weld sim.union_) _ _ refl (λ k. refl)

  -- a weld joint stays one, and no other becomes one (another case stays itself, by `solve_refused`)
  pub solve_case : is_weld (solve_weld_joint sim c a b use_bias).joint.union_ ≡ is_weld sim.union_
  unfolding solve_weld_joint
  solve_case = case_kept (λ (r : SolvedAnswer). r.joint.union_) as_weld sim.union_ _ _ refl (λ k. refl)

  -- the number is 1 exactly where the case is another
  pub solve_number : (solve_weld_joint sim c a b use_bias).number ≡ cond (is_weld sim.union_) 0 1
  unfolding solve_weld_joint
  solve_number = numbered (λ (r : SolvedAnswer). r.number) (as_weld sim.union_) _ _ refl (λ k. refl)

  -- and then joint and velocities are as they were
  pub solve_refused : is_weld sim.union_ ≡ false → solve_weld_joint sim c a b use_bias ≡ not_solved sim a b
  unfolding solve_weld_joint
  solve_refused = refused (as_weld sim.union_) _ _

  -- the number is at most 1, and the place 0
  pub solve_range : AtMostOne (solve_weld_joint sim c a b use_bias).number (solve_weld_joint sim c a b use_bias).place
  unfolding solve_weld_joint
  solve_range = always (λ (r : SolvedAnswer). AtMostOne r.number r.place) (as_weld sim.union_) _ _ one_at_most (λ k. zero_at_most)
