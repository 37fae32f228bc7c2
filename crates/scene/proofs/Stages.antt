-- What a stage keeps of its joint, and what a solve brings about. Assumes nothing.
use mathlib.Core.Path.{◌≡◌, refl, sym, ap, ◌∙◌}
use mathlib.Core.Logic.{◌≢◌}
use mathlib.Core.Bool.{Bool, true, false, cond, false≢true}
use Prim.Native.Nat.{ℕ}
use lib.Dec.{eqb}
use borrow.Author.Tests.{eq-eqb, ne_eqb}
use Rattle.solver.specs.declared.StepContext.{StepContext}
use Rattle.records.specs.declared.body.BodyState.{BodyState}
use Rattle.records.specs.declared.joint.JointBase.{JointBase}
use Rattle.records.specs.declared.joint.LimitAngles.{LimitAngles}
use Rattle.records.specs.declared.joint.JointUnion.{JointUnion}
use Rattle.records.specs.declared.joint.JointUnion.TheVariants.{Revolute, Spherical, Weld, Other}
use Rattle.records.specs.declared.joint.JointSim.{JointSim}
use Rattle.records.specs.Joint.{no_angles, joint_sim}
use Rattle.revolute.specs.Revolute.{solve_revolute_joint}
use Rattle.spherical.specs.Spherical.{solve_spherical_joint}
use Rattle.weld.specs.Weld.{solve_weld_joint}
use Rattle.revolute.proofs.Facts as Revolute-facts
use Rattle.spherical.proofs.Facts as Spherical-facts
use Rattle.weld.proofs.Facts as Weld-facts
use Rattle.joint.specs.Stage.{Staged, solve_as, solve_joint, stage_joint}
use Rattle.joint.proofs.Stages.{warm_start_joint_lem}
use Rattle.scene.specs.Claims.{settings_of, limits_of, LimitsNonNegative}

-- a joint with no limits has none that pulls
pub no_limits : (u v : JointUnion) → (limits_of u).limit_on ≡ false → (limits_of u).cone_on ≡ false → LimitsNonNegative u v
no_limits u v l c =
    record {
      lower = λ on. absurd (false≢true (sym l ∙ on));
      upper = λ on. absurd (false≢true (sym l ∙ on));
      swing = λ on. absurd (false≢true (sym c ∙ on));
    }

-- ---- a solve, by the joint's case

module _ (base : JointBase) (angles : LimitAngles) (context : StepContext) (a b : BodyState) (use_bias : Bool) where
  solve_keeps : (u : JointUnion) → settings_of (solve_joint (joint_sim base u angles) context a b use_bias).joint ≡ settings_of (joint_sim base u angles)
  unfolding solve_as solve_revolute_joint solve_spherical_joint solve_weld_joint
  solve_keeps (Revolute j) =
      ap (λ x. settings_of (joint_sim base (Revolute x) no_angles)) (Revolute-facts.solve_keeps base j context.h context.inv_h a b use_bias)
  solve_keeps (Spherical j) =
      ap (λ x. settings_of (joint_sim base (Spherical x) no_angles)) (Spherical-facts.solve_keeps base j context.h context.inv_h a b use_bias)
  solve_keeps (Weld j) = ap (λ x. settings_of (joint_sim base (Weld x) no_angles)) (Weld-facts.solve_keeps base j a b use_bias)
  solve_keeps Other = refl

  solve_limits_of : (u : JointUnion) → base.fixed_rotation ≡ false
      → LimitsNonNegative u (solve_joint (joint_sim base u angles) context a b use_bias).joint.union_
  unfolding solve_as solve_revolute_joint solve_spherical_joint solve_weld_joint
  solve_limits_of (Revolute j) free =
      let limits = Revolute-facts.solve_limits_lem base j context.h context.inv_h a b use_bias free in
      record { lower = limits.lower; upper = limits.upper; swing = λ on. absurd (false≢true on) }
  solve_limits_of (Spherical j) free =
      let limits = Spherical-facts.solve_limits_lem base j context.h context.inv_h a b use_bias free in
      record { lower = limits.lower_twist; upper = limits.upper_twist; swing = limits.swing }
  solve_limits_of (Weld j) free = no_limits (Weld j) _ refl refl
  solve_limits_of Other free = no_limits Other _ refl refl

-- ---- a stage

module _ (joint : JointSim) (context : StepContext) (a b : BodyState) (stage : ℕ) where
  -- a warm start leaves the joint as it was
  pub warm_keeps : stage ≡ 0 → (stage_joint joint context a b stage).joint ≡ joint
  unfolding stage_joint
  warm_keeps e = rw (eq-eqb stage 0 e) (warm_start_joint_lem joint a b)

  -- no stage changes more of a joint than what a solve writes
  pub stage_keeps : settings_of (stage_joint joint context a b stage).joint ≡ settings_of joint
  unfolding stage_joint
  stage_keeps = by (eqb stage 0) _ _ (warm_start_joint_lem joint a b) (solve_keeps joint.base joint.angles context a b (eqb stage 1) joint.union_)
    where
      by : (x : Bool) (w s : Staged) → w.joint ≡ joint → settings_of s.joint ≡ settings_of joint → settings_of (cond x w s).joint ≡ settings_of joint
      by true w s p q = ap settings_of p
      by false w s p q = q

  -- after a solve with rotation not fixed the enabled limits' impulses are zero or positive
  pub solve_limits_lem : stage ≢ 0 → joint.base.fixed_rotation ≡ false
      → LimitsNonNegative joint.union_ (stage_joint joint context a b stage).joint.union_
  unfolding stage_joint
  solve_limits_lem ne free = rw (ne_eqb stage 0 ne) (solve_limits_of joint.base joint.angles context a b (eqb stage 1) joint.union_ free)
