-- The stages of the three kinds as one, by the kind's number: on a joint of that kind they are the stage of the joint. And what a stage of a joint of any kind
-- keeps and reads. Assumes nothing.
--     warm_start_of, solve_of      `warm_start_revolute_joint`, say, is `warm_start_of 0`
use mathlib.Core.Path.{◌≡◌, refl, sym}
use mathlib.Core.Bool.{Bool}
use Prim.Native.Nat.{ℕ, ◌<◌}
use native.Mathlib.Omega.{arith}
use lib.Dec.{eqb}
use Rattle.solver.specs.declared.StepContext.{StepContext}
use Rattle.records.specs.declared.body.BodyState.{BodyState}
use Rattle.records.specs.declared.joint.JointSim.{JointSim}
use Rattle.records.specs.declared.joint.JointUnion.{JointUnion}
use Rattle.records.specs.declared.joint.JointUnion.TheVariants.{Revolute, Spherical, Weld, Other}
use Rattle.records.specs.Joint.{case_of}
use Rattle.revolute.proofs.Facts as Revolute-facts
use Rattle.spherical.proofs.Facts as Spherical-facts
use Rattle.weld.proofs.Facts as Weld-facts
use Rattle.joint.specs.Stage.{warm_start_as, warm_start_joint, solve_as, solve_joint, stage_joint, warm_start_of, solve_of}

-- ---- by the kind's number

module _ (joint : JointSim) (a b : BodyState) where
  warm_start_by : (u : JointUnion) → case_of u < 3 → warm_start_of (case_of u) joint a b ≡ warm_start_as u joint a b
  unfolding warm_start_as
  warm_start_by (Revolute j) h = refl
  warm_start_by (Spherical j) h = refl
  warm_start_by (Weld j) h = refl
  warm_start_by Other h = absurd (omega arith)

  solve_by : (context : StepContext) (use_bias : Bool) (u : JointUnion) → case_of u < 3
      → solve_of (case_of u) joint context a b use_bias ≡ solve_as u joint context a b use_bias
  unfolding solve_as
  solve_by context use_bias (Revolute j) h = refl
  solve_by context use_bias (Spherical j) h = refl
  solve_by context use_bias (Weld j) h = refl
  solve_by context use_bias Other h = absurd (omega arith)

module _ (kind : ℕ) (joint : JointSim) (a b : BodyState) (is : case_of joint.union_ ≡ kind) (h : kind < 3) where
  pub warm_start_of_lem : warm_start_of kind joint a b ≡ warm_start_joint joint a b
  warm_start_of_lem = rw (sym is) (warm_start_by joint a b joint.union_ (omega (arith, is)))

  pub solve_of_lem : (context : StepContext) (use_bias : Bool) → solve_of kind joint context a b use_bias ≡ solve_joint joint context a b use_bias
  solve_of_lem context use_bias = rw (sym is) (solve_by joint a b context use_bias joint.union_ (omega (arith, is)))

-- ---- of any kind

module _ (joint : JointSim) (a b : BodyState) where
  warm_start_kept : (u : JointUnion) → (warm_start_as u joint a b).joint ≡ joint
  unfolding warm_start_as
  warm_start_kept (Revolute j) = Revolute-facts.warm_start_joint_lem joint a b
  warm_start_kept (Spherical j) = Spherical-facts.warm_start_joint_lem joint a b
  warm_start_kept (Weld j) = Weld-facts.warm_start_joint_lem joint a b
  warm_start_kept Other = refl

  -- a warm start leaves the joint as it was
  pub warm_start_joint_lem : (warm_start_joint joint a b).joint ≡ joint
  warm_start_joint_lem = warm_start_kept joint.union_

  module _ (c d : StepContext) (same-h : c.h ≡ d.h) (same-inv-h : c.inv_h ≡ d.inv_h) where
    context_read : (use_bias : Bool) (u : JointUnion) → solve_as u joint c a b use_bias ≡ solve_as u joint d a b use_bias
    unfolding solve_as
    context_read use_bias (Revolute j) = Revolute-facts.solve_context joint c d a b use_bias same-h same-inv-h
    context_read use_bias (Spherical j) = Spherical-facts.solve_context joint c d a b use_bias same-h same-inv-h
    context_read use_bias (Weld j) = Weld-facts.solve_context joint c d a b use_bias
    context_read use_bias Other = refl

    -- of a context a stage reads no more than h and inv_h
    pub stage_context : (stage : ℕ) → stage_joint joint c a b stage ≡ stage_joint joint d a b stage
    unfolding stage_joint
    stage_context stage = rw (context_read (eqb stage 1) joint.union_)
