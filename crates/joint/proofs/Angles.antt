-- The claims of specs/Claims.antt on the two angles, proved, each under its statement's name in small letters. Assumes nothing.
use mathlib.Core.Path.{◌≡◌, refl, ap, ◌∙◌}
use mathlib.Core.Bool.{Bool, cond}
use native.Mathlib.Omega.{arith}
use lib.Ieee.{Float, nan}
use Rattle.solver.specs.declared.StepContext.{StepContext}
use Rattle.records.specs.declared.body.BodyRecord.{BodyRecord}
use Rattle.records.specs.declared.joint.JointUnion.{JointUnion}
use Rattle.records.specs.declared.joint.JointUnion.TheVariants.{Revolute, Spherical, Weld, Other}
use Rattle.records.specs.declared.joint.JointSim.{JointSim}
use Rattle.records.specs.Joint.{is_revolute, is_spherical, is_weld, no_angles}
use Rattle.constraint.specs.Angular.{twist_angle_if, swing_angle_if}
use Rattle.revolute.specs.Revolute.{solve_revolute_joint}
use Rattle.spherical.specs.Spherical.{solve_spherical_joint}
use Rattle.weld.specs.Weld.{solve_weld_joint}
use Rattle.revolute.proofs.Facts as Revolute-facts
use Rattle.spherical.proofs.Facts as Spherical-facts
use Rattle.weld.proofs.Facts as Weld-facts
use Rattle.stop_code.specs.StopCode.{stop_code}
use Rattle.stop_code.proofs.Stops.{no_stops}
use Rattle.joint.specs.Prepare.{prepare_as}
use Rattle.joint.specs.Stage.{solve_as}
use Rattle.joint.specs.Claims.{Stored, SolveStores, WarmStartKeepsCode, PreparedCode}
use Rattle.joint.proofs.Stages.{warm_start_joint_lem}

-- an angle that is kept where a row is worked
stored : (worked : Bool) (angle : Float) → Stored worked angle (cond worked angle nan)
stored worked angle = record { of_worked = λ e. rw e; of_other = λ e. rw e }

pub solve_stores : SolveStores
unfolding solve_as solve_revolute_joint solve_spherical_joint solve_weld_joint twist_angle_if swing_angle_if
solve_stores joint context a b use_bias =
    record {
      revolute = λ r e. rw (e, Revolute-facts.solve_angles joint.base r context.h context.inv_h a b use_bias)
          (record { twist = stored _ _; no_swing = refl });
      spherical = λ r e. rw (e, Spherical-facts.solve_angles joint.base r context.h context.inv_h a b use_bias)
          (record { twist = stored _ _; swing = stored _ _ });
      weld = λ w e. rw e;
      refused = λ e. rw e;
    }

pub warm_start_keeps_code : WarmStartKeepsCode
warm_start_keeps_code joint a b =
    let same = warm_start_joint_lem joint a b in
    record { angles = ap (λ j. j.angles) same; code = ap stop_code same }

module _ (joint : JointSim) (context : StepContext) (body_a body_b : BodyRecord) where
  angles_of : (u : JointUnion) → (prepare_as u joint context body_a body_b).number ≡ 0 → (prepare_as u joint context body_a body_b).joint.angles ≡ no_angles
  unfolding prepare_as
  angles_of (Revolute j) = Revolute-facts.prepare_angles joint context body_a body_b
  angles_of (Spherical j) = Spherical-facts.prepare_angles joint context body_a body_b
  angles_of (Weld j) = Weld-facts.prepare_angles joint context body_a body_b
  angles_of Other = λ e. absurd (omega (arith, e))

  -- a joint of one of the three kinds is prepared
  code_of : (u : JointUnion) → joint.union_ ≡ u → (stop_code (prepare_as u joint context body_a body_b).joint).code ≡ 0
  unfolding prepare_as
  code_of (Revolute j) e =
      let done = Revolute-facts.prepare_number joint context body_a body_b ∙ ap (λ u. cond (is_revolute u) 0 1) e in
      (no_stops _).no_angles_lem (angles_of (Revolute j) done)
  code_of (Spherical j) e =
      let done = Spherical-facts.prepare_number joint context body_a body_b ∙ ap (λ u. cond (is_spherical u) 0 1) e in
      (no_stops _).no_angles_lem (angles_of (Spherical j) done)
  code_of (Weld j) e =
      let done = Weld-facts.prepare_number joint context body_a body_b ∙ ap (λ u. cond (is_weld u) 0 1) e in
      (no_stops _).no_angles_lem (angles_of (Weld j) done)
  code_of Other e = (no_stops joint).refused e

pub prepared_code : PreparedCode
prepared_code joint context body_a body_b =
    let u = joint.union_ in
    record { angles = angles_of joint context body_a body_b u; code = code_of joint context body_a body_b u refl }
