-- What prepare of a joint of any kind answers. Assumes nothing.
use mathlib.Core.Path.{◌≡◌, refl, ap}
use mathlib.Core.Bool.{false≢true}
use native.Mathlib.Omega.{arith}
use Rattle.solver.specs.declared.StepContext.{StepContext}
use Rattle.records.specs.declared.body.BodyRecord.{BodyRecord}
use Rattle.records.specs.declared.joint.JointBase.{JointBase}
use Rattle.records.specs.declared.joint.LimitAngles.{LimitAngles}
use Rattle.records.specs.declared.joint.JointUnion.{JointUnion}
use Rattle.records.specs.declared.joint.JointUnion.TheVariants.{Revolute, Spherical, Weld, Other}
use Rattle.records.specs.Joint.{is_other, joint_sim}
use Rattle.constraint.specs.Answer.{PreparedAnswer}
use Rattle.revolute.specs.Revolute.{prepare_revolute_joint}
use Rattle.spherical.specs.Spherical.{prepare_spherical_joint}
use Rattle.weld.specs.Weld.{prepare_weld_joint}
use Rattle.joint.specs.Prepare.{prepare_as, prepare_joint}
use Rattle.joint.specs.Claims.{PrepareAnswer, PrepareNumber}

module _ (base : JointBase) (angles : LimitAngles) (context : StepContext) (body_a body_b : BodyRecord) where
  abbrev answer : JointUnion → PreparedAnswer
  answer u = prepare_joint (joint_sim base u angles) context body_a body_b

  -- a case that is one of the three is worked
  done : (u : JointUnion) → (u ≡ Other → ⊥) → (answer u).number ≡ 0 → (answer u).place ≡ 0 → PrepareAnswer (joint_sim base u angles) context body_a body_b
  done u not number place =
      record {
        refused = (λ e. absurd (omega (arith, e, number)), λ e. absurd (not e));
        number_bound = omega (arith, number);
        place_zero = place;
        unaltered = λ e. absurd (not e);
      }

  by_case : (u : JointUnion) → PrepareAnswer (joint_sim base u angles) context body_a body_b
  unfolding prepare_as prepare_revolute_joint prepare_spherical_joint prepare_weld_joint
  by_case (Revolute j) = done (Revolute j) (λ e. false≢true (ap is_other e)) refl refl
  by_case (Spherical j) = done (Spherical j) (λ e. false≢true (ap is_other e)) refl refl
  by_case (Weld j) = done (Weld j) (λ e. false≢true (ap is_other e)) refl refl
  by_case Other = record { refused = (λ e. refl, λ e. refl); number_bound = omega arith; place_zero = refl; unaltered = λ e. refl }

pub prepare_number : PrepareNumber
prepare_number joint context body_a body_b = by_case joint.base joint.angles context body_a body_b joint.union_
