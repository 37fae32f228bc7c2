-- Prepare of a joint of any kind. Definitions only. Assumes nothing.
use Rattle.std.specs.Prelude.{cond, ℕ, eqb}
use Rattle.solver.specs.declared.StepContext.{StepContext}
use Rattle.records.specs.declared.body.BodyRecord.{BodyRecord}
use Rattle.records.specs.declared.joint.JointSim.{JointSim}
use Rattle.records.specs.declared.joint.JointUnion.{JointUnion}
use Rattle.records.specs.declared.joint.JointUnion.TheVariants.{Revolute, Spherical, Weld, Other}
use Rattle.constraint.specs.Answer.{PreparedAnswer}
use Rattle.constraint.specs.Answer.{not_prepared}
use Rattle.revolute.specs.Revolute.{prepare_revolute_joint}
use Rattle.spherical.specs.Spherical.{prepare_spherical_joint}
use Rattle.weld.specs.Weld.{prepare_weld_joint}

-- by the joint's case: 'prepare refuses only with 1, place 0', here the empty case
unfoldable pub prepare_as : JointUnion → JointSim → StepContext → BodyRecord → BodyRecord → PreparedAnswer
prepare_as (Revolute j) joint context body_a body_b = prepare_revolute_joint joint context body_a body_b
prepare_as (Spherical j) joint context body_a body_b = prepare_spherical_joint joint context body_a body_b
prepare_as (Weld j) joint context body_a body_b = prepare_weld_joint joint context body_a body_b
prepare_as Other joint context body_a body_b = not_prepared joint

abbrev pub prepare_joint : JointSim → StepContext → BodyRecord → BodyRecord → PreparedAnswer
prepare_joint joint context body_a body_b = prepare_as joint.union_ joint context body_a body_b

-- the prepare of a kind, by the number of its case: 0 revolute, 1 spherical, 2 weld
abbrev pub prepare_of : ℕ → JointSim → StepContext → BodyRecord → BodyRecord → PreparedAnswer
prepare_of kind joint context body_a body_b =
    cond (eqb kind 0) (prepare_revolute_joint joint context body_a body_b)
    (cond (eqb kind 1) (prepare_spherical_joint joint context body_a body_b) (prepare_weld_joint joint context body_a body_b))
