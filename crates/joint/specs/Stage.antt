-- One stage of a joint of any kind: a warm start or a solve. Definitions only. Assumes nothing.
use Rattle.std.specs.Prelude.{Bool, cond, ℕ, eqb}
use Rattle.solver.specs.declared.StepContext.{StepContext}
use Rattle.records.specs.declared.body.BodyState.{BodyState}
use Rattle.records.specs.declared.joint.JointSim.{JointSim}
use Rattle.records.specs.declared.joint.JointUnion.{JointUnion}
use Rattle.records.specs.declared.joint.JointUnion.TheVariants.{Revolute, Spherical, Weld, Other}
use Rattle.constraint.specs.declared.velocity.Velocities.{Velocities}
use Rattle.constraint.specs.declared.answer.Report.{Report}
use Rattle.constraint.specs.Answer.{WarmStartedAnswer}
use Rattle.constraint.specs.Answer.{SolvedAnswer}
use Rattle.constraint.specs.Answer.{no_report, not_warm_started, not_solved}
use Rattle.revolute.specs.Revolute.{warm_start_revolute_joint, solve_revolute_joint}
use Rattle.spherical.specs.Spherical.{warm_start_spherical_joint, solve_spherical_joint}
use Rattle.weld.specs.Weld.{warm_start_weld_joint, solve_weld_joint}

-- by the joint's case; the empty one is refused, and leaves all as it was
unfoldable pub warm_start_as : JointUnion → JointSim → BodyState → BodyState → WarmStartedAnswer
warm_start_as (Revolute j) joint state_a state_b = warm_start_revolute_joint joint state_a state_b
warm_start_as (Spherical j) joint state_a state_b = warm_start_spherical_joint joint state_a state_b
warm_start_as (Weld j) joint state_a state_b = warm_start_weld_joint joint state_a state_b
warm_start_as Other joint state_a state_b = not_warm_started joint state_a state_b

abbrev pub warm_start_joint : JointSim → BodyState → BodyState → WarmStartedAnswer
warm_start_joint joint state_a state_b = warm_start_as joint.union_ joint state_a state_b

unfoldable pub solve_as : JointUnion → JointSim → StepContext → BodyState → BodyState → Bool → SolvedAnswer
solve_as (Revolute j) joint context state_a state_b use_bias = solve_revolute_joint joint context state_a state_b use_bias
solve_as (Spherical j) joint context state_a state_b use_bias = solve_spherical_joint joint context state_a state_b use_bias
solve_as (Weld j) joint context state_a state_b use_bias = solve_weld_joint joint context state_a state_b use_bias
solve_as Other joint context state_a state_b use_bias = not_solved joint state_a state_b

abbrev pub solve_joint : JointSim → StepContext → BodyState → BodyState → Bool → SolvedAnswer
solve_joint joint context state_a state_b use_bias = solve_as joint.union_ joint context state_a state_b use_bias

-- the stages of a kind, by the number of its case: 0 revolute, 1 spherical, 2 weld
abbrev pub warm_start_of : ℕ → JointSim → BodyState → BodyState → WarmStartedAnswer
warm_start_of kind joint state_a state_b =
    cond (eqb kind 0) (warm_start_revolute_joint joint state_a state_b)
    (cond (eqb kind 1) (warm_start_spherical_joint joint state_a state_b) (warm_start_weld_joint joint state_a state_b))

abbrev pub solve_of : ℕ → JointSim → StepContext → BodyState → BodyState → Bool → SolvedAnswer
solve_of kind joint context state_a state_b use_bias =
    cond (eqb kind 0) (solve_revolute_joint joint context state_a state_b use_bias)
    (cond (eqb kind 1) (solve_spherical_joint joint context state_a state_b use_bias) (solve_weld_joint joint context state_a state_b use_bias))

-- what a stage leaves, the joint and the velocities of its two bodies, and what it reports
pub record Staged : Type 0 where
  pub joint : JointSim
  pub velocities : Velocities
  pub report : Report

abbrev pub staged : JointSim → Velocities → Report → Staged
staged joint velocities r = record { joint = joint; velocities = velocities; report = r }

-- a warm start works no row
abbrev pub of_warm_start : WarmStartedAnswer → Staged
of_warm_start r = staged r.joint r.velocities no_report

abbrev pub of_solve : SolvedAnswer → Staged
of_solve r = staged r.joint r.velocities r.report

-- document 01's stages: 0 warm start, 1 solve with bias, 2 solve without, and so is any other, which no accepted call has
unfoldable pub stage_joint : JointSim → StepContext → BodyState → BodyState → ℕ → Staged
stage_joint joint context state_a state_b stage =
    cond (eqb stage 0) (of_warm_start (warm_start_joint joint state_a state_b)) (of_solve (solve_joint joint context state_a state_b (eqb stage 1)))
