-- The answers of the stages: number 0 with what was done, or number 1 with nothing altered. Place is 0. Definitions only. Assumes nothing.
use Rattle.std.specs.Prelude.{ℕ, Option, Some, None}
use Rattle.math_functions.specs.declared.mark.Mark.{Mark}
use Rattle.math_functions.specs.Mark.{no_mark}
use Rattle.records.specs.declared.body.BodyState.{BodyState}
use Rattle.records.specs.declared.joint.JointSim.{JointSim}
use Rattle.records.specs.declared.refusal.WrongKind.{WrongKind}
use Rattle.constraint.specs.declared.velocity.Velocities.{Velocities}
use Rattle.constraint.specs.declared.answer.Prepared.{Prepared}
use Rattle.constraint.specs.declared.answer.WarmStarted.{WarmStarted}
use Rattle.constraint.specs.declared.answer.Report.{Report}
use Rattle.constraint.specs.declared.answer.Solved.{Solved}
use Rattle.constraint.specs.Velocity.{velocities_of}

-- ---- what a stage by value answers: document 01's number and place, and what it gives back

pub record PreparedAnswer : Type 0 where
  pub number : ℕ
  pub place : ℕ
  pub joint : JointSim
  pub mass_mark : Option Mark

pub record WarmStartedAnswer : Type 0 where
  pub number : ℕ
  pub place : ℕ
  pub joint : JointSim
  pub velocities : Velocities

pub record SolvedAnswer : Type 0 where
  pub number : ℕ
  pub place : ℕ
  pub joint : JointSim
  pub velocities : Velocities
  pub report : Report

-- C-15: 'and prepare that of the rotation or angular mass'
abbrev pub prepared : JointSim → Option Mark → PreparedAnswer
prepared joint mass_mark = record { number = 0; place = 0; joint = joint; mass_mark = mass_mark }

-- the joint's case is not the kind called; nothing is inverted
abbrev pub not_prepared : JointSim → PreparedAnswer
not_prepared joint = record { number = 1; place = 0; joint = joint; mass_mark = no_mark }

abbrev pub warm_started : JointSim → Velocities → WarmStartedAnswer
warm_started joint velocities = record { number = 0; place = 0; joint = joint; velocities = velocities }

abbrev pub not_warm_started : JointSim → BodyState → BodyState → WarmStartedAnswer
not_warm_started joint state_a state_b = record { number = 1; place = 0; joint = joint; velocities = velocities_of state_a state_b }

-- C-15: 'Each solve's answer passes on the marks of the perpendicular and point rows'
abbrev pub report : Option Mark → Option Mark → Report
report perp_mark point_mark = record { perp_mark = perp_mark; point_mark = point_mark }

-- what a stage reports that works no row: a warm start, and every refusal
abbrev pub no_report : Report
no_report = report no_mark no_mark

abbrev pub solved : JointSim → Velocities → Report → SolvedAnswer
solved joint velocities r = record { number = 0; place = 0; joint = joint; velocities = velocities; report = r }

abbrev pub not_solved : JointSim → BodyState → BodyState → SolvedAnswer
not_solved joint state_a state_b = record { number = 1; place = 0; joint = joint; velocities = velocities_of state_a state_b; report = no_report }

-- ---- those answers of what the code returns: 'when an answer is an enum, a definition gives this paper's number and values for each case of that enum'

-- 1 is 'joint's case is not the kind called, or not one of the three'
abbrev pub number_of : Option WrongKind → ℕ
number_of None = 0
number_of (Some w) = 1

abbrev pub prepare_answer : Prepared → PreparedAnswer
prepare_answer r = record { number = number_of r.refused; place = 0; joint = r.joint; mass_mark = r.mass_mark }

abbrev pub solve_answer : Solved → SolvedAnswer
solve_answer r = record { number = number_of r.refused; place = 0; joint = r.joint; velocities = r.velocities; report = r.report }

abbrev pub warm_start_answer : WarmStarted → WarmStartedAnswer
warm_start_answer r = record { number = number_of r.refused; place = 0; joint = r.joint; velocities = r.velocities }
