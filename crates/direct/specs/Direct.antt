-- Document 01's direct call on lent memory: the answer, the joint and the states as it leaves them, for every joint and every list of states. What a joint
-- names and how a body is read and stored are the scene's definitions. Definitions only. Assumes nothing.
use Rattle.std.specs.Prelude.{◌≡◌, Bool, false, cond, List, ℕ, eqb, length, Option, None, Some}
use Rattle.solver.specs.declared.StepContext.{StepContext}
use Rattle.solver.specs.Solver.{default_context}
use Rattle.records.specs.declared.body.BodyState.{BodyState}
use Rattle.records.specs.declared.joint.JointUnion.{JointUnion}
use Rattle.records.specs.declared.joint.JointUnion.TheVariants.{Revolute, Spherical, Weld, Other}
use Rattle.records.specs.declared.joint.JointSim.{JointSim}
use Rattle.records.specs.declared.refusal.Cause.{Cause}
use Rattle.records.specs.Refusal.{number_of}
use Rattle.constraint.specs.declared.answer.Report.{Report}
use Rattle.constraint.specs.Answer.{no_report}
use Rattle.joint.specs.Stage.{Staged, stage_joint}
use Rattle.joint.specs.Index.{index_a, index_b, index_cause}
use Rattle.scene.specs.Scene.{state_at}
use Rattle.scene.specs.Plain.{store_both}
use Rattle.direct.specs.declared.Answer.{Answer}

-- ---- what is called

-- what a direct call is called with, besides what is lent to it: the kind, by the number of its case; the stage as a call list has it (0 warm start, 1 solve
-- with bias, 2 solve without); and the step context, which a warm start does not read
pub record StageCall : Type 0 where
  pub kind : ℕ
  pub stage : ℕ
  pub context : StepContext

-- a kind, by the number of its case
abbrev pub revolute : ℕ
revolute = 0

abbrev pub spherical : ℕ
spherical = 1

abbrev pub weld : ℕ
weld = 2

-- a warm start of a kind: stage 0, which reads no step context, so that any will do
abbrev pub warm_start : ℕ → StageCall
warm_start kind = record { kind = kind; stage = 0; context = default_context }

-- a solve of a kind: stage 1 with bias, stage 2 without
abbrev pub solve : ℕ → StepContext → Bool → StageCall
solve kind context use_bias = record { kind = kind; stage = cond use_bias 1 2; context = context }

-- ---- its tests

-- the joint's case is one of the three, and the kind called
abbrev pub is_of_kind : ℕ → JointUnion → Bool
is_of_kind kind (Revolute r) = eqb kind revolute
is_of_kind kind (Spherical r) = eqb kind spherical
is_of_kind kind (Weld r) = eqb kind weld
is_of_kind kind Other = false

-- 'a direct stage call tests 1, 2, 3': the first cause that holds, or 0. 1 is 'joint's case is not the kind called, or not one of the three'; 2 and 3 are
-- 'first body index below -1, or at or above the body count' and 'second body index likewise'
unfoldable pub cause : ℕ → JointUnion → ℕ → ℕ
cause kind union body_count = cond (is_of_kind kind union) (index_cause body_count union) 1

-- ---- what it does

-- number, place, and what a solve reports of its rows
pub record CallAnswer : Type 0 where
  pub number : ℕ
  pub place : ℕ
  pub report : Report

-- the answer, and the joint and the states as the call leaves them
pub record Outcome : Type 0 where
  pub answer : CallAnswer
  pub joint : JointSim
  pub states : List BodyState

-- 'a direct stage call has place 0'
abbrev pub answer_of : ℕ → Report → CallAnswer
answer_of number r = record { number = number; place = 0; report = r }

-- a refusal leaves all as it was, and reports nothing
abbrev pub refused : ℕ → JointSim → List BodyState → Outcome
refused number joint states = record { answer = answer_of number no_report; joint = joint; states = states }

-- the stage of the joint, on the states at its two indices: 'both states are read first', and -1 reads the identity state
abbrev pub stage_at : StageCall → JointSim → List BodyState → Staged
stage_at call joint states =
    let union = joint.union_ in
    stage_joint joint call.context (state_at states (index_a union)) (state_at states (index_b union)) call.stage

-- what the stage reports, the joint that it leaves, and the states 'stored back, A then B, only if dynamic'; -1 is never written, and only velocities change
abbrev pub done : JointSim → List BodyState → Staged → Outcome
done joint states r = record { answer = answer_of 0 r.report; joint = r.joint; states = store_both states joint.union_ r.velocities }

-- a direct call: 'its body count is the length of the lent slice'
unfoldable pub direct_call : StageCall → JointSim → List BodyState → Outcome
direct_call call joint states =
    let number = cause call.kind joint.union_ (length states) in
    cond (eqb number 0) (done joint states (stage_at call joint states)) (refused number joint states)

-- a function answers `r` and leaves the joint and the states as the outcome says: all of each is fixed
abbrev pub Leaves : Outcome → CallAnswer → JointSim → List BodyState → Type 0
Leaves outcome r joint states = (r ≡ outcome.answer) × (joint ≡ outcome.joint) × (states ≡ outcome.states)

-- ---- what the code answers, in those terms: 'when an answer is an enum, a definition gives this paper's number and values for each case of that enum'

abbrev pub refused_number : Option Cause → ℕ
refused_number None = 0
refused_number (Some cause) = number_of cause

abbrev pub answer : Report → Option Cause → Answer
answer r refused = record { report = r; refused = refused }

abbrev pub answered : Answer → CallAnswer
answered r = answer_of (refused_number r.refused) r.report
