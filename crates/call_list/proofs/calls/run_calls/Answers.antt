-- `run_calls` equals its definition: `bodies` and `joints` are those after the first calls. Assumes nothing.
use Rattle.std.proofs.Common.{◌≡◌, ap, ◌∙◌, ◌<◌, arith}
use lib.ListN.{set}
use Rattle.records.specs.declared.joint.JointSim.{JointSim}
use Rattle.constraint.specs.Answer.{warm_start_answer, solve_answer}
use Rattle.list_check.proofs.Lists.{slot_at, stage_at}
use Rattle.call_list.proofs.StageCodes.{code, coded, nothing}
use Rattle.call_list.proofs.Arms.{worked_warm, worked_solve, worked_none}
use Rattle.call_list.proofs.OneCall.{call_worked}
use Rattle.call_list.proofs.Loop.{invariant_more, invariant_done}
use Rattle.call_list.proofs.calls.run_calls.Goals as goal
use Rattle.call_list.proofs.calls.run_calls.Goals.{in-RevoluteWarmStart, in-SphericalWarmStart, in-WeldWarmStart}
use Rattle.call_list.proofs.calls.run_calls.Goals.{in-RevoluteSolve, in-SphericalSolve, in-WeldSolve, in-Nothing}

pub loop-slot-preserved : goal.loop-slot-preserved
unfolding code
loop-slot-preserved c =
    let s = c.args.scene in
    let l = c.args.list.now in
    let pairs = c.calls_of-slot-items.result.now in
    let k = c.loop-slot.slot-index in
    let front = c.calls_of-slot-items.ensures.front in
    let many = c.calls_of-slot-items.ensures.front_len in
    let slot = slot_at l pairs k front many in
    let stage = stage_at l pairs k front many in
    let w = c.loop-slot.invariant in
    let js = c.loop-slot.joints in
    let at = c.joint_position-at in
    let positions = c.positions_of-at_a in
    let m = c.match-work_of in
    let a = c.store_velocities in
    let b = c.store_velocities-in-loop-slot in
    let low0 : 0 < 3 = omega arith in
    let low1 : 1 < 3 = omega arith in
    let low2 : 2 < 3 = omega arith in
    let is = coded c.work_of.result slot _ stage c.work_of.ensures in
    let warm = worked_warm js at.result _ s.context _ _ slot stage (code c.work_of.result) m.joints m.v is in
    let solve = worked_solve js at.result _ s.context _ _ slot stage (code c.work_of.result) m.joints m.v is in
    let none = worked_none js at.result _ s.context _ _ slot stage (code c.work_of.result) m.joints m.v is in
    let stored = λ (x y : JointSim) (e : x ≡ y). ap (set js at.result) e in
    let worked =
    call_worked s js w.bodies c.loop-slot.bodies slot stage at.result positions.result.at_a positions.result.at_b _ _
    a.result b.result m.joints m.v w.long_bodies w.long_joints w.holds a.ensures b.ensures at.ensures.1
    (ap (λ x. x.at_a) positions.ensures.2) (ap (λ x. x.at_b) positions.ensures.2)
    (elim m.branch [
      | in-RevoluteWarmStart z ↦ warm 0 (warm_start_answer z.warm_start_revolute_joint.result) (ap code z.in-RevoluteWarmStart.is) low0
          z.warm_start_revolute_joint.ensures z.joints-is z.v-is
      | in-SphericalWarmStart z ↦ warm 1 (warm_start_answer z.warm_start_spherical_joint.result) (ap code z.in-SphericalWarmStart.is) low1
          z.warm_start_spherical_joint.ensures z.joints-is z.v-is
      | in-WeldWarmStart z ↦ warm 2 (warm_start_answer z.warm_start_weld_joint.result) (ap code z.in-WeldWarmStart.is) low2
          z.warm_start_weld_joint.ensures z.joints-is z.v-is
      | in-RevoluteSolve z ↦ solve 0 (solve_answer z.solve_revolute_joint-s.result) (ap code z.in-RevoluteSolve.is) low0 z.solve_revolute_joint-s.ensures
          (z.joints-is ∙ stored _ _ z.solved_joint.ensures) z.v-is
      | in-SphericalSolve z ↦ solve 1 (solve_answer z.solve_spherical_joint-s.result) (ap code z.in-SphericalSolve.is) low1 z.solve_spherical_joint-s.ensures
          (z.joints-is ∙ stored _ _ z.solved_joint-in-SphericalSolve.ensures) z.v-is
      | in-WeldSolve z ↦ solve 2 (solve_answer z.solve_weld_joint-s.result) (ap code z.in-WeldSolve.is) low2 z.solve_weld_joint-s.ensures
          (z.joints-is ∙ stored _ _ z.solved_joint-in-WeldSolve.ensures) z.v-is
      | in-Nothing z ↦ none (nothing _ z.in-Nothing.is) z.joints-is (z.v-is ∙ z.velocities_of-v.ensures)
    ])
    in
    invariant_more s l pairs js c.loop-slot.bodies k w front many _ m.joints c.loop-slot-test.true worked

pub returns : goal.returns
returns c =
    c.scene_left.ensures
    ∙ invariant_done c.args.scene c.args.list.now c.calls_of-slot-items.result.now c.loop-slot.joints c.loop-slot.bodies c.loop-slot.slot-index
    c.loop-slot.invariant c.calls_of-slot-items.ensures.front c.calls_of-slot-items.ensures.front_len c.loop-slot-test.false
