-- `lend_solve_weld_joint` makes its calls one after the other (`Turns.antt`): the first before the loop. Assumes nothing.
use Rattle.std.proofs.Common.{◌≡◌, length, rules}
use Rattle.direct.specs.Direct.{solve}
use Rattle.direct.specs.Direct.{answered}
use Rattle.lent_calls.proofs.Turns.{no_call, turn}
use Rattle.lent_calls.proofs.lend_solve_weld_joint.Goals as goal
use Rattle.lent_calls.proofs.lend_solve_weld_joint.Goals.{then-i-calls, else-i-calls}

pub loop-i-init : goal.loop-i-init
loop-i-init c =
    let n = c.lent_count-n.result in
    let whole : length c.args.states ≡ 40 = search rules in
    let none = no_call (solve 2 c.args.context c.args.use_bias) c.args.joint c.args.states c.args.body_count c.args.calls n
    c.lent_count-n.ensures whole (answered c.no_answer-answer.result) c.no_answer-answer.ensures in
    elim c.if-i-calls.branch [
      | then-i-calls w ↦
          let called = w.solve_weld_joint-answer in
          rw (w.joint-is, w.states-is, w.answer-is, w.i-is)
          (turn (solve 2 c.args.context c.args.use_bias) c.args.joint c.args.states c.args.body_count c.args.calls n
          none w.if-i-calls.true (answered called.result) called.new.joint called.new.states called.ensures)
      | else-i-calls w ↦ rw (w.joint-is, w.states-is, w.answer-is, w.i-is) none
    ]

pub loop-i-preserved : goal.loop-i-preserved
loop-i-preserved c =
    let called = c.solve_weld_joint-answer-in-loop-i in
    turn (solve 2 c.args.context c.args.use_bias) c.args.joint c.args.states c.args.body_count c.args.calls c.lent_count-n.result
    c.loop-i.invariant c.loop-i-test.true (answered called.result) called.new.joint called.new.states called.ensures
