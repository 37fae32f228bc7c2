-- `lend_calls` makes its calls one after the other (`Turns.antt`). Assumes nothing.
use Rattle.std.proofs.Common.{◌≡◌, length, arith, rules}
use Rattle.direct.specs.Direct.{answered}
use Rattle.lent_calls.proofs.Turns.{no_call, turn}
use Rattle.lent_calls.proofs.lend_calls.Goals as goal

pub loop-init : goal.loop-init
loop-init g c call makes =
    let whole : length c.args.states ≡ 40 = search rules in
    no_call call c.args.joint c.args.states c.args.body_count c.args.calls c.lent_count-n.result c.lent_count-n.ensures whole
    (answered c.no_answer-answer.result) c.no_answer-answer.ensures

pub loop-preserved : goal.loop-preserved
loop-preserved g c call makes =
    let made = c.make-answer in
    turn call c.args.joint c.args.states c.args.body_count c.args.calls c.lent_count-n.result
    (c.loop.invariant call makes) c.loop-test.true (answered made.result) made.new.joint made.new.states (made.ensures call makes)

pub returns : goal.returns
returns g c call makes =
    let all : c.loop.counter ≡ c.args.calls = omega arith in
    rw all at (c.loop.invariant call makes).holds
