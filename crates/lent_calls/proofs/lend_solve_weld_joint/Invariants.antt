use Rattle.std.proofs.Common.{◌-◌}
use Rattle.direct.specs.Direct.{solve}
use Rattle.direct.specs.Direct.{answered}
use Rattle.lent_calls.proofs.Turns.{Reached, left}
use Rattle.lent_calls.proofs.lend_solve_weld_joint.Given as goal

-- what the calls so far have answered and left
abbrev pub invariant-loop-i : goal.invariant-loop-i
invariant-loop-i l = Reached (solve 2 l.context l.use_bias) l.fn.joint l.fn.states l.body_count l.calls l.n l.i (left (answered l.answer) l.joint l.states)

abbrev pub decreases-loop-i : goal.decreases-loop-i
decreases-loop-i l = l.calls - l.i
