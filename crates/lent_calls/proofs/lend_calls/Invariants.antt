use Rattle.direct.specs.Direct.{StageCall}
use Rattle.lent_calls.specs.Lent.{Makes}
use Rattle.direct.specs.Direct.{answered}
use Rattle.lent_calls.proofs.Turns.{Reached, left}
use Rattle.lent_calls.proofs.lend_calls.Given as goal

-- what the calls so far have answered and left
abbrev pub invariant-loop : goal.invariant-loop
invariant-loop g l =
    (c : StageCall) → Makes (goal.F-post g l.call) c → Reached c l.fn.joint l.fn.states l.body_count l.calls l.n l.counter
    (left (answered l.answer) l.joint l.states)
