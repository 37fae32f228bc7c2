-- `bodies` and `joints` are those after the first calls.
use Rattle.call_list.proofs.Loop.{LoopInvariant}
use Rattle.call_list.proofs.calls.run_calls.Given as goal

abbrev pub invariant-loop-slot : goal.invariant-loop-slot
invariant-loop-slot l = LoopInvariant l.scene l.list l.joints l.bodies l.slot-index
