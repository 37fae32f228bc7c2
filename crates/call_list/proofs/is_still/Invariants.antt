-- `same` is the answer for the bodies below `k`.
use Rattle.std.proofs.Common.{◌≡◌}
use Rattle.scene.specs.Plain.{same_below}
use Rattle.call_list.proofs.is_still.Given as goal

abbrev pub invariant-loop-k : goal.invariant-loop-k
invariant-loop-k l = l.same ≡ same_below l.k l.before l.after
