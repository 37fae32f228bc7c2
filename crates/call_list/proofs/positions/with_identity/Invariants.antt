-- The elements below `k` are filled.
use Rattle.std.proofs.Common.{◌≡◌, ◌++◌, take, drop}
use Rattle.call_list.proofs.positions.with_identity.Given as goal

abbrev pub invariant-loop-k : goal.invariant-loop-k
invariant-loop-k l = l.out ≡ take l.k l.scene.bodies ++ drop l.k l.initial.out
