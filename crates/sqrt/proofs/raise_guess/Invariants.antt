-- The guess stays not too high, and within 32 digits. Assumes nothing.
use Rattle.std.proofs.Common.{◌+◌, ◌-◌, ◌*◌, ◌^◌, ◌<◌}
use Rattle.sqrt.proofs.raise_guess.Given as goal

abbrev pub invariant-loop-r : goal.invariant-loop-r
invariant-loop-r l = (l.r < 2 ^ 32) × (l.r * l.r < l.n + l.r)

abbrev pub decreases-loop-r : goal.decreases-loop-r
decreases-loop-r l = 2 ^ 32 - l.r
