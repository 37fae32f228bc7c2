-- Heron's steps keep the guess within 32 digits and lower it. Assumes nothing.
use Rattle.std.proofs.Common.{◌^◌, ◌<◌}
use Rattle.sqrt.proofs.lower_guess.Given as goal

abbrev pub invariant-loop-r : goal.invariant-loop-r
invariant-loop-r l = l.r < 2 ^ 32

abbrev pub decreases-loop-r : goal.decreases-loop-r
decreases-loop-r l = l.r
