-- No more runs were still than were made.
use Rattle.std.proofs.Common.{◌≤◌}
use Rattle.bench.proofs.lists.run_lists.Given as goal

abbrev pub invariant-loop-n : goal.invariant-loop-n
invariant-loop-n l = l.still ≤ l.n
