-- Each literal of the step is the float nearest to its decimal. Assumes nothing.
use Rattle.std.specs.Float.Ieee as Ieee
use Rattle.bench_wall.specs.Wall.{wall_of}
use Rattle.bench_wall.proofs.wall.wall_of.Goals as goal

pub returns : goal.returns
unfolding wall_of Ieee.round Ieee.of_bits
returns c = rw (← c.joints_of.ensures, ← c.gate_states.ensures)
