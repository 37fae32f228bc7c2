-- Each literal is the float nearest to its decimal. Assumes nothing.
use Rattle.std.specs.Float.Ieee as Ieee
use Rattle.bench_wall.specs.Wall.{gate_state}
use Rattle.bench_wall.proofs.wall.gate_state.Goals as goal

pub returns : goal.returns
unfolding gate_state Ieee.round Ieee.of_bits
returns c = rw (← c.moving-state.ensures, ← c.from-more.ensures)
