-- Each call gives a gate.
use Rattle.std.proofs.Common.{rules}
use Rattle.bench_wall.specs.Wall.{gate_state, gate_states}
use Rattle.bench_wall.proofs.Filled.{made}
use Rattle.bench_wall.proofs.wall.gate_states.Goals as goal

pub returns : goal.returns
unfolding gate_states
returns c = made _ _ gate_state 32 (λ i y q h k. (search rules, search rules)) _ c.from_fn.ensures.items
