-- A number that is read is small.
use Rattle.bench_wall.proofs.Numbers.{number_small}
use Rattle.bench_wall.proofs.arguments.argument.Goals as goal

pub returns-in-Ok : goal.returns-in-Ok
returns-in-Ok g c = rw (c.unwrap_or.ensures, c.number.ensures) (number_small _)
