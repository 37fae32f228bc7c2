-- Each call gives a gate.
use Rattle.std.proofs.Common.{rules}
use Rattle.bench_wall.specs.Wall.{joint_of, joints_of}
use Rattle.bench_wall.proofs.Filled.{made}
use Rattle.bench_wall.proofs.wall.joints_of.Goals as goal

pub returns : goal.returns
unfolding joints_of
returns c =
    made _ _ (λ k. joint_of c.args.kind k c.args.is_prepared) 32 (λ i y q h k. (search rules, search rules)) _ c.from_fn.ensures.items
