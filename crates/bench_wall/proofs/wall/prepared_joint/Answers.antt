-- Each literal of the step is the float nearest to its decimal. Assumes nothing.
use Rattle.std.proofs.Common.{ap, ◌∙◌}
use Rattle.std.specs.Float.Ieee as Ieee
use Rattle.joint.specs.Prepare.{prepare_joint}
use Rattle.models.specs.Model.{step}
use Rattle.bench_wall.specs.Wall.{prepared_joint}
use Rattle.bench_wall.proofs.wall.prepared_joint.Goals as goal

pub returns : goal.returns
unfolding prepared_joint Ieee.round Ieee.of_bits
returns c =
    ap (λ p. p.joint) c.prepare.ensures ∙ ap (λ m. (prepare_joint m.joint step m.body_a m.body_b).joint) c.gate.ensures
