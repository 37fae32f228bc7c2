-- `warm_start` leaves what a direct warm start of the kind is defined to leave, refused or not (`Planned.antt`). Assumes nothing.
use Rattle.direct.specs.Direct.{warm_start}
use Rattle.direct.proofs.Planned.{refused_leaves, warm_start_leaves}
use Rattle.direct.proofs.warm_start.Goals as goal

pub returns-in-Some : goal.returns-in-Some
returns-in-Some g c =
    let found = c.find_positions-positions in
    refused_leaves c.args.joint.now c.args.states.now (warm_start g.K.Kind.kind) found.result.refused c.in-Some.cause c.in-Some.is found.ensures.refused

pub returns : goal.returns
returns g c =
    let found = c.find_positions-positions in
    let pair = c.read_states-pair in
    warm_start_leaves c.args.joint.now c.args.states.now found.result found.ensures.a found.ensures.b pair.result pair.new.states c.write_states.new.states
    pair.ensures.1 pair.ensures.0 c.in_default.is g.K.Kind.kind found.ensures.refused c.warm_start-s.result c.warm_start-s.ensures c.write_states.ensures
