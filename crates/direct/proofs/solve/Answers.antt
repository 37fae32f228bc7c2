-- `solve` leaves what a direct solve of the kind is defined to leave, refused or not (`Planned.antt`). Assumes nothing.
use Rattle.direct.specs.Direct.{solve}
use Rattle.direct.proofs.Planned.{refused_leaves, solve_leaves}
use Rattle.direct.proofs.solve.Goals as goal

pub returns-in-Some : goal.returns-in-Some
returns-in-Some g c =
    let found = c.find_positions-positions in
    let call = solve g.K.Kind.kind c.args.context c.args.use_bias in
    refused_leaves c.args.joint.now c.args.states.now call found.result.refused c.in-Some.cause c.in-Some.is found.ensures.refused

pub returns : goal.returns
returns g c =
    let found = c.find_positions-positions in
    let pair = c.read_states-pair in
    solve_leaves c.args.joint.now c.args.states.now found.result found.ensures.a found.ensures.b pair.result pair.new.states c.write_states.new.states
    pair.ensures.1 pair.ensures.0 c.in_default.is g.K.Kind.kind c.args.context c.args.use_bias found.ensures.refused c.solve-s.result c.solve-s.ensures
    c.write_states.ensures
