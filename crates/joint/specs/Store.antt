-- The states of a joint's two bodies once a stage's velocities are stored. Definitions only. Assumes nothing.
use Rattle.std.specs.Prelude.{Bool, cond}
use Rattle.records.specs.declared.body.BodyState.{BodyState}
use Rattle.records.specs.Body.{store_velocities}
use Rattle.constraint.specs.declared.velocity.Velocities.{Velocities}
use Rattle.joint.specs.declared.store.StatePair.{StatePair}

abbrev pub state_pair : BodyState → BodyState → StatePair
state_pair a b = record { state_a = a; state_b = b }

-- document 01: both states are read first; A is stored, then B, each only if dynamic; on one body B's velocities remain
unfoldable pub store_pair : BodyState → BodyState → Bool → Velocities → StatePair
store_pair state_a state_b one_body v =
    let a = store_velocities state_a v.v_a v.w_a in
    let b = store_velocities state_b v.v_b v.w_b in
    cond one_body (state_pair b b) (state_pair a b)
