-- The steps by which the code makes a direct call: the positions of the two states in the slice, and what is stored there. The length of the slice is the
-- position of none. Definitions only. Assumes nothing.
use Rattle.std.specs.Prelude.{List, ℕ, ℤ, pos, negsuc, get_or, set}
use Rattle.math_functions.specs.declared.types.Vec3.{Vec3}
use Rattle.records.specs.declared.body.BodyState.{BodyState}
use Rattle.records.specs.Body.{store_velocities, identity_body_state}
use Rattle.constraint.specs.declared.velocity.Velocities.{Velocities}
use Rattle.joint.specs.declared.store.StatePair.{StatePair}
use Rattle.joint.specs.Store.{state_pair}
use Rattle.direct.specs.declared.positions.Positions.{Positions}

-- an index among n, and n for a negative one
abbrev pub position_of : ℕ → ℤ → ℕ
position_of n (pos k) = k
position_of n (negsuc k) = n

abbrev pub read_states : Positions → List BodyState → StatePair
read_states p states = state_pair (get_or states p.a identity_body_state) (get_or states p.b identity_body_state)

abbrev pub store_at : ℕ → Vec3 → Vec3 → List BodyState → List BodyState
store_at position v w states = set states position (store_velocities (get_or states position identity_body_state) v w)

abbrev pub write_states : Positions → Velocities → List BodyState → List BodyState
write_states p v states = store_at p.b v.v_b v.w_b (store_at p.a v.v_a v.w_a states)
