-- Body records: which bodies are written to, and how. Definitions only. Assumes nothing.
use Rattle.std.specs.Prelude.{Bool, cond, ℕ, ◌/◌, ◌%◌, eqb, ℤ, negsuc}
use Rattle.math_functions.specs.declared.types.Vec3.{Vec3}
use Rattle.math_functions.specs.Types.{vec3_zero, quat_identity}
use Rattle.records.specs.declared.body.BodyState.{BodyState}

-- NULL_INDEX, -1
abbrev pub null_index : ℤ
null_index = negsuc 0

-- document 01's 'dynamic': the flags have bit 0x1000
unfoldable pub is_dynamic : BodyState → Bool
is_dynamic state = eqb (state.flags / 0x1000 % 2) 1

-- only linear and angular velocity change
abbrev pub with_velocities : BodyState → Vec3 → Vec3 → BodyState
with_velocities state v w =
    record {
      linear_velocity = v;
      angular_velocity = w;
      delta_position = state.delta_position;
      delta_rotation = state.delta_rotation;
      flags = state.flags;
    }

-- the state with other flags, and with another delta position: what facts on what a stage reads are stated by
abbrev pub with_flags : BodyState → ℕ → BodyState
with_flags state flags =
    record {
      linear_velocity = state.linear_velocity;
      angular_velocity = state.angular_velocity;
      delta_position = state.delta_position;
      delta_rotation = state.delta_rotation;
      flags = flags;
    }

abbrev pub with_delta_position : BodyState → Vec3 → BodyState
with_delta_position state delta_position =
    record {
      linear_velocity = state.linear_velocity;
      angular_velocity = state.angular_velocity;
      delta_position = delta_position;
      delta_rotation = state.delta_rotation;
      flags = state.flags;
    }

-- the state as a stage stores it back: its velocities only if it is dynamic
unfoldable pub store_velocities : BodyState → Vec3 → Vec3 → BodyState
store_velocities state v w = cond (is_dynamic state) (with_velocities state v w) state

-- IDENTITY_BODY_STATE, what index -1 reads
abbrev pub identity_body_state : BodyState
identity_body_state =
    record { linear_velocity = vec3_zero; angular_velocity = vec3_zero; delta_position = vec3_zero; delta_rotation = quat_identity; flags = 0 }
