-- The bodies of the models, and their states. Definitions only. Assumes nothing.
use Rattle.std.specs.Prelude.{ℕ, pos, Float}
use Rattle.math_functions.specs.declared.types.Matrix3.{Matrix3}
use Rattle.math_functions.specs.Float.{◌⊕◌, ◌⊖◌, ◌⊗◌, neg, zero, one, two}
use Rattle.math_functions.specs.Constants.{decimal}
use Rattle.math_functions.specs.Types.{vec3, quat, matrix3, vec3_zero, quat_identity, mat3_zero}
use Rattle.records.specs.declared.body.BodyRecord.{BodyRecord}
use Rattle.records.specs.declared.body.BodyState.{BodyState}

-- what stands fast: it is of the static set, 0, and has no mass
unfoldable pub fixed_body : BodyRecord
fixed_body =
    record {
      set_index = pos 0;
      local_index = pos 0;
      inv_mass = zero;
      inv_inertia_world = mat3_zero;
      rotation = quat_identity;
      center = vec3_zero;
      local_center = vec3_zero;
    }

-- the inverse inertia of a slab that does not stand along the axes
abbrev pub slab_inertia : Matrix3
slab_inertia =
    matrix3
    (vec3 two (decimal 125 3) (decimal 25 2))
    (vec3 (decimal 125 3) (decimal 3 0) (decimal 375 3))
    (vec3 (decimal 25 2) (decimal 375 3) (decimal 4 0))

-- a slab at an index of the awake set, 2, with its centre at x
unfoldable pub slab : ℕ → Float → BodyRecord
slab index x =
    record {
      set_index = pos 2;
      local_index = pos index;
      inv_mass = one;
      inv_inertia_world = slab_inertia;
      rotation = quat_identity;
      center = vec3 x zero zero;
      local_center = vec3_zero;
    }

-- a dynamic body that moves and turns, the faster the larger `speed`
unfoldable pub moving : Float → BodyState
moving speed =
    record {
      linear_velocity = vec3 (decimal 25 2 ⊕ speed) (decimal 125 3 ⊖ speed) (decimal 5 1 ⊗ speed);
      angular_velocity = vec3 (decimal 125 3 ⊖ speed) (decimal 5 1 ⊗ speed) (decimal 375 3 ⊕ speed);
      delta_position = vec3 (decimal 1 3 ⊗ speed) (neg (decimal 2 3)) (decimal 3 3);
      delta_rotation = quat (vec3 (decimal 1 2 ⊗ speed) (decimal 2 2 ⊗ speed ⊖ decimal 2 2) (decimal 3 2 ⊗ speed)) (decimal 9994 4);
      flags = 0x1000;
    }
