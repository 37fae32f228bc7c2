-- The scene of the two examples: a chain of three bodies and two weld joints. Definitions only. Assumes nothing.
use Rattle.std.specs.Prelude.{true, List, [], ◌∷◌, ℕ, Float, pos, replicate}
use Rattle.math_functions.specs.Float.{lit, zero, one}
use Rattle.math_functions.specs.Types.{vec3, vec3_zero, mat3_zero, transform_identity}
use Rattle.solver.specs.Solver.{no_softness, default_context}
use Rattle.records.specs.declared.body.BodyState.{BodyState}
use Rattle.records.specs.declared.joint.JointType.TheVariants as JointType
use Rattle.records.specs.declared.joint.JointUnion.TheVariants.{Weld}
use Rattle.records.specs.declared.joint.JointSim.{JointSim}
use Rattle.records.specs.Body.{identity_body_state, with_velocities, with_flags}
use Rattle.records.specs.Base.{settings_with, built}
use Rattle.records.specs.Weld.{default_weld, with_indices}
use Rattle.records.specs.Joint.{no_angles, joint_sim, unused_joint}
use Rattle.scene.specs.declared.Scene.{Scene}

-- 4.0 and 8.0
abbrev pub four : Float
four = lit 0x4080_0000

abbrev pub eight : Float
eight = lit 0x4100_0000

-- a weld joint from body a to body b: inverse masses 1, rotation fixed, so that a solve works the point row alone, and all else as the default has it
abbrev pub weld : ℕ → ℕ → JointSim
weld a b =
    joint_sim
    (built
    (settings_with (pos a) (pos a) (pos b) JointType.Weld transform_identity transform_identity no_softness)
    (record { inv_mass_a = one; inv_mass_b = one; inv_i_a = mat3_zero; inv_i_b = mat3_zero; fixed_rotation = true }))
    (Weld (with_indices default_weld (pos a) (pos b)))
    no_angles

-- a body that moves along x
abbrev pub moving : Float → ℕ → BodyState
moving x flags = with_flags (with_velocities identity_body_state (vec3 x zero zero) vec3_zero) flags

-- Bodies 0, 1, 2 move by 4, 0 and 8; joint 0 holds 0 and 1 together, joint 1 holds 1 and 2. Body 1, in the middle, has the flags given; the others are dynamic.
unfoldable pub chain : ℕ → Scene
chain flags =
    record {
      joints = weld 0 1 ∷ weld 1 2 ∷ replicate 30 unused_joint;
      bodies = moving four 0x1000 ∷ moving zero flags ∷ moving eight 0x1000 ∷ replicate 29 identity_body_state;
      joint_count = 2;
      body_count = 3;
      context = default_context;
    }

-- a solve without bias of each joint, in the one order and in the other
abbrev pub first_then_second : List ℕ
first_then_second = 0 ∷ 2 ∷ 1 ∷ 2 ∷ []

abbrev pub second_then_first : List ℕ
second_then_first = 1 ∷ 2 ∷ 0 ∷ 2 ∷ []
