-- What a scene holds, what its joints name, and how a body is read and stored. Definitions only. Assumes nothing.
use Rattle.std.specs.Prelude.{◌≡◌, ◌⊎◌, true, List, ℕ, ℤ, pos, negsuc, get_or, set, replicate}
use Rattle.math_functions.specs.declared.types.Vec3.{Vec3}
use Rattle.solver.specs.declared.StepContext.{StepContext}
use Rattle.records.specs.declared.body.BodyState.{BodyState}
use Rattle.records.specs.declared.joint.JointUnion.{JointUnion}
use Rattle.records.specs.declared.joint.JointSim.{JointSim}
use Rattle.records.specs.Body.{is_dynamic, store_velocities, identity_body_state}
use Rattle.records.specs.Joint.{unused_joint}
use Rattle.joint.specs.Index.{index_a, index_b}
use Rattle.scene.specs.declared.Scene.{Scene}

-- a scene with no joints and no bodies
abbrev pub empty_scene : StepContext → Scene
empty_scene context =
    record { joints = replicate 32 unused_joint; bodies = replicate 32 identity_body_state; joint_count = 0; body_count = 0; context = context }

-- the scene with these bodies and joints, and its counts and its context as they were
abbrev pub with_bodies_and_joints : Scene → List BodyState → List JointSim → Scene
with_bodies_and_joints s bodies joints =
    record { joints = joints; bodies = bodies; joint_count = s.joint_count; body_count = s.body_count; context = s.context }

-- ---- joints

-- the joint in a slot; past the end, where no accepted call comes, one that is not in use
abbrev pub joint_at : Scene → ℕ → JointSim
joint_at s j = get_or s.joints j unused_joint

-- ---- bodies

-- the body of a number
abbrev pub body_at : Scene → ℕ → BodyState
body_at s n = get_or s.bodies n identity_body_state

-- the state at an index: -1 reads the identity state
abbrev pub state_at : List BodyState → ℤ → BodyState
state_at bodies (pos n) = get_or bodies n identity_body_state
state_at bodies (negsuc n) = identity_body_state

-- new velocities stored at an index, only if the body there is dynamic; -1 is never written
unfoldable pub store : List BodyState → ℤ → Vec3 → Vec3 → List BodyState
store bodies (pos n) v w = set bodies n (store_velocities (get_or bodies n identity_body_state) v w)
store bodies (negsuc n) v w = bodies

-- ---- document 01's words for a scene

-- 'a body is dynamic' if its flags have bit 0x1000
abbrev pub Dynamic : Scene → ℕ → Type 0
Dynamic s n = is_dynamic (body_at s n) ≡ true

-- 'a joint names the bodies at its two indices; -1 is none'
abbrev pub NamesBody : JointUnion → ℕ → Type 0
NamesBody union n = (index_a union ≡ pos n) ⊎ (index_b union ≡ pos n)

abbrev pub Names : Scene → ℕ → ℕ → Type 0
Names s j n = NamesBody (joint_at s j).union_ n

-- 'two joints share a body if both name it', and here one that is dynamic
abbrev pub ShareDynamic : Scene → ℕ → ℕ → Type 0
ShareDynamic s j k = (n : ℕ) × Names s j n × Names s k n × Dynamic s n
