-- A wall of 32 gates: the first hangs on a post and each other on the one before it. Definitions only. Assumes nothing.
use Rattle.std.specs.Prelude.{Bool, true, false, cond, List, [], ◌∷◌, ◌++◌, ℕ, zero, suc, ◌-◌, ◌%◌, eqb, Option, Some, None, Float, pos}
use Rattle.std.specs.Float.Ieee as Ieee
use Rattle.std.specs.Float.{binary32}
use Rattle.math_functions.specs.Float.{◌⊖◌, ◌⊗◌}
use Rattle.math_functions.specs.Constants.{decimal}
use Rattle.math_functions.specs.Types.{vec3, quat}
use Rattle.records.specs.declared.body.BodyRecord.{BodyRecord}
use Rattle.records.specs.declared.body.BodyState.{BodyState}
use Rattle.records.specs.declared.joint.JointSim.{JointSim}
use Rattle.scene.specs.declared.Scene.{Scene}
use Rattle.models.specs.declared.Model.{Model}
use Rattle.bench_wall.specs.declared.wall.Kind.{Kind}
use Rattle.bench_wall.specs.declared.wall.Kind.TheVariants.{Revolute, Spherical, Weld}
use Rattle.joint.specs.Prepare.{prepare_joint}
use Rattle.models.specs.Model.{step}
use Rattle.models.specs.Body.{fixed_body, slab, moving}
use Rattle.models.specs.Door.{door}
use Rattle.models.specs.Hip.{hip}
use Rattle.models.specs.Strut.{strut}

-- the kind of gate k: that of the wall, or the three in turn
abbrev pub gate_kind : Option Kind → ℕ → Kind
gate_kind (Some kind) k = kind
gate_kind None k = cond (eqb (k % 3) 0) Revolute (cond (eqb (k % 3) 1) Spherical Weld)

-- the model whose joint is of the kind
abbrev pub model : Kind → ℕ → Model
model Revolute k = door k
model Spherical k = hip k k
model Weld k = strut k

-- the model whose joint gate k hangs by
abbrev pub model_of : Option Kind → ℕ → Model
model_of kind k = model (gate_kind kind k) k

-- the float of a gate's number
abbrev pub float : ℕ → Float
float k = Ieee.of_int binary32 (pos k)

unfoldable pub gate_body : ℕ → BodyRecord
gate_body k = slab k (float k)

-- what gate k hangs on: the post, or the gate before it
unfoldable pub body_before : ℕ → BodyRecord
body_before k = cond (eqb k 0) fixed_body (gate_body (k - 1))

-- gate k before prepare: the model's joint between the gate's bodies
unfoldable pub gate : Option Kind → ℕ → Model
gate kind k = record { joint = (model_of kind k).joint; body_a = body_before k; body_b = gate_body k }

unfoldable pub prepared_joint : Option Kind → ℕ → JointSim
prepared_joint kind k = let m = gate kind k in (prepare_joint m.joint step m.body_a m.body_b).joint

unfoldable pub unprepared_joint : Option Kind → ℕ → JointSim
unprepared_joint kind k = (model_of kind k).joint

unfoldable pub joint_of : Option Kind → ℕ → Bool → JointSim
joint_of kind k is_prepared = cond is_prepared (prepared_joint kind k) (unprepared_joint kind k)

-- f 0, f 1 and so on: n of them
unfoldable pub each : {A : Type 0} → ℕ → (ℕ → A) → List A
each zero f = []
each (suc n) f = each n f ++ (f n ∷ [])

unfoldable pub joints_of : Option Kind → Bool → List JointSim
joints_of kind is_prepared = each 32 (λ k. joint_of kind k is_prepared)

-- each gate moves and turns a little more than the one before it
unfoldable pub gate_state : ℕ → BodyState
gate_state k =
    let state = moving (decimal 25 2) in
    let more = decimal 3125 5 ⊗ float k in
    record {
      linear_velocity = vec3 state.linear_velocity.x more state.linear_velocity.z;
      angular_velocity = vec3 state.angular_velocity.x state.angular_velocity.y (decimal 5 1 ⊖ more);
      delta_position = state.delta_position;
      delta_rotation =
          quat (vec3 state.delta_rotation.v.x state.delta_rotation.v.y (decimal 3 2 ⊗ more)) state.delta_rotation.s;
      flags = state.flags;
    }

unfoldable pub gate_states : List BodyState
gate_states = each 32 gate_state

unfoldable pub wall_of : Option Kind → Bool → Scene
wall_of kind is_prepared =
    record { joints = joints_of kind is_prepared; bodies = gate_states; joint_count = 32; body_count = 32; context = step }

-- the wall with its joints before prepare, and after it
unfoldable pub unprepared_wall : Option Kind → Scene
unprepared_wall kind = wall_of kind false

unfoldable pub wall : Option Kind → Scene
wall kind = wall_of kind true
