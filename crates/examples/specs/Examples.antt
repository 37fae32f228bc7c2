-- Document 01's sixteen examples: a table of what the definitions give beside what they must give. Definitions, and the statement about them. Assumes nothing.
use Rattle.std.specs.Prelude.{◌≡◌, ℕ, false, List, [], ◌∷◌, pos, Float}
use Rattle.std.specs.Float.{nan}
use Rattle.sqrt.specs.Sqrt as Root
use Rattle.math_functions.specs.declared.types.Vec2.{Vec2}
use Rattle.math_functions.specs.declared.types.Vec3.{Vec3}
use Rattle.math_functions.specs.Float.{neg, lit, zero, one, two}
use Rattle.math_functions.specs.Types.{vec2, vec3, matrix3, mat2, mat3_zero}
use Rattle.math_functions.specs.Scalar as Scalar
use Rattle.math_functions.specs.Matrix as Matrix
use Rattle.solver.specs.declared.Softness.{Softness}
use Rattle.solver.specs.Solver as Solver
use Rattle.records.specs.declared.joint.JointUnion.{JointUnion}
use Rattle.records.specs.declared.joint.JointUnion.TheVariants.{Revolute, Spherical, Weld, Other}
use Rattle.records.specs.declared.body.BodyState.{BodyState}
use Rattle.records.specs.Joint.{joint_sim}
use Rattle.weld.specs.Weld as W
use Rattle.scene.specs.Scene.{state_at}
use Rattle.scene.specs.Calls.{Every}
use Rattle.scene.specs.Chain.{four}
use Rattle.direct.specs.Direct.{revolute, weld, warm_start, solve, Outcome, direct_call}
use Rattle.examples.specs.Joints.{half, step, motor_joint, free0, free1, fixed, prepared_weld, prepared_hinge, moving, linear_impulse_x, motor_impulse}

-- what the definitions give, and what they must give
pub record Example : Type 0 where
  pub gives : List Float
  pub must : List Float

abbrev pub Holds : Example → Type 0
Holds e = e.gives ≡ e.must

abbrev example : List Float → List Float → Example
example gives must = record { gives = gives; must = must }

-- 3, 5 and 6
abbrev three : Float
three = lit 0x4040_0000

abbrev five : Float
five = lit 0x40a0_0000

abbrev six : Float
six = lit 0x40c0_0000

abbrev parts2 : Vec2 → List Float
parts2 v = v.x ∷ v.y ∷ []

abbrev parts3 : Vec3 → List Float
parts3 v = v.x ∷ v.y ∷ v.z ∷ []

abbrev soft_parts : Softness → List Float
soft_parts s = s.bias_rate ∷ s.mass_scale ∷ s.impulse_scale ∷ []

-- its linear impulse set to (1, 0, 0) after prepare
abbrev pushed : JointUnion → JointUnion
pushed (Revolute j) = Revolute j
pushed (Spherical j) = Spherical j
pushed (Weld j) = Weld (W.with_impulses j (vec3 one zero zero) j.angular_impulse)
pushed Other = Other

-- the state of a number, as a call leaves it
abbrev leaves : Outcome → ℕ → BodyState
leaves after n = state_at after.states (pos n)

-- two welded bodies of inverse mass 1, one at rest and one at 2 along x: the velocities along x, and the impulse
unfoldable pub example13 : Example
example13 =
    let after = direct_call (solve weld (step zero) false) (prepared_weld free0 free1) (moving zero ∷ moving two ∷ []) in
    example
    ((leaves after 0).linear_velocity.x ∷ (leaves after 1).linear_velocity.x ∷ linear_impulse_x after.joint.union_ ∷ [])
    (one ∷ one ∷ neg one ∷ [])

-- the same with A at -1
unfoldable pub example14 : Example
example14 =
    let after = direct_call (solve weld (step zero) false) (prepared_weld fixed free0) (moving two ∷ []) in
    example ((leaves after 0).linear_velocity.x ∷ linear_impulse_x after.joint.union_ ∷ []) (zero ∷ neg two ∷ [])

-- a motor of torque 2 and speed 4, for half a second
unfoldable pub example15 : Example
example15 =
    let sim = prepared_hinge (motor_joint two four) (step half) in
    let after = direct_call (solve revolute (step half) false) sim (moving zero ∷ []) in
    example (motor_impulse after.joint.union_ ∷ (leaves after 0).angular_velocity.z ∷ []) (one ∷ one ∷ [])

-- a warm start with both indices 0: B's velocity remains
unfoldable pub example16 : Example
example16 =
    let sim = prepared_weld free0 free0 in
    let after = direct_call (warm_start weld) (joint_sim sim.base (pushed sim.union_) sim.angles) (moving two ∷ []) in
    example ((leaves after 0).linear_velocity.x ∷ []) (three ∷ [])

unfoldable pub table : List Example
table =
    example (Scalar.max_float nan zero ∷ []) (zero ∷ [])
    ∷ example (Scalar.max_float (neg zero) zero ∷ []) (zero ∷ [])
    ∷ example (Scalar.clamp_float five two (neg two) ∷ []) (neg two ∷ [])
    ∷ example (Scalar.clamp_float zero two (neg two) ∷ []) (two ∷ [])
    ∷ example (soft_parts (Solver.make_soft zero one one)) (zero ∷ zero ∷ zero ∷ [])
    ∷ example (parts3 (Matrix.solve3 (matrix3 (vec3 two zero zero) (vec3 zero two zero) (vec3 zero zero two)) (vec3 two four six))) (one ∷ two ∷ three ∷ [])
    ∷ example (parts3 (Matrix.solve3 mat3_zero (vec3 two four six))) (zero ∷ zero ∷ zero ∷ [])
    ∷ example (parts2 (Matrix.solve2 (mat2 (vec2 two zero) (vec2 zero four)) (vec2 two four))) (one ∷ one ∷ [])
    ∷ example (parts2 (Matrix.solve2 (mat2 (vec2 two zero) (vec2 zero (neg four))) (vec2 two four))) (zero ∷ zero ∷ [])
    ∷ example (Root.sqrt four ∷ []) (two ∷ [])
    ∷ example (Root.sqrt (neg zero) ∷ []) (neg zero ∷ [])
    ∷ example (Root.sqrt two ∷ []) (lit 0x3fb5_04f3 ∷ [])
    ∷ example13
    ∷ example14
    ∷ example15
    ∷ example16
    ∷ []

-- 'the sixteen are proved about the definitions together, as a table under one theorem'
abbrev pub Sixteen : Type 0
Sixteen = Every Holds table
