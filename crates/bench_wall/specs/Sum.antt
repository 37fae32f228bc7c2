-- The checksum of what a stage can change. Definitions only. Assumes nothing.
use Rattle.std.specs.Prelude.{ℕ, ◌+◌, ◌*◌, ◌%◌, Float}
use Rattle.std.specs.Float.{binary32}
use Rattle.std.specs.Float.Ieee.{to_bits}
use Rattle.math_functions.specs.declared.types.Vec3.{Vec3}
use Rattle.records.specs.declared.body.BodyState.{BodyState}
use Rattle.records.specs.declared.joint.JointUnion.{JointUnion}
use Rattle.records.specs.declared.joint.JointUnion.TheVariants.{Revolute, Spherical, Weld, Other}
use Rattle.records.specs.declared.joint.JointSim.{JointSim}
use Rattle.records.specs.declared.joint.RevoluteJoint.{RevoluteJoint}
use Rattle.records.specs.declared.joint.SphericalJoint.{SphericalJoint}
use Rattle.records.specs.declared.joint.WeldJoint.{WeldJoint}

-- one more word, below a prime
unfoldable pub add_word : ℕ → ℕ → ℕ
add_word sum word = (sum * 16777619 + word) % 4294967291

-- a float by its pattern; that of a NaN is 0x7fc0_0000
unfoldable pub add_float : ℕ → Float → ℕ
add_float sum x = add_word sum (to_bits binary32 x)

unfoldable pub add_vec3 : ℕ → Vec3 → ℕ
add_vec3 sum v = add_float (add_float (add_float sum v.x) v.y) v.z

unfoldable pub add_revolute : ℕ → RevoluteJoint → ℕ
add_revolute sum j =
    let s = add_vec3 sum j.linear_impulse in
    let s = add_float (add_float s j.perp_impulse.x) j.perp_impulse.y in
    let s = add_float (add_float s j.spring_impulse) j.motor_impulse in
    add_float (add_float s j.lower_impulse) j.upper_impulse

unfoldable pub add_spherical : ℕ → SphericalJoint → ℕ
add_spherical sum j =
    let s = add_vec3 sum j.linear_impulse in
    let s = add_vec3 (add_vec3 s j.spring_impulse) j.motor_impulse in
    let s = add_float (add_float s j.lower_twist_impulse) j.upper_twist_impulse in
    add_float s j.swing_impulse

unfoldable pub add_weld : ℕ → WeldJoint → ℕ
add_weld sum j = add_vec3 (add_vec3 sum j.linear_impulse) j.angular_impulse

-- the impulses of the joint's kind; the empty case has none
abbrev pub add_impulses : ℕ → JointUnion → ℕ
add_impulses sum (Revolute j) = add_revolute sum j
add_impulses sum (Spherical j) = add_spherical sum j
add_impulses sum (Weld j) = add_weld sum j
add_impulses sum Other = sum

unfoldable pub add_velocities : ℕ → BodyState → ℕ
add_velocities sum state = add_vec3 (add_vec3 sum state.linear_velocity) state.angular_velocity

-- one more gate: what its joint and its body are left with
unfoldable pub add_gate : ℕ → JointSim → BodyState → ℕ
add_gate sum joint state = add_velocities (add_impulses sum joint.union_) state
