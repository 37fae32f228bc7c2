-- What holds of the rows that a solve of a joint works, in the words of document 01 and of C-19. Statements only: each is proved in proofs/Counted.antt, under
-- the same name in small letters. No solve reports this number yet. Assumes nothing.
use Rattle.std.specs.Prelude.{◌≡◌, Bool, true, false, cond, ℕ, ◌+◌, ◌≤◌}
use Rattle.records.specs.declared.joint.JointSim.{JointSim}
use Rattle.records.specs.declared.joint.JointUnion.TheVariants.{Revolute, Spherical, Weld, Other}
use Rattle.records.specs.declared.joint.RevoluteJoint.{RevoluteJoint}
use Rattle.records.specs.declared.joint.SphericalJoint.{SphericalJoint}
use Rattle.records.specs.declared.joint.WeldJoint.{WeldJoint}
use Rattle.row_count.specs.RowCount.{rows_of}

-- what the rows of a switch count: `n` where it is on, and else 0
abbrev pub count_if_on : Bool → ℕ → ℕ
count_if_on switch n = cond switch n 0

-- 'the rows that document 01's order names for the joint's switches and fixed rotation', where rotation is not fixed. 'A pair (lower, upper) counts 2, the two
-- perpendicular axes count 1.' Spring, motor, lower and upper, two perpendicular axes, point
abbrev pub revolute_order : RevoluteJoint → ℕ
revolute_order r = count_if_on r.enable_spring 1 + count_if_on r.enable_motor 1 + count_if_on r.enable_limit 2 + 1 + 1

-- spring, motor, lower and upper twist, cone, point
abbrev pub spherical_order : SphericalJoint → ℕ
spherical_order r =
    count_if_on r.enable_spring 1 + count_if_on r.enable_motor 1 + count_if_on r.enable_twist_limit 2 + count_if_on r.enable_cone_limit 1 + 1

-- angular, point
abbrev pub weld_order : ℕ
weld_order = 1 + 1

-- the number: the order's where rotation is not fixed. 'All but the point row are skipped when rotation is fixed': then it is 1
pub record Named (fixed_rotation : Bool) (order rows : ℕ) : Type 0 where
  pub free : fixed_rotation ≡ false → rows ≡ order
  pub fixed : fixed_rotation ≡ true → rows ≡ 1

pub record NamedRows (joint : JointSim) : Type 0 where
  pub revolute : (r : RevoluteJoint) → joint.union_ ≡ Revolute r → Named joint.base.fixed_rotation (revolute_order r) (rows_of joint)
  pub spherical : (r : SphericalJoint) → joint.union_ ≡ Spherical r → Named joint.base.fixed_rotation (spherical_order r) (rows_of joint)
  pub weld : (w : WeldJoint) → joint.union_ ≡ Weld w → Named joint.base.fixed_rotation weld_order (rows_of joint)
  pub empty : joint.union_ ≡ Other → rows_of joint ≡ 0

abbrev pub RowsNamed : Type 0
RowsNamed = (joint : JointSim) → NamedRows joint

-- 'at most 6 a call for revolute and spherical, 2 for weld', and at least the point row
pub record Between (rows most : ℕ) : Type 0 where
  pub at_least : 1 ≤ rows
  pub at_most : rows ≤ most

pub record BoundedRows (joint : JointSim) : Type 0 where
  pub revolute : (r : RevoluteJoint) → joint.union_ ≡ Revolute r → Between (rows_of joint) 6
  pub spherical : (r : SphericalJoint) → joint.union_ ≡ Spherical r → Between (rows_of joint) 6
  pub weld : (w : WeldJoint) → joint.union_ ≡ Weld w → Between (rows_of joint) 2
  pub any : rows_of joint ≤ 6

abbrev pub RowsBounded : Type 0
RowsBounded = (joint : JointSim) → BoundedRows joint
