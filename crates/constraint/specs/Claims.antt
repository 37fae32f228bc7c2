-- What the statements about the stages are made of: an impulse that does not pull, a stage's number and place, a joint of a kind before and after, the matrix
-- of a point row.
-- Definitions only. Assumes nothing.
use Rattle.std.specs.Prelude.{◌≡◌, true, ℕ, ◌≤◌, Float, Option, Some}
use Rattle.std.specs.Float.Ieee as Ieee
use Rattle.math_functions.specs.declared.types.Matrix3.{Matrix3}
use Rattle.math_functions.specs.declared.types.Transform.{Transform}
use Rattle.math_functions.specs.Float.{zero}
use Rattle.math_functions.specs.Quat.{rotate_vector}
use Rattle.records.specs.declared.body.BodyState.{BodyState}
use Rattle.records.specs.declared.joint.JointBase.{JointBase}
use Rattle.records.specs.declared.joint.JointUnion.{JointUnion}
use Rattle.constraint.specs.Velocity.{inv_masses_of}
use Rattle.constraint.specs.Point.{point_mass}

-- 'zero or positive': 0.0 <= x by the float comparison, which is false for a NaN
pub record NonNegative (x : Float) : Type 0 where
  pub compares : Ieee.le zero x ≡ true

-- a stage's number is 0 or 1, and its place 0
pub record AtMostOne (number place : ℕ) : Type 0 where
  pub number_bound : number ≤ 1
  pub place_zero : place ≡ 0

-- two joints are of the kind, and `P` holds of their records
pub record BothOfKind {K : Type 0} (kind_of : JointUnion → Option K) (P : K → K → Type 0) (before after : JointUnion) : Type 0 where
  pub joint : K
  pub next : K
  pub was : kind_of before ≡ Some joint
  pub became : kind_of after ≡ Some next
  pub holds : P joint next

-- the matrix that a solve forms for its point row, of a joint with these two frames: r_a and r_b reach from the centres to the anchors
abbrev pub point_matrix : JointBase → Transform → Transform → BodyState → BodyState → Matrix3
point_matrix base frame_a frame_b state_a state_b =
    let r_a = rotate_vector state_a.delta_rotation frame_a.p in
    let r_b = rotate_vector state_b.delta_rotation frame_b.p in
    point_mass (inv_masses_of base) r_a r_b
