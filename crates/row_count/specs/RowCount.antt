-- The rows that a solve of a joint of any kind works, from the joint alone (C-19). Definitions only. Assumes nothing.
use Rattle.std.specs.Prelude.{Bool, ℕ}
use Rattle.records.specs.declared.joint.JointSim.{JointSim}
use Rattle.records.specs.declared.joint.JointUnion.{JointUnion}
use Rattle.records.specs.declared.joint.JointUnion.TheVariants.{Revolute, Spherical, Weld, Other}
use Rattle.row_count.specs.Revolute as R
use Rattle.row_count.specs.Spherical as S
use Rattle.row_count.specs.Weld as W

-- by the joint's case; the empty one is refused: 'a warm start or refusal has 0'
unfoldable pub rows_of_case : Bool → JointUnion → ℕ
rows_of_case fixed_rotation (Revolute r) = R.count_rows fixed_rotation r
rows_of_case fixed_rotation (Spherical r) = S.count_rows fixed_rotation r
rows_of_case fixed_rotation (Weld w) = W.count_rows fixed_rotation
rows_of_case fixed_rotation Other = 0

abbrev pub rows_of : JointSim → ℕ
rows_of joint = rows_of_case joint.base.fixed_rotation joint.union_
