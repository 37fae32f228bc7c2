-- Document 01's rows of a spherical solve, in order (spring, motor, lower twist, upper twist, cone, point): by which test each is worked, and how many are
-- worked. The solve's definition makes the same tests, but does not cite these yet. Definitions only. Assumes nothing.
use Rattle.std.specs.Prelude.{Bool, ℕ}
use Rattle.records.specs.declared.joint.SphericalJoint.{SphericalJoint}
use Rattle.constraint.specs.Angular.{is_worked}
use Rattle.row_count.specs.Rows.{sum_rows}

abbrev pub spring_worked : Bool → SphericalJoint → Bool
spring_worked fixed_rotation j = is_worked j.enable_spring fixed_rotation

abbrev pub motor_worked : Bool → SphericalJoint → Bool
motor_worked fixed_rotation j = is_worked j.enable_motor fixed_rotation

-- lower and upper twist
abbrev pub twist_limit_worked : Bool → SphericalJoint → Bool
twist_limit_worked fixed_rotation j = is_worked j.enable_twist_limit fixed_rotation

abbrev pub cone_worked : Bool → SphericalJoint → Bool
cone_worked fixed_rotation j = is_worked j.enable_cone_limit fixed_rotation

-- C-19: the rows that a solve works
unfoldable pub count_rows : Bool → SphericalJoint → ℕ
count_rows fixed_rotation j =
    sum_rows (spring_worked fixed_rotation j) (motor_worked fixed_rotation j) (twist_limit_worked fixed_rotation j) (cone_worked fixed_rotation j)
