-- Document 01's rows of a revolute solve, in order (spring, motor, lower, upper, two perpendicular axes, point): by which test each is worked, and how many
-- are worked. The solve's definition makes the same tests, but does not cite these yet. Definitions only. Assumes nothing.
use Rattle.std.specs.Prelude.{Bool, not, ℕ}
use Rattle.records.specs.declared.joint.RevoluteJoint.{RevoluteJoint}
use Rattle.constraint.specs.Angular.{is_worked}
use Rattle.row_count.specs.Rows.{sum_rows}

abbrev pub spring_worked : Bool → RevoluteJoint → Bool
spring_worked fixed_rotation j = is_worked j.enable_spring fixed_rotation

abbrev pub motor_worked : Bool → RevoluteJoint → Bool
motor_worked fixed_rotation j = is_worked j.enable_motor fixed_rotation

-- lower and upper
abbrev pub limit_worked : Bool → RevoluteJoint → Bool
limit_worked fixed_rotation j = is_worked j.enable_limit fixed_rotation

-- the two perpendicular axes have no switch
abbrev pub perp_worked : Bool → Bool
perp_worked fixed_rotation = not fixed_rotation

-- C-19: the rows that a solve works
unfoldable pub count_rows : Bool → RevoluteJoint → ℕ
count_rows fixed_rotation j =
    sum_rows (spring_worked fixed_rotation j) (motor_worked fixed_rotation j) (limit_worked fixed_rotation j) (perp_worked fixed_rotation)
