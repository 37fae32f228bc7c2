-- Angular rows: the limits about an axis, and the row of three dimensions with its softness. Definitions only. Assumes nothing.
use Rattle.std.specs.Prelude.{Bool, not, cond, ◌&&◌, Float}
use Rattle.std.specs.Float.{nan}
use Rattle.math_functions.specs.declared.types.Vec3.{Vec3}
use Rattle.math_functions.specs.declared.types.Quat.{Quat}
use Rattle.math_functions.specs.declared.types.Matrix3.{Matrix3}
use Rattle.math_functions.specs.Float.{◌⊖◌}
use Rattle.math_functions.specs.Vector.{add, sub, dot}
use Rattle.math_functions.specs.Quat.{get_twist_angle, get_swing_angle}
use Rattle.math_functions.specs.Matrix.{mul_mv}
use Rattle.solver.specs.declared.Softness.{Softness}
use Rattle.constraint.specs.declared.velocity.Velocities.{Velocities}
use Rattle.constraint.specs.declared.velocity.InvMasses.{InvMasses}
use Rattle.constraint.specs.declared.soft.SoftBias.{SoftBias}
use Rattle.constraint.specs.declared.angular.Row.{Row}
use Rattle.constraint.specs.declared.angular.LimitRows.{LimitRows}
use Rattle.constraint.specs.declared.angular.RowAxis.{RowAxis}
use Rattle.constraint.specs.declared.angular.TwistLimit.{TwistLimit}
use Rattle.constraint.specs.Velocity.{apply_axial, apply_axial_flipped, apply_angular}
use Rattle.constraint.specs.Soft.{limit_bias, limit_impulse, soft_impulse3}

abbrev pub row : {V : Type 0} → V → Velocities → Row V
row impulse velocities = record { impulse = impulse; velocities = velocities }

-- the axis that a row works about, and the effective mass about it
abbrev pub row_axis : Vec3 → Float → RowAxis
row_axis axis mass = record { axis = axis; mass = mass }

abbrev pub limit_rows : Float → Float → Velocities → LimitRows
limit_rows lower_impulse upper_impulse velocities = record { lower_impulse = lower_impulse; upper_impulse = upper_impulse; velocities = velocities }

-- a row with a switch is worked if that is on and rotation is not fixed
unfoldable pub is_worked : Bool → Bool → Bool
is_worked enabled fixed_rotation = enabled && not fixed_rotation

-- C-11: 'the angle of each limit row that it works and NaN for one that it does not'. The float that a solve stores, and hands to the limit's rows, which read
-- it only where they are worked: the twist angle for revolute's limit and spherical's twist limit, the swing angle for the cone
unfoldable pub twist_angle_if : Bool → Quat → Float
twist_angle_if worked rel_q = cond worked (get_twist_angle rel_q) nan

unfoldable pub swing_angle_if : Bool → Quat → Float
swing_angle_if worked rel_q = cond worked (get_swing_angle rel_q) nan

-- revolute's lower limit, spherical's lower twist limit
unfoldable pub lower_limit_row : SoftBias Float → Float → Vec3 → Float → InvMasses → Velocities → Row Float
lower_limit_row s mass axis old_impulse m v =
    let cdot = dot (sub v.w_b v.w_a) axis in
    let impulse = limit_impulse s mass cdot old_impulse in
    row impulse (apply_axial m (impulse ⊖ old_impulse) axis v)

-- revolute's upper limit, spherical's upper twist limit and cone: sign flipped on cdot and on the applied impulse
unfoldable pub upper_limit_row : SoftBias Float → Float → Vec3 → Float → InvMasses → Velocities → Row Float
upper_limit_row s mass axis old_impulse m v =
    let cdot = dot (sub v.w_a v.w_b) axis in
    let impulse = limit_impulse s mass cdot old_impulse in
    row impulse (apply_axial_flipped m (impulse ⊖ old_impulse) axis v)

-- weld's angular row, spherical's spring
unfoldable pub angular_row : SoftBias Vec3 → Matrix3 → Vec3 → InvMasses → Velocities → Row Vec3
angular_row s mass old_impulse m v =
    let cdot = sub v.w_b v.w_a in
    let impulse = soft_impulse3 s (mul_mv mass (add cdot s.bias)) old_impulse in
    row (add old_impulse impulse) (apply_angular m impulse v)

-- revolute's limit, spherical's twist limit: the lower row, then the upper row, both at one angle
unfoldable pub twist_limit_rows : Bool → TwistLimit → Softness → Float → Bool → InvMasses → Velocities → LimitRows
twist_limit_rows worked l s inv_h use_bias m v =
    let lower_bias = limit_bias (l.angle ⊖ l.lower_angle) s inv_h use_bias in
    let lower = lower_limit_row lower_bias l.about.mass l.about.axis l.lower_impulse m v in
    let upper_bias = limit_bias (l.upper_angle ⊖ l.angle) s inv_h use_bias in
    let upper = upper_limit_row upper_bias l.about.mass l.about.axis l.upper_impulse m lower.velocities in
    cond (not worked) (limit_rows l.lower_impulse l.upper_impulse v) (limit_rows lower.impulse upper.impulse upper.velocities)
