-- Steps of the code that the Rust does not have. No definition that is written from the Rust cites them. Definitions only. Assumes nothing.
use Rattle.std.specs.Prelude.{Bool, true, Float}
use Rattle.math_functions.specs.declared.types.Vec3.{Vec3}
use Rattle.math_functions.specs.Float.{◌⊖◌}
use Rattle.math_functions.specs.Vector.{sub, dot}
use Rattle.solver.specs.declared.Softness.{Softness}
use Rattle.constraint.specs.declared.velocity.Velocities.{Velocities}
use Rattle.constraint.specs.declared.velocity.InvMasses.{InvMasses}
use Rattle.constraint.specs.declared.soft.SoftBias.{SoftBias}
use Rattle.constraint.specs.declared.angular.Row.{Row}
use Rattle.constraint.specs.declared.angular.LimitRows.{LimitRows}
use Rattle.constraint.specs.declared.angular.TwistLimit.{TwistLimit}
use Rattle.constraint.specs.Velocity.{apply_axial_flipped}
use Rattle.constraint.specs.Soft.{limit_sum}
use Rattle.constraint.specs.Angular.{row, twist_limit_rows}

-- the sum of a lower limit's row, which `lower_limit_row` keeps from falling below zero
unfoldable pub lower_limit_sum : SoftBias Float → Float → Vec3 → Float → Velocities → Float
lower_limit_sum s mass axis old_impulse v = limit_sum s mass (dot (sub v.w_b v.w_a) axis) old_impulse

-- the same of `upper_limit_row`
unfoldable pub upper_limit_sum : SoftBias Float → Float → Vec3 → Float → Velocities → Float
upper_limit_sum s mass axis old_impulse v = limit_sum s mass (dot (sub v.w_a v.w_b) axis) old_impulse

-- an upper limit's row that brings its impulse to a value
unfoldable pub upper_row_to : Float → Float → Vec3 → InvMasses → Velocities → Row Float
upper_row_to impulse old_impulse axis m v = row impulse (apply_axial_flipped m (impulse ⊖ old_impulse) axis v)

-- the rows of a twist limit where they are worked
unfoldable pub worked_limit_rows : TwistLimit → Softness → Float → Bool → InvMasses → Velocities → LimitRows
worked_limit_rows l softness inv_h use_bias m v = twist_limit_rows true l softness inv_h use_bias m v
