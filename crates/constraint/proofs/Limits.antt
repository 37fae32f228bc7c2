-- An upper limit's row by its two cases, of which each is a branch of the code. Assumes nothing.
use mathlib.Core.Path.{◌≡◌}
use mathlib.Core.Bool.{true, false}
use lib.Ieee.{Float}
use Rattle.math_functions.specs.declared.types.Vec3.{Vec3}
use Rattle.math_functions.specs.Float.{gt, zero}
use Rattle.math_functions.specs.Scalar.{max_float}
use Rattle.constraint.specs.declared.soft.SoftBias.{SoftBias}
use Rattle.constraint.specs.declared.velocity.Velocities.{Velocities}
use Rattle.constraint.specs.declared.velocity.InvMasses.{InvMasses}
use Rattle.constraint.specs.declared.angular.Row.{Row}
use Rattle.constraint.specs.Soft.{limit_impulse}
use Rattle.constraint.specs.Angular.{upper_limit_row}
use Rattle.constraint.specs.Steps.{upper_limit_sum, upper_row_to}

module _ (s : SoftBias Float) (mass : Float) (axis : Vec3) (old : Float) (m : InvMasses) (v : Velocities) {sum : Float} {row : Row Float} where
  pub upper_pushes : row ≡ upper_row_to sum old axis m v → sum ≡ upper_limit_sum s mass axis old v → gt sum zero ≡ true
      → row ≡ upper_limit_row s mass axis old m v
  unfolding upper_limit_row upper_limit_sum upper_row_to limit_impulse max_float
  upper_pushes to is pushes = rw (← is, pushes) to

  pub upper_rests : row ≡ upper_row_to zero old axis m v → sum ≡ upper_limit_sum s mass axis old v → gt sum zero ≡ false
      → row ≡ upper_limit_row s mass axis old m v
  unfolding upper_limit_row upper_limit_sum upper_row_to limit_impulse max_float
  upper_rests to is rests = rw (← is, rests) to
