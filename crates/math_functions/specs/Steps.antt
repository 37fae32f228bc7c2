-- Steps of the code that the Rust has inside its functions. No definition that is written from the Rust cites them. Definitions only. Assumes nothing.
use Rattle.std.specs.Prelude.{cond}
use Rattle.std.specs.Prelude.{Float}
use Rattle.math_functions.specs.declared.types.Quat.{Quat}
use Rattle.math_functions.specs.Float.{◌⊖◌, ◌⊘◌, gt}
use Rattle.math_functions.specs.Types.{quat}
use Rattle.math_functions.specs.Scalar.{min_float, max_float, half_pi, atan_unit}
use Rattle.math_functions.specs.Vector.{sub}

-- a - b, component by component
unfoldable pub sub_quat : Quat → Quat → Quat
sub_quat a b = quat (sub a.v b.v) (a.s ⊖ b.s)

-- the part of `atan2` between the absolute values and the signs
unfoldable pub first_quadrant_angle : Float → Float → Float
first_quadrant_angle y x =
    let mx = max_float y x in
    let mn = min_float y x in
    let r = atan_unit (mn ⊘ mx) in
    cond (gt y x) (half_pi ⊖ r) r
