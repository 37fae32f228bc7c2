-- A row's bias with the two scales of its impulse, for rows of one, two and three dimensions, and the impulse of a soft row. Definitions only. Assumes nothing.
use Rattle.std.specs.Prelude.{Bool, cond, Float}
use Rattle.math_functions.specs.declared.types.Vec2.{Vec2}
use Rattle.math_functions.specs.declared.types.Vec3.{Vec3}
use Rattle.math_functions.specs.Float.{◌⊕◌, ◌⊖◌, ◌⊗◌, neg, gt, zero, one}
use Rattle.math_functions.specs.Types.{vec2_zero, vec3_zero}
use Rattle.math_functions.specs.Scalar.{max_float}
use Rattle.math_functions.specs.Vector.{sub, mul_sub, mul_sv}
use Rattle.math_functions.specs.Internal.{sub2, mul_sv2}
use Rattle.solver.specs.declared.Softness.{Softness}
use Rattle.constraint.specs.declared.soft.SoftBias.{SoftBias}

abbrev pub scaled : {V : Type 0} → V → Float → Float → SoftBias V
scaled bias mass_scale impulse_scale = record { bias = bias; mass_scale = mass_scale; impulse_scale = impulse_scale }

-- the bias of a row that is not softened, of a row of any dimension: its bias is the dimension's zero
abbrev pub rigid_of : {V : Type 0} → V → SoftBias V
rigid_of nought = scaled nought one zero

abbrev pub rigid : SoftBias Float
rigid = rigid_of zero

abbrev pub rigid2 : SoftBias Vec2
rigid2 = rigid_of vec2_zero

abbrev pub rigid3 : SoftBias Vec3
rigid3 = rigid_of vec3_zero

-- the bias of a soft row of any dimension, of the constraint's error c, where `times` multiplies by a number
unfoldable pub soft_bias_of : {V : Type 0} → (Float → V → V) → Softness → V → SoftBias V
soft_bias_of times s c = scaled (times s.bias_rate c) s.mass_scale s.impulse_scale

-- of numbers
abbrev pub times1 : Float → Float → Float
times1 s c = s ⊗ c

abbrev pub minus1 : Float → Float → Float
minus1 a b = a ⊖ b

abbrev pub soft_bias : Softness → Float → SoftBias Float
soft_bias s c = soft_bias_of times1 s c

abbrev pub soft_bias2 : Softness → Vec2 → SoftBias Vec2
soft_bias2 s c = soft_bias_of mul_sv2 s c

abbrev pub soft_bias3 : Softness → Vec3 → SoftBias Vec3
soft_bias3 s c = soft_bias_of mul_sv s c

-- document 01's limit rows: gap above zero gives bias gap × inv_h; else the softness if the call has bias; else none
unfoldable pub limit_bias : Float → Softness → Float → Bool → SoftBias Float
limit_bias c s inv_h use_bias = cond (gt c zero) (scaled (c ⊗ inv_h) one zero) (cond use_bias (soft_bias s c) rigid)

unfoldable pub soft_impulse : SoftBias Float → Float → Float → Float → Float
soft_impulse s mass cdot old_impulse = neg s.mass_scale ⊗ mass ⊗ (cdot ⊕ s.bias) ⊖ s.impulse_scale ⊗ old_impulse

-- document 01's limit rows: the sum, and the impulse becomes max_float(sum, 0.0)
unfoldable pub limit_sum : SoftBias Float → Float → Float → Float → Float
limit_sum s mass cdot old_impulse = old_impulse ⊕ soft_impulse s mass cdot old_impulse

unfoldable pub limit_impulse : SoftBias Float → Float → Float → Float → Float
limit_impulse s mass cdot old_impulse = max_float (limit_sum s mass cdot old_impulse) zero

-- weld's rows, spherical's spring and point row
unfoldable pub soft_impulse3 : SoftBias Vec3 → Vec3 → Vec3 → Vec3
soft_impulse3 s b old_impulse = mul_sub (mul_sv (neg s.mass_scale) b) s.impulse_scale old_impulse

-- revolute's rows subtract two products where the others use mul_sub: other text, the same operations. `times` multiplies by a number
unfoldable pub soft_impulse_of : {V : Type 0} → (Float → V → V) → (V → V → V) → SoftBias V → V → V → V
soft_impulse_of times minus s b old_impulse = minus (times (neg s.mass_scale) b) (times s.impulse_scale old_impulse)

abbrev pub soft_impulse2_products : SoftBias Vec2 → Vec2 → Vec2 → Vec2
soft_impulse2_products s b old_impulse = soft_impulse_of mul_sv2 sub2 s b old_impulse

abbrev pub soft_impulse3_products : SoftBias Vec3 → Vec3 → Vec3 → Vec3
soft_impulse3_products s b old_impulse = soft_impulse_of mul_sv sub s b old_impulse
