-- The two texts of a soft row's impulse, mul_sub and the difference of two products, are the same operations. Assumes nothing.
use Rattle.std.specs.Prelude.{◌≡◌, refl}
use Rattle.math_functions.specs.declared.types.Vec3.{Vec3}
use Rattle.math_functions.specs.Vector.{sub, mul_sub, mul_sv}
use Rattle.constraint.specs.declared.soft.SoftBias.{SoftBias}
use Rattle.constraint.specs.Soft.{soft_impulse3, soft_impulse_of, soft_impulse3_products}

pub vector_impulse : (s : SoftBias Vec3) (b old : Vec3) → soft_impulse3_products s b old ≡ soft_impulse3 s b old
unfolding soft_impulse3 soft_impulse_of mul_sub mul_sv sub
vector_impulse s b old = refl
