-- math_functions/transform.rs: the difference of two world positions, for f32 centres. Definitions only. Assumes nothing.
use Rattle.math_functions.specs.declared.types.Vec3.{Vec3}
use Rattle.math_functions.specs.Float.{◌⊖◌}
use Rattle.math_functions.specs.Types.{vec3}

unfoldable pub sub_pos : Vec3 → Vec3 → Vec3
sub_pos a b = vec3 (a.x ⊖ b.x) (a.y ⊖ b.y) (a.z ⊖ b.z)
